-- Document 02, request 3 and later: seats "switch on different days". The sets of rules in the order of time; what a
-- held ledger becomes at a switch; and the step under earlier rules, told by how it differs from today's. A request
-- that changes the rules adds a set, and says here what those before it lack; which reply was left free by earlier
-- rules is said where runs are (`free_slip`, in Runs.antt of runs).
use Rattle.std.specs.Prelude.{ℕ, Bool, false, cond, List, [], ◌∷◌, map, eqb, Some, None}
use Rattle.model.specs.Types.{Slot, Entry, Ledger, Outcome, Message}
use Rattle.model.specs.Replies.{code_of}
use Rattle.model.specs.Refusals.{Rule}
use Rattle.model.specs.Records.{with_retained_of, with_retained, with_none_retained, with_entries}
use Rattle.model.specs.Calls.{Effect, entry_for, late_in, rules_in, step_by}

-- The sets of rules, in the order of time.
pub data Rules : Type 0 where
  -- document 01 as it was
  first_rules : Rules
  -- since request 3 of document 02, and so with request 2
  since_request3 : Rules
  -- since request 5
  since_request5 : Rules

abbrev pub newest : Rules
newest = since_request5

-- how many sets came before
abbrev pub rank : Rules → ℕ
rank first_rules = 0
rank since_request3 = 1
rank since_request5 = 2

-- the rules to which a seat switches: the next in time. Under the newest, a switch changes nothing
abbrev pub next_rules : Rules → Rules
next_rules first_rules = since_request3
next_rules since_request3 = since_request5
next_rules since_request5 = since_request5

-- the entry that retains what stands in this place, with the mark of the next number, or nothing
abbrev pub retains_from : Slot → Entry → Entry
retains_from None e = with_none_retained e
retains_from (Some t) e = with_retained e t

-- "A book held from before retains its waiting slips with their marks, and no booked ones":
-- what an account's entry becomes
abbrev pub retains_waiting : Entry → Entry
retains_waiting e = retains_from e.pending e

-- What the ledger becomes that a seat holds when it switches from these rules to the next: "At this
-- and every later switch a seat goes on with the book it holds, marks included". To request 5 it takes
-- over what it retains from now on.
abbrev pub switched : Rules → Ledger → Ledger
switched first_rules l = l
switched since_request3 l = with_entries l (map retains_waiting l.entries)
switched since_request5 l = l

-- the rules without the one of this code
abbrev pub without_code : ℕ → List Rule → List Rule
without_code code [] = []
without_code code (r ∷ rs) = cond (eqb (code_of r.1) code) (without_code code rs) (r ∷ without_code code rs)

-- What a message meets under a set of rules, given what it meets today. Under the first rules, 20 is left out:
-- "Requests and slips whose recipient is the payer were accepted so far".
abbrev pub rules_under : Rules → List Rule → List Rule
rules_under first_rules rules = without_code 20 rules
rules_under since_request3 rules = rules
rules_under since_request5 rules = rules

-- the rules that a message meets in a ledger, under a set of rules
abbrev pub rules_met : Rules → Ledger → Message → List Rule
rules_met v l m = rules_under v (rules_in l m)

-- Whether a message brings a late P under a set of rules, given whether it does today: before request 5 none does.
abbrev pub late_under : Rules → Bool → Bool
late_under first_rules late = false
late_under since_request3 late = false
late_under since_request5 late = late

abbrev pub late_met : Rules → Ledger → Message → Bool
late_met v l m = late_under v (late_in l m)

-- the effect, but with what the entry before it retains
abbrev pub retains_as : Entry → Effect → Effect
retains_as e x = record { due = x.due; entry = with_retained_of x.entry e }

-- What a message comes to under a set of rules, given the entry before it and what it comes to today: before
-- request 5 nothing new is retained.
abbrev pub effect_under : Rules → Entry → Effect → Effect
effect_under first_rules e x = retains_as e x
effect_under since_request3 e x = retains_as e x
effect_under since_request5 e x = x

-- The outcome of a message under a set of rules.
unfoldable pub step_under : Rules → Ledger → Message → Outcome
step_under v l m = step_by (effect_under v (entry_for l m)) (late_met v l m) (rules_met v l m) l m
