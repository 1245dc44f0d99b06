-- Document 02, request 3: "That two honest books cannot part holds across the switch." Demand 3 itself is of runs in
-- which seats switch; here stands how little the switches of requests 3 and 5 change, and what a seat keeps. The proofs
-- are in Switching.antt of the crate agreement.
use Rattle.std.specs.Prelude.{◌≤◌, ◌<◌, ◌≡◌, ◌⊎◌, true, false, List, map, Some, None}
use Rattle.laws.specs.Types.{Seat, Account, Transfer, AckSlot, Ledger, Opening, Message, Circulated, Ack, Decision, Inquiry, Reply, Propose, Refuse}
use Rattle.runs.specs.Runs.{Opens, switch, Event, Run, ◌▹◌, Within, rules_at, ledger_at, acks_with, MayReply, Obeys, acked}
use Rattle.model.specs.declared.Refusal.TheVariants.{AlreadyAcked, SelfPayment}
use Rattle.model.specs.Records.{with_retained_proposed, with_none_retained, entry_of, with_entries, with_entry}
use Rattle.model.specs.Acks.{slip_in, has_most}
use Rattle.model.specs.Refusals.{out_of_range, pays_itself}
use Rattle.model.specs.Switches.{Rules, first_rules, since_request3, since_request5, newest, rank, step_under}
use Rattle.model.specs.Calls.{payer_of, entry_for, late_in}

-- two replies are the same, or are P with two slips that have the most of these acks
abbrev pub SameSaveTies : List AckSlot → Reply → Reply → Type 0
SameSaveTies acks q r =
    (q ≡ r)
    ⊎ ((t : Transfer) × (u : Transfer) × (q ≡ Propose t) × (r ≡ Propose u) × (has_most acks t ≡ true) × (has_most acks u ≡ true))

-- between the first rules and those since request 3 no reply to this message differs, save the slip that P carries
-- on a tie, and no ledger after it
abbrev pub Alike : Ledger → Message → Type 0
Alike l m =
    (q r : Reply) → MayReply first_rules l m q → MayReply since_request3 l m r
    → SameSaveTies (acks_with l m) q r × ((step_under first_rules l m).next ≡ (step_under since_request3 l m).next)

-- "Acks and rulings for such slips are still taken, in old bundles as in new ones, because seats that
-- switch on different days would otherwise book different numbers": whatever slip they are for, and
-- whatever the ledger. So are questions.
pub record TakenAlike (l : Ledger) : Type 0 where
  pub acks : (s : Seat) (t : Transfer) → Alike l (Ack s t)
  pub rulings : (t : Transfer) → Alike l (Decision t)
  pub questions : (a : Account) → Alike l (Inquiry a)

-- the ledger, but with nothing retained: what a book of before request 5 holds of it
abbrev pub forgotten : Ledger → Ledger
forgotten l = with_entries l (map with_none_retained l.entries)

-- Request 5: "6 and 8 are unchanged otherwise", and so is all else. Whatever the ledger, between the rules since
-- request 3 and those since request 5 the late P alone differs, and what is retained: a message that brings none has
-- the same reply and leaves the same; and a late P sets the mark, and leaves all else as it was.
pub record LateAlone (l : Ledger) (m : Message) : Type 0 where
  pub otherwise : late_in l m ≡ false
      → ((step_under since_request5 l m).reply ≡ (step_under since_request3 l m).reply)
      × (forgotten (step_under since_request5 l m).next ≡ forgotten (step_under since_request3 l m).next)
  pub late : late_in l m ≡ true
      → ((step_under since_request5 l m).reply ≡ Propose (slip_in (entry_for l m).retained))
      × ((step_under since_request5 l m).next ≡ with_entry l (payer_of m) (with_retained_proposed (entry_for l m)))

-- No seat goes back to earlier rules.
abbrev pub NoneGoesBack : Type 0
NoneGoesBack = (s : Seat) (p run : Run) → Within p run → rank (rules_at s p) ≤ rank (rules_at s run)

-- A switch under the newest rules changes nothing, neither rules nor ledger, at any seat.
abbrev pub NewestStays : Type 0
NewestStays =
    (o : Opening) (s z : Seat) (run : Run) → rules_at s run ≡ newest
    → (rules_at z (run ▹ record { at = s; call = switch }) ≡ rules_at z run)
    × (ledger_at o z (run ▹ record { at = s; call = switch }) ≡ ledger_at o z run)

-- "a seat goes on with the book it holds, marks included". A slip t that a seat acked, at a later place of the run,
-- where its number is not booked:
pub record MarkStands (o : Opening) (s : Seat) (place : Run) (t : Transfer) : Type 0 where
  -- the mark stands
  pub marked : (entry_of (ledger_at o s place) t.account).acked ≡ true
  -- so after "this and every later switch" the same slip meets 20 if it pays its payer, since 20 comes before 12
  pub same_slip : (v : Rules) → rank since_request3 ≤ rank v → pays_itself t ≡ true
      → (step_under v (ledger_at o s place) (Circulated t)).reply ≡ Refuse SelfPayment
  -- and any slip of that account and number, in range and to another recipient than the
  -- payer, meets 12, where none waits
  pub other_slip : (v : Rules) → rank since_request3 ≤ rank v → (u : Transfer) → u.account ≡ t.account → u.number ≡ t.number → pays_itself u ≡ false
      → out_of_range (ledger_at o s place) u ≡ false → (entry_of (ledger_at o s place) t.account).pending ≡ None
      → (step_under v (ledger_at o s place) (Circulated u)).reply ≡ Refuse AlreadyAcked

-- whatever rules the seat had when it acked, and however often it switched since
abbrev pub MarksStand : Type 0
MarksStand =
    (o : Opening) (run p q : Run) (e : Event) (t : Transfer)
    → Opens o → Obeys o run → Within (p ▹ e) q → Within q run → acked e.call ≡ Some t
    → (entry_of (ledger_at o e.at q) t.account).current < t.number
    → MarkStands o e.at q t
