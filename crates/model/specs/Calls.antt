-- Document 01, "What each message does": for each kind of call the reply and the ledger after it; and document 02,
-- request 5: the late P. A message is about one account. What it comes to is said of that account's entry (`turn_by`),
-- which is then stored; and where its slip is accepted, settling begins (`finished`). `step` is by today's rules; how
-- earlier rules differ is in Switches.antt.
use Rattle.std.specs.Prelude.{ℕ, ◌≡◌, Bool, false, cond, not, ◌&&◌, ◌||◌, List, ◌++◌, length, drop, Option, Some, None, Ok, Err}
use Rattle.model.specs.Types.{Account, Transfer, Entry, Ledger, Outcome, Refusal, Message, Request, Circulated, Ack, Decision, Inquiry, Reply, Circulate, Acknowledge, Accept, Propose, Note, Balance, Refuse, ListReply}
use Rattle.model.specs.Basics.{all_where}
use Rattle.model.specs.Records.{account_of, entry_of, set_entry, with_entry, with_entries, with_acked, with_ack, with_proposed, with_pending, with_retained, with_retained_proposed}
use Rattle.model.specs.Refusals.{Rule, first_refusal, unknown_seat, out_of_range, rules_of, list_refusal}
use Rattle.model.specs.Acks.{conflicts, acks_for, acks_recorded, enough, must_propose, slip_in, most_acked}
use Rattle.model.specs.Settling.{is_waiting, Settled, settle}

-- the account that a message is about: who pays, or the account asked for
abbrev pub payer_of : Message → Account
payer_of (Request t) = t.account
payer_of (Circulated t) = t.account
payer_of (Ack s t) = t.account
payer_of (Decision t) = t.account
payer_of (Inquiry a) = a

-- what is due: a reply; or K, since the slip is accepted, and its count is for settling to tell
pub data Due : Type 0 where
  replied : Reply → Due
  accepts : Due

-- What a message comes to at the entry of its account: what is due, and the entry after it.
pub record Effect : Type 0 where
  pub due : Due
  pub entry : Entry

-- this reply, and this entry after it
abbrev pub replies : Reply → Entry → Effect
replies r e = record { due = replied r; entry = e }

-- "its slip is accepted: reply K": "An accepted slip waits". And "The book retains for each account the latest accepted
-- slip, waiting or booked, and whether anything was put forward for its number": in place of what it retained before
abbrev pub waits : Entry → Transfer → Effect
waits e t = record { due = accepts; entry = with_pending (with_retained e t) t }

-- "If twice the count of acks equal to this slip exceeds n + 3f, the slip is accepted: reply K.
-- Otherwise, if .. reply P .. Otherwise reply N": what follows from the account's entry in which the ack
-- is recorded. P carries the most acked slip
abbrev pub tallied : Ledger → Entry → Transfer → Effect
tallied l e t =
    cond
    (enough l.seats l.faults (acks_for t e.acks))
    (waits e t)
    (cond
    (must_propose l.seats l.faults (acks_recorded e.acks) e)
    (replies (Propose (most_acked e.acks)) (with_proposed e))
    (replies Note e))

-- What a message does that is not refused.
abbrev pub effect : Ledger → Entry → Message → Effect
-- Request: "reply C (circulate it). The book stays the same."
effect l e (Request t) = replies Circulate e
-- Slip: "reply A (ack it). This seat has now acked that number."
effect l e (Circulated t) = replies Acknowledge (with_acked e)
-- Ack: "it is recorded", then the tally decides
effect l e (Ack s t) = tallied l (with_ack e s t) t
-- Ruling: "its slip is accepted: reply K."
effect l e (Decision t) = waits e t
-- Balance question: "reply B and the balance."
effect l e (Inquiry a) = replies (Balance e.balance) e

-- "A refusal replies its code and changes nothing."
abbrev pub unless_refused : Option Refusal → Entry → Effect → Effect
unless_refused None e x = x
unless_refused (Some r) e x = replies (Refuse r) e

-- "If an ack that passes 4 and 5 carries that account and number and a different slip, and nothing was put forward": of
-- the slip that the account's entry retains. No other message does this
abbrev pub must_join : Ledger → Entry → Message → Bool
must_join l e (Request t) = false
must_join l e (Circulated t) = false
must_join l e (Ack s t) = not (unknown_seat l s || out_of_range l t) && (conflicts t e.retained && not e.retained_proposed)
must_join l e (Decision t) = false
must_join l e (Inquiry a) = false

-- "the reply is P with the retained slip and not 6 or 8. The ack is not recorded." The mark is set: "It
-- happens at most once for a number"
abbrev pub joins : Entry → Effect
joins e = replies (Propose (slip_in e.retained)) (with_retained_proposed e)

-- Any message at the entry of its account: whether the seat joins in by a late P, and else by
-- the rules that the message meets.
abbrev pub turn_by : Bool → List Rule → Ledger → Entry → Message → Effect
turn_by late rules l e m = cond late (joins e) (unless_refused (first_refusal rules) e (effect l e m))

-- "K carries how many slips this call booked"
abbrev pub accepted : Ledger → Settled → Outcome
accepted l s = record { reply = Accept s.applied; next = with_entries l s.entries }

-- the entry is stored, which changes nothing where it is as it was; where its slip is accepted, "then settling begins"
abbrev pub finished_by : Ledger → Account → Due → Entry → Outcome
finished_by l a (replied r) e = record { reply = r; next = with_entry l a e }
finished_by l a accepts e = accepted l (settle (set_entry l.entries a e))

abbrev pub finished : Ledger → Account → Effect → Outcome
finished l a x = finished_by l a x.due x.entry

-- the entry of the account that a message is about
abbrev pub entry_for : Ledger → Message → Entry
entry_for l m = entry_of l (payer_of m)

-- whether a message brings a late P in a ledger, and the rules that it meets there
abbrev pub late_in : Ledger → Message → Bool
late_in l m = must_join l (entry_for l m) m

abbrev pub rules_in : Ledger → Message → List Rule
rules_in l m = rules_of l (entry_for l m) m

-- the outcome of a message by what becomes of its effect, whether it brings a late P, and the rules that it meets
abbrev pub step_by : (Effect → Effect) → Bool → List Rule → Ledger → Message → Outcome
step_by become late rules l m = finished l (payer_of m) (become (turn_by late rules l (entry_for l m) m))

-- The outcome of a message, for every ledger and every message.
unfoldable pub step : Ledger → Message → Outcome
step l m = step_by (λ x. x) (late_in l m) (rules_in l m) l m

-- Waiting list: "the accounts with a waiting slip"
abbrev pub waits_at : Ledger → ℕ → Bool
waits_at l a = is_waiting (entry_of l (account_of a))

-- document 02, request 6: "Accounts now come lowest first"
unfoldable pub waiting_accounts : Ledger → List ℕ
waiting_accounts l = all_where (waits_at l) (length l.entries) 0

-- "replies how many", unless it is refused
abbrev pub list_reply : Option Refusal → List ℕ → ListReply
list_reply None accounts = Ok (length accounts)
list_reply (Some r) accounts = Err r

-- "into the front of a lent buffer ... Bytes behind them keep their content." A refusal changes nothing.
abbrev pub list_buffer : ListReply → List ℕ → List ℕ → List ℕ
list_buffer (Ok n) accounts before = accounts ++ drop n before
list_buffer (Err r) accounts before = before

-- What a list of these accounts replies, given the refusal that it meets, if any, and leaves in a buffer that held this
-- before. The ledger stays the same.
pub record ListsBy (q : Option Refusal) (accounts before : List ℕ) (r : ListReply) (after : List ℕ) : Type 0 where
  pub reply : r ≡ list_reply q accounts
  pub buffer : after ≡ list_buffer r accounts before

-- "a lent buffer of at least 32 bytes": a shorter one meets 17
abbrev pub Lists : List ℕ → List ℕ → ListReply → List ℕ → Type 0
Lists accounts before r after = ListsBy (list_refusal before) accounts before r after
