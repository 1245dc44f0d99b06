-- Document 01, "Refusal codes": the tests, and for each kind of call their order. "Codes rise, save that 12 comes
-- before 11." And document 02, request 3: "20 for such a request or slip, after 5 and before 6."
use Rattle.std.specs.Prelude.{ℕ, ◌+◌, Bool, false, cond, ◌||◌, List, [], ◌∷◌, ◌++◌, leb, ltb, eqb, length, Option, Some, None, Result, Ok, Err}
use Rattle.model.specs.Types.{Seat, Account, Transfer, Slot, Entry, Ledger, Message, Request, Circulated, Ack, Decision, Inquiry, Refusal, UnknownSeat, OutOfRange, PastNumber, FutureNumber, AlreadyAccepted, AckRepeated, AckConflicting, InsufficientFunds, AlreadyAcked, ShortBuffer, SelfPayment}
use Rattle.model.specs.Transfers.{same_account, same_number}
use Rattle.model.specs.Acks.{ack_at, holds, conflicts}

-- a test, and the refusal if it holds
abbrev pub Rule : Type 0
Rule = Bool × Refusal

-- the first rule whose test holds
abbrev pub first_refusal : List Rule → Option Refusal
first_refusal [] = None
first_refusal (r ∷ rs) = cond r.0 (Some r.1) (first_refusal rs)

-- what is answered where nothing more is to be told: that no rule refuses, or the refusal
abbrev pub check_of : Option Refusal → Result (Unit {0}) Refusal
check_of None = Ok tt
check_of (Some r) = Err r

-- 4: an ack's seat is n or more
abbrev pub unknown_seat : Ledger → Seat → Bool
unknown_seat l s = leb l.seats s.0

-- 5, for a balance question: account is k or more
abbrev pub unknown_account : Ledger → Account → Bool
unknown_account l a = leb l.accounts a.0

-- 5: account or recipient is k or more, number 0, value 0, or value above the opening sum
abbrev pub out_of_range : Ledger → Transfer → Bool
out_of_range l t =
    unknown_account l t.account || unknown_account l t.recipient || eqb t.number 0 || eqb t.value 0
    || ltb l.total t.value

-- 20: "Requests and slips whose recipient is the payer"
abbrev pub pays_itself : Transfer → Bool
pays_itself t = same_account t.recipient t.account

-- 6: number at or below current
abbrev pub past_number : Entry → Transfer → Bool
past_number e t = leb t.number e.current

-- 7: number above current + 1
abbrev pub future_number : Entry → Transfer → Bool
future_number e t = ltb (e.current + 1) t.number

-- 8: a slip with this account and number is accepted and waits
abbrev pub waits_already : Slot → Transfer → Bool
waits_already None t = false
waits_already (Some p) t = same_number p t

-- the ack that is recorded from a seat
abbrev pub ack_from : Entry → Seat → Slot
ack_from e s = ack_at e.acks s.0

-- 11: request or slip with a value above the balance
abbrev pub above_balance : Entry → Transfer → Bool
above_balance e t = ltb e.balance t.value

-- 6 to 8: what the number of every slip meets, whichever call brings it
abbrev pub number_rules : Entry → Transfer → List Rule
number_rules e t =
    (past_number e t, PastNumber) ∷ (future_number e t, FutureNumber) ∷ (waits_already e.pending t, AlreadyAccepted) ∷ []

-- 5 to 8: what the slip of an ack or ruling meets. "Acks and rulings for such slips are still taken": never 20
abbrev pub transfer_rules : Ledger → Entry → Transfer → List Rule
transfer_rules l e t = (out_of_range l t, OutOfRange) ∷ number_rules e t

-- 5 20 6 7 8: what a request or slip meets first
abbrev pub offer_rules : Ledger → Entry → Transfer → List Rule
offer_rules l e t = (out_of_range l t, OutOfRange) ∷ (pays_itself t, SelfPayment) ∷ number_rules e t

-- requests: 5 20 6 7 8 11
abbrev pub request_rules : Ledger → Entry → Transfer → List Rule
request_rules l e t = offer_rules l e t ++ ((above_balance e t, InsufficientFunds) ∷ [])

-- slips: 5 20 6 7 8 12 11. 12: slip for a number that this seat has acked
abbrev pub circulated_rules : Ledger → Entry → Transfer → List Rule
circulated_rules l e t = offer_rules l e t ++ ((e.acked, AlreadyAcked) ∷ (above_balance e t, InsufficientFunds) ∷ [])

-- acks: 4 to 10. 9, 10: an ack from the ack's seat is recorded for this number and its slip is equal, or conflicts
abbrev pub ack_rules : Ledger → Entry → Seat → Transfer → List Rule
ack_rules l e s t =
    (unknown_seat l s, UnknownSeat)
    ∷ transfer_rules l e t
    ++ ((holds t (ack_from e s), AckRepeated) ∷ (conflicts t (ack_from e s), AckConflicting) ∷ [])

-- rulings: 5 to 8 only
abbrev pub decision_rules : Ledger → Entry → Transfer → List Rule
decision_rules l e t = transfer_rules l e t

-- balance questions: 5
abbrev pub inquiry_rules : Ledger → Account → List Rule
inquiry_rules l a = (unknown_account l a, OutOfRange) ∷ []

-- the rules of any message, in their order, given the entry of its account
abbrev pub rules_of : Ledger → Entry → Message → List Rule
rules_of l e (Request t) = request_rules l e t
rules_of l e (Circulated t) = circulated_rules l e t
rules_of l e (Ack s t) = ack_rules l e s t
rules_of l e (Decision t) = decision_rules l e t
rules_of l e (Inquiry a) = inquiry_rules l a

-- the waiting list: 17, a buffer under 32 bytes
abbrev pub list_rules : List ℕ → List Rule
list_rules buffer = (ltb (length buffer) 32, ShortBuffer) ∷ []

abbrev pub list_refusal : List ℕ → Option Refusal
list_refusal buffer = first_refusal (list_rules buffer)
