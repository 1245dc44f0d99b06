-- Document 01, "A run, as demand 3 means it": calls, runs, the ledger of a seat at any place of a run, and what a call
-- did. And document 02, request 3: a seat that switches to newer rules, on a day of its own, and the rules of a seat at
-- any place; later requests add to the rules.
use Rattle.std.specs.Prelude.{ℕ, zero, suc, ◌+◌, ◌≤◌, ◌≡◌, Bool, true, false, cond, not, ◌&&◌, ◌||◌, List, eqb, ltb, length, Option, Some, None, Ok}
use Rattle.laws.specs.Types.{Seat, Transfer, AckSlot, Ledger, Opening, Message, Request, Circulated, Ack, Decision, Inquiry, Reply, Circulate, Acknowledge, Accept, Propose, Note, Balance, Refuse, ListReply}
use Rattle.model.specs.Basics.{bit, count}
use Rattle.model.specs.Records.{seat_of, fresh_ledger, entry_of, with_ack}
use Rattle.model.specs.Acks.{has_most}
use Rattle.model.specs.Replies.{letter_of}
use Rattle.model.specs.Openings.{open_reply}
use Rattle.model.specs.Calls.{waits_at, Lists}
use Rattle.model.specs.Switches.{Rules, first_rules, since_request3, since_request5, next_rules, switched, step_under}

-- "Take any opening page that is not refused": a page has 32 balances.
pub record Opens (o : Opening) : Type 0 where
  pub full_page : length o.balances ≡ 32
  pub not_refused : open_reply o ≡ Ok tt

-- how many of the numbers below n pass the test
abbrev pub count_below : (ℕ → Bool) → ℕ → ℕ
count_below p zero = 0
count_below p (suc n) = bit (p n) + count_below p n

-- "call any of its n seats bad, at most f of them"
abbrev pub FewBad : Opening → (Seat → Bool) → Type 0
FewBad o bad = count_below (λ i. bad (seat_of i)) o.seats ≤ o.faults

-- "The other seats are honest."
abbrev pub honest : Opening → (Seat → Bool) → Seat → Bool
honest o bad s = ltb s.0 o.seats && not (bad s)

-- A call with what it was answered: a message and its reply; a waiting list: what the lent buffer held, the reply, and
-- what the buffer held after it; or the seat switches to the newer rules, which nothing answers.
pub data Call : Type 0 where
  message : Message → Reply → Call
  waiting_list : List ℕ → ListReply → List ℕ → Call
  switch : Call

-- One call at one seat.
pub record Event : Type 0 where
  pub at : Seat
  pub call : Call

-- "A run is any list of calls": nothing yet, with the rules under which each seat starts; or a
-- run and one more event after it.
infixl 20 ◌▹◌
pub data Run : Type 0 where
  start : (Seat → Rules) → Run
  ◌▹◌ : Run → Event → Run

-- A place in a run: its end, or a place in the run before its last event. `Within (p ▹ e) r`: e is an event of r,
-- and p is all that came before it.
pub data Within : Run → Run → Type 0 where
  at_end : {r : Run} → Within r r
  sooner : {p r : Run} {e : Event} → Within p r → Within p (r ▹ e)

-- some event of the run passes the test
abbrev pub happened : (Event → Bool) → Run → Bool
happened p (start from) = false
happened p (r ▹ e) = happened p r || p e

-- each event passes the test, which is also told what came before it
abbrev pub throughout : (Run → Event → Bool) → Run → Bool
throughout p (start from) = true
throughout p (r ▹ e) = throughout p r && p r e

-- "any list of calls at honest seats"
abbrev pub at_honest : Opening → (Seat → Bool) → Run → Bool
at_honest o bad run = throughout (λ before e. honest o bad e.at) run

abbrev pub same_seat : Seat → Seat → Bool
same_seat s z = eqb s.0 z.0

-- the rules of a seat after a call of its own: a switch leads to the next
abbrev pub rules_after : Rules → Call → Rules
rules_after v (message m r) = v
rules_after v (waiting_list before r after) = v
rules_after v switch = next_rules v

-- the rules of seat s after a run
unfoldable pub rules_at : Seat → Run → Rules
rules_at s (start from) = from s
rules_at s (r ▹ e) = cond (same_seat e.at s) (rules_after (rules_at s r) e.call) (rules_at s r)

-- the ledger that a call leaves, under the rules of its seat. A waiting list leaves it as it is; after a switch the
-- seat goes on with what the ledger that it held becomes
abbrev pub next_ledger : Rules → Ledger → Call → Ledger
next_ledger v l (message m r) = (step_under v l m).next
next_ledger v l (waiting_list before r after) = l
next_ledger v l switch = switched v l

-- the ledger of seat s after a run: "each holds a book just opened from that page", and "Each call gets the book that
-- the call before it at that seat left, at first the opened one"
unfoldable pub ledger_at : Opening → Seat → Run → Ledger
ledger_at o s (start from) = fresh_ledger o
ledger_at o s (r ▹ e) = cond (same_seat e.at s) (next_ledger (rules_at s r) (ledger_at o s r) e.call) (ledger_at o s r)

-- the slip that a reply P carries
abbrev pub proposal : Reply → Option Transfer
proposal Circulate = None
proposal Acknowledge = None
proposal (Accept c) = None
proposal (Propose t) = Some t
proposal Note = None
proposal (Balance b) = None
proposal (Refuse q) = None

-- the acks of a message's account by which it is answered: with the ack at hand, if it is one
abbrev pub acks_with : Ledger → Message → List AckSlot
acks_with l (Request t) = (entry_of l t.account).acks
acks_with l (Circulated t) = (entry_of l t.account).acks
acks_with l (Ack s t) = (with_ack (entry_of l t.account) s t).acks
acks_with l (Decision t) = (entry_of l t.account).acks
acks_with l (Inquiry a) = (entry_of l a).acks

-- the slip of a P that is left free: under the first rules, under which a seat that has taken request 2 alone is
-- too, any; since request 3, none
abbrev pub free_slip : Rules → Reply → Option Transfer
free_slip first_rules r = proposal r
free_slip since_request3 r = None
free_slip since_request5 r = None

-- a reply that may stand for the one that is due, given its slip that is left free, if any, and the acks: P with any
-- of the slips with the most acks
abbrev pub StandsFor : Reply → Option Transfer → List AckSlot → Reply → Type 0
StandsFor due None acks r = r ≡ due
StandsFor due (Some t) acks r = (u : Transfer) × (r ≡ Propose u) × (has_most acks u ≡ true)

-- What a message may be replied under a set of rules: what the step under them replies, or what may stand for it.
abbrev pub MayReply : Rules → Ledger → Message → Reply → Type 0
MayReply v l m r = StandsFor (step_under v l m).reply (free_slip v (step_under v l m).reply) (acks_with l m) r

-- "the accounts with a waiting slip, each once, in any order"
abbrev pub InAnyOrder : Ledger → List ℕ → Type 0
InAnyOrder l accounts = (a : ℕ) → count (eqb a) accounts ≡ bit (waits_at l a)

-- What a waiting list may reply and leave in the buffer: the order is free under every set of rules, since seats take
-- request 6 of document 02 on different days, and no rules tell which have.
abbrev pub MayList : Ledger → List ℕ → ListReply → List ℕ → Type 0
MayList l before r after = (accounts : List ℕ) × InAnyOrder l accounts × Lists accounts before r after

-- a call is answered by these rules. A seat may switch at any place
abbrev pub Conforms : Rules → Ledger → Call → Type 0
Conforms v l (message m r) = MayReply v l m r
Conforms v l (waiting_list before r after) = MayList l before r after
Conforms v l switch = Unit {0}

-- every call of a run is answered by the rules and the ledger that its seat has there
abbrev pub Obeys : Opening → Run → Type 0
Obeys o (start from) = Unit {0}
Obeys o (r ▹ e) = Obeys o r × Conforms (rules_at e.at r) (ledger_at o e.at r) e.call

-- "A call's arguments and reply tell what it did." Whether it was answered A, K, or R
abbrev pub is_acknowledge : Reply → Bool
is_acknowledge r = eqb (letter_of r) 65

abbrev pub is_accept : Reply → Bool
is_accept r = eqb (letter_of r) 75

abbrev pub is_refusal : Reply → Bool
is_refusal r = eqb (letter_of r) 82

-- "A slip answered A is acked by that seat."
abbrev pub acked : Call → Option Transfer
acked (message (Request t) r) = None
acked (message (Circulated t) r) = cond (is_acknowledge r) (Some t) None
acked (message (Ack s t) r) = None
acked (message (Decision t) r) = None
acked (message (Inquiry a) r) = None
acked (waiting_list before r after) = None
acked switch = None

-- "An ack or ruling answered K accepts its slip at that seat."
abbrev pub accepted : Call → Option Transfer
accepted (message (Request t) r) = None
accepted (message (Circulated t) r) = None
accepted (message (Ack s t) r) = cond (is_accept r) (Some t) None
accepted (message (Decision t) r) = cond (is_accept r) (Some t) None
accepted (message (Inquiry a) r) = None
accepted (waiting_list before r after) = None
accepted switch = None

-- "A reply P puts forward the slip that it carries."
abbrev pub proposed : Call → Option Transfer
proposed (message m r) = proposal r
proposed (waiting_list before r after) = None
proposed switch = None

-- the slip of a ruling, refused or not
abbrev pub ruled : Call → Option Transfer
ruled (message (Request t) r) = None
ruled (message (Circulated t) r) = None
ruled (message (Ack s t) r) = None
ruled (message (Decision t) r) = Some t
ruled (message (Inquiry a) r) = None
ruled (waiting_list before r after) = None
ruled switch = None

-- there is a slip, and it passes the test
abbrev pub passes : (Transfer → Bool) → Option Transfer → Bool
passes p None = false
passes p (Some t) = p t
