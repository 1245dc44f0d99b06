-- What holds of every run that obeys the definitions, premises or not: the whole-run facts of demand 2. The proof is
-- `always` in Always.antt of the crate agreement.
use Rattle.std.specs.Prelude.{ℕ, ◌+◌, ◌≤◌, ◌<◌, ◌≡◌, ◌⊎◌, Bool, true, false, not, ◌&&◌, ◌||◌, take, Some, None}
use Rattle.laws.specs.Types.{Seat, Account, Transfer, Ledger, Opening, Message, Request, Circulated, Ack, Decision, Inquiry, Reply, Circulate, Acknowledge, Accept, Propose, Note, Balance, Refuse}
use Rattle.runs.specs.Runs.{Opens, Call, message, waiting_list, switch, Event, Run, ◌▹◌, Within, happened, same_seat, rules_at, ledger_at, Obeys, is_accept, is_refusal, acked, accepted, proposed, ruled, passes}
use Rattle.runs.specs.Slates.{slate_at}
use Rattle.model.specs.Basics.{bit, sum_of}
use Rattle.model.specs.declared.Refusal.TheVariants.{PastNumber, AlreadyAccepted}
use Rattle.model.specs.Records.{with_ack, sum_balances, sum_currents, RetainsNothing, entry_of}
use Rattle.model.specs.Transfers.{same_number, equal}
use Rattle.model.specs.Acks.{holds, acks_for, enough}
use Rattle.model.specs.Refusals.{first_refusal, ack_from}
use Rattle.model.specs.Settling.{is_waiting}
use Rattle.model.specs.Switches.{Rules, since_request5, rank, rules_met, late_met}

-- the call is answered K
abbrev pub answered_k : Call → Bool
answered_k (message m r) = is_accept r
answered_k (waiting_list before r after) = false
answered_k switch = false

-- "K carries how many slips this call booked"; no other reply has a count
abbrev pub count_of : Reply → ℕ
count_of Circulate = 0
count_of Acknowledge = 0
count_of (Accept c) = c
count_of (Propose t) = 0
count_of Note = 0
count_of (Balance b) = 0
count_of (Refuse q) = 0

-- the call is not refused, and it is a ruling, or an ack that is recorded, since it brings no late P, and with which
-- twice the recorded acks of its slip exceed n + 3f: under the rules of its seat
abbrev pub must_accept : Rules → Ledger → Call → Bool
must_accept v l (message (Request t) r) = false
must_accept v l (message (Circulated t) r) = false
must_accept v l (message (Ack s t) r) =
    not (is_refusal r)
    && (not (late_met v l (Ack s t)) && enough l.seats l.faults (acks_for t (with_ack (entry_of l t.account) s t).acks))
must_accept v l (message (Decision t) r) = not (is_refusal r)
must_accept v l (message (Inquiry a) r) = false
must_accept v l (waiting_list before r after) = false
must_accept v l switch = false

-- a call at seat s in this run accepted the slip
abbrev pub accepted_by : Seat → Transfer → Run → Bool
accepted_by s t run = happened (λ e. same_seat e.at s && passes (equal t) (accepted e.call)) run

-- a ruling that is not refused
abbrev pub taken : Call → Bool
taken (message m r) = not (is_refusal r)
taken (waiting_list before r after) = false
taken switch = false

-- a ruling at seat s in this run names the slip, and is not refused
abbrev pub ruled_for : Seat → Transfer → Run → Bool
ruled_for s t run = happened (λ e. same_seat e.at s && (passes (equal t) (ruled e.call) && taken e.call)) run

-- a call at seat s put forward a slip with this slip's account and number; and one in this run did
abbrev pub puts_for : Seat → Transfer → Event → Bool
puts_for s t e = same_seat e.at s && passes (same_number t) (proposed e.call)

abbrev pub proposed_for : Seat → Transfer → Run → Bool
proposed_for s t run = happened (puts_for s t) run

pub record Facts (o : Opening) (run : Run) : Type 0 where
  -- "Balances always add up to the opening sum", which is below 2^32
  pub sums : (p : Run) (s : Seat) → Within p run
      → (sum_balances (ledger_at o s p).entries ≡ sum_of (λ b. b) o.balances) × (sum_balances (ledger_at o s p).entries < 4_294_967_296)
  -- behind the k-th account every balance and current number stays 0
  pub behind : (p : Run) (s : Seat) (a : Account) → Within p run → o.accounts ≤ a.0
      → ((entry_of (ledger_at o s p) a).balance ≡ 0) × ((entry_of (ledger_at o s p) a).current ≡ 0)
  -- so the balances of the k accounts, which `daybook` prints, add up to the opening sum
  pub accounts_sum : (p : Run) (s : Seat) → Within p run
      → sum_balances (take o.accounts (ledger_at o s p).entries) ≡ sum_of (λ b. b) o.balances
  -- each balance is the slate's, in plain numbers, so no sum ever reached the modulus; and each
  -- current number is the slate's count
  pub plain : (p : Run) (s : Seat) (a : Account) → Within p run
      → ((entry_of (ledger_at o s p) a).balance ≡ (slate_at o s p).balance a) × ((entry_of (ledger_at o s p) a).current ≡ (slate_at o s p).count a)
  -- current numbers never fall
  pub currents_rise : (p q : Run) (s : Seat) (a : Account) → Within p q → Within q run
      → (entry_of (ledger_at o s p) a).current ≤ (entry_of (ledger_at o s q) a).current
  -- K's count "is the rise in the sum of all current numbers"; with no other reply does it rise
  pub count_is_rise : (p : Run) (e : Event) (m : Message) (r : Reply) → Within (p ▹ e) run → e.call ≡ message m r
      → sum_currents (ledger_at o e.at (p ▹ e)).entries ≡ sum_currents (ledger_at o e.at p).entries + count_of r
  -- a seat acks at most one slip per account and number
  pub acked_once : (p q : Run) (e d : Event) (t u : Transfer) → Within (p ▹ e) run → Within (q ▹ d) run → e.at ≡ d.at
      → acked e.call ≡ Some t → acked d.call ≡ Some u → t.account ≡ u.account → t.number ≡ u.number → t ≡ u
  -- after it accepted a slip, a seat puts forward for that number only the accepted slip, and under the
  -- rules before request 5 nothing
  pub only_accepted_proposed : (p q : Run) (e d : Event) (t u : Transfer) → Within (p ▹ e) q → Within (q ▹ d) run → e.at ≡ d.at
      → accepted e.call ≡ Some t → proposed d.call ≡ Some u → t.account ≡ u.account → t.number ≡ u.number
      → (t ≡ u) × (rank since_request5 ≤ rank (rules_at d.at q))
  -- "It happens at most once for a number": a seat puts forward at most one slip for an account and number,
  -- and at most one time, late or not
  pub proposed_once : (p q : Run) (e d : Event) (t u : Transfer) → Within (p ▹ e) run → Within (q ▹ d) run → e.at ≡ d.at
      → proposed e.call ≡ Some t → proposed d.call ≡ Some u → t.account ≡ u.account → t.number ≡ u.number
      → (t ≡ u) × (p ≡ q) × (e ≡ d)
  -- what is retained was accepted there: "the latest accepted slip, waiting or booked", so its number is
  -- current + 1 if it waits, and else current
  pub retained_stands : (p : Run) (s : Seat) (a : Account) (t : Transfer) → Within p run → (entry_of (ledger_at o s p) a).retained ≡ Some t
      → (t.account ≡ a) × (accepted_by s t p ≡ true)
      × (t.number ≡ (entry_of (ledger_at o s p) a).current + bit (is_waiting (entry_of (ledger_at o s p) a)))
  -- its mark says "whether anything was put forward for its number" there, late or not; and the next number's, where
  -- nothing waits, whether something was for that
  pub retained_marked : (p : Run) (s : Seat) (a : Account) (t : Transfer) → Within p run → (entry_of (ledger_at o s p) a).retained ≡ Some t
      → (entry_of (ledger_at o s p) a).retained_proposed ≡ proposed_for s t p
  pub next_marked : (p : Run) (s : Seat) (t : Transfer) → Within p run
      → t.number ≡ (entry_of (ledger_at o s p) t.account).current + 1 → (entry_of (ledger_at o s p) t.account).pending ≡ None
      → (entry_of (ledger_at o s p) t.account).proposed ≡ proposed_for s t p
  -- and under the rules since request 5 it is there: what was accepted under them, for as long as it is the latest
  pub latest_retained : (p q : Run) (e : Event) (t : Transfer) → Within (p ▹ e) q → Within q run
      → accepted e.call ≡ Some t → rank since_request5 ≤ rank (rules_at e.at p)
      → t.number ≡ (entry_of (ledger_at o e.at q) t.account).current + bit (is_waiting (entry_of (ledger_at o e.at q) t.account))
      → (entry_of (ledger_at o e.at q) t.account).retained ≡ Some t
  -- .. and what waits, also what was accepted before and is taken over at a switch
  pub waiting_retained : (p : Run) (s : Seat) (a : Account) (t : Transfer) → Within p run → rank since_request5 ≤ rank (rules_at s p)
      → (entry_of (ledger_at o s p) a).pending ≡ Some t → (entry_of (ledger_at o s p) a).retained ≡ Some t
  -- before request 5 nothing is retained
  pub none_retained : (p : Run) (s : Seat) (a : Account) → Within p run → rank (rules_at s p) < rank since_request5
      → RetainsNothing (entry_of (ledger_at o s p) a)
  -- "the reply is P with the retained slip and not 6 or 8": a late P comes in place of
  -- one of these, and of nothing else
  pub in_place : (p : Run) (s : Seat) (m : Message) → Within p run → late_met (rules_at s p) (ledger_at o s p) m ≡ true
      → (first_refusal (rules_met (rules_at s p) (ledger_at o s p) m) ≡ Some PastNumber)
      ⊎ (first_refusal (rules_met (rules_at s p) (ledger_at o s p) m) ≡ Some AlreadyAccepted)
  -- a call accepts exactly if it is an ack that is recorded and makes enough or a ruling, and is
  -- not refused: no other call does
  pub accepts_exactly : (p : Run) (e : Event) → Within (p ▹ e) run → answered_k e.call ≡ must_accept (rules_at e.at p) (ledger_at o e.at p) e.call
  -- at any place, a slip with its account's next number has been accepted exactly if twice its recorded acks exceed
  -- n + 3f or a ruling that is not refused named it
  pub accepted_exactly : (p : Run) (s : Seat) (t : Transfer) → Within p run
      → t.number ≡ (entry_of (ledger_at o s p) t.account).current + 1
      → accepted_by s t p
      ≡ enough o.seats o.faults (acks_for t (entry_of (ledger_at o s p) t.account).acks) || ruled_for s t p
  -- and exactly then it waits
  pub waits_exactly : (p : Run) (s : Seat) (t : Transfer) → Within p run
      → t.number ≡ (entry_of (ledger_at o s p) t.account).current + 1
      → accepted_by s t p ≡ holds t (entry_of (ledger_at o s p) t.account).pending
  -- it waits for funds: what its payer's balance covers has been booked
  pub waits_for_funds : (p : Run) (s : Seat) (a : Account) (t : Transfer) → Within p run → (entry_of (ledger_at o s p) a).pending ≡ Some t
      → (entry_of (ledger_at o s p) a).balance < t.value
  -- each number up to an account's current one was accepted there
  pub booked_accepted : (p : Run) (s : Seat) (a : Account) (m : ℕ) → Within p run → 1 ≤ m → m ≤ (entry_of (ledger_at o s p) a).current
      → (t : Transfer) × (t.account ≡ a) × (t.number ≡ m) × (accepted_by s t p ≡ true)
  -- a recorded ack is of its entry's account, of the next number, and from one of the n seats
  pub acks_stand : (p : Run) (s i : Seat) (a : Account) (t : Transfer) → Within p run → ack_from (entry_of (ledger_at o s p) a) i ≡ Some t
      → (i.0 < o.seats) × (t.account ≡ a) × (t.number ≡ (entry_of (ledger_at o s p) a).current + 1)
  -- a waiting slip is of its entry's account, one of the k, and of the next number, for one of the k
  pub pending_stands : (p : Run) (s : Seat) (a : Account) (t : Transfer) → Within p run → (entry_of (ledger_at o s p) a).pending ≡ Some t
      → (t.account ≡ a) × (t.number ≡ (entry_of (ledger_at o s p) a).current + 1) × (t.account.0 < o.accounts) × (t.recipient.0 < o.accounts)

abbrev pub Always : Type 0
Always = (o : Opening) (run : Run) → Opens o → Obeys o run → Facts o run
