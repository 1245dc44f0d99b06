-- The statement of demand 3, tried on runs. One run keeps all premises and has in it what they are about, so the
-- statement is not empty. Other runs lack one premise each, and two accepted slips conflict in them, so each premise is
-- needed. Further runs show what the premises leave free, and what slates say. All is computed.
use Rattle.std.specs.Prelude.{Some, Ok, Err}
use Prim.Native.Nat.{ℕ, zero, suc, ◌≤◌}
use native.Mathlib.Omega.{arith}
use mathlib.Core.Path.{◌≡◌, refl}
use mathlib.Core.Bool.{Bool, true, false, not, ◌&&◌, ◌||◌, false≢true}
use mathlib.Core.List.{List, [], ◌∷◌}
use lib.Dec.{eqb, lit≤}
use lib.ListN.{replicate}
use Rattle.laws.specs.Types.{Seat, Transfer, Opening, Message, Request, Circulated, Ack, Decision, Inquiry, Reply, Circulate, Acknowledge, Accept, Propose, Note, Balance, Refuse}
use Rattle.runs.specs.Runs.{Opens, count_below, FewBad, message, waiting_list, Event, Run, start, ◌▹◌, happened, throughout, at_honest, same_seat, rules_at, ledger_at, Obeys, acked, accepted, proposed, ruled, passes}
use Rattle.runs.specs.Premises.{Premises, genuine, rightful, proposals, some_slip}
use Rattle.runs.specs.Slates.{Slate, lowest, leave_at_most, leave_all, slate_at}
use Rattle.runs.specs.Claims.{Claim}
use Rattle.model.specs.declared.Refusal.TheVariants.{OutOfRange, PastNumber, AlreadyAcked, AckConflicting, ShortBuffer}
use Rattle.model.specs.Types.{ListReply}
use Rattle.model.specs.Records.{seat_of, account_of, no_acks}
use Rattle.model.specs.Transfers.{equal, conflict}
use Rattle.model.specs.Openings.{open_reply}
use Rattle.model.specs.Acks.{has_most, most_acked}
use Rattle.model.specs.Settling.{lowest_affordable, apply, settle_at_most, settle}
use Rattle.model.specs.Calls.{waiting_accounts}
use Rattle.model.specs.Switches.{newest, step_under}
use Rattle.runs.proofs.Found.{happened_found, that_slip}
use Rattle.runs.proofs.AnyOrder.{any_conforms, rising_conforms, exchanged}
use Rattle.model.proofs.Rows.{slip, page_with}
use Rattle.laws.proofs.Sums.{impossible}
use Rattle.laws.proofs.Equality.{conflict_sound}
use Rattle.laws.proofs.Listing.{waiting_once}

-- n 6, f 1: 5 acks accept, and 5 recorded acks that conflict put forward
abbrev pub page : Opening
page = page_with 6 1 (10 ∷ 3 ∷ [])

-- two slips that conflict
abbrev pub t : Transfer
t = slip 0 1 4 1

abbrev pub u : Transfer
u = slip 0 1 5 1

-- a slip that wants funds which t brings
abbrev pub v : Transfer
v = slip 1 1 6 0

-- the bad seats: seat 5; and one too many, seats 4 and 5
abbrev pub bad : Seat → Bool
bad s = eqb s.0 5

abbrev two_bad : Seat → Bool
two_bad s = eqb s.0 4 || eqb s.0 5

-- How runs are written below. Every seat is under today's rules from the start
abbrev pub today : Run
today = start (λ s. newest)

-- seat s is called with a message, and replies
abbrev pub asked : ℕ → Message → Reply → Event
asked s m r = record { at = seat_of s; call = message m r }

-- the slip reaches seat s, which acks it
abbrev pub acks : ℕ → Transfer → Event
acks s t = asked s (Circulated t) Acknowledge

-- the ack of seat z reaches seat s
abbrev pub ack : ℕ → ℕ → Transfer → Reply → Event
ack s z t r = asked s (Ack (seat_of z) t) r

abbrev pub ruling : ℕ → Transfer → Reply → Event
ruling s t r = asked s (Decision t) r

abbrev lists : ℕ → List ℕ → ListReply → List ℕ → Event
lists s before r after = record { at = seat_of s; call = waiting_list before r after }

-- how it is shown that a run obeys the definitions: a reason for each event, in their order
infixl 20 ◌then◌
abbrev pub ◌then◌ : {A B : Type 0} → A → B → A × B
a then b = (a, b)

-- each of the two premises, so that one can hold where the other fails
abbrev acks_genuine : (Seat → Bool) → Run → Bool
acks_genuine bad run = throughout (λ before e. genuine page bad before e.call) run

abbrev rulings_rightful : Run → Bool
rulings_rightful run = throughout (λ before e. rightful before (ruled e.call)) run

-- some call accepted the slip
abbrev accepts : Transfer → Run → Bool
accepts t run = happened (λ e. passes (equal t) (accepted e.call)) run

-- where two accepted slips conflict, demand 3's claim fails
pub no_claim : (o : Opening) (bad : Seat → Bool) (run : Run) (t u : Transfer)
    → conflict t u ≡ true → accepts t run ≡ true → accepts u run ≡ true → Claim o bad run → ⊥
no_claim o bad run t u differ yes_t yes_u claim =
    let one = happened_found (λ e. passes (equal t) (accepted e.call)) run yes_t in
    let other = happened_found (λ e. passes (equal u) (accepted e.call)) run yes_u in
    let apart = conflict_sound t u differ in
    apart.differ
    (claim.agree one.0 other.0 one.1 other.1 t u
    one.2 (that_slip t (accepted one.1.call) one.3)
    other.2 (that_slip u (accepted other.1.call) other.3)
    apart.account apart.number)

-- A run that keeps the premises. A home sends t to some seats and u to another. Seat 0 accepts t by acks, the bad
-- seat's among them. At seat 1 the acks conflict, since the bad seat acks u there, and t is put forward. The ruling for
-- t reaches seats 1, 2 and 3. Then v is accepted at seat 4, where it waits: this far first.
abbrev pub waits : Run
waits =
    today
    ▹ asked 0 (Request t) Circulate
    ▹ acks 0 t ▹ acks 1 t ▹ acks 2 t ▹ acks 3 t ▹ acks 4 u
    ▹ asked 4 (Circulated t) (Refuse AlreadyAcked)
    ▹ ack 0 0 t Note ▹ ack 0 1 t Note ▹ ack 0 2 t Note ▹ ack 0 3 t Note ▹ ack 0 5 t (Accept 1)
    ▹ asked 0 (Inquiry (account_of 1)) (Balance 7)
    ▹ ack 1 0 t Note ▹ ack 1 1 t Note ▹ ack 1 2 t Note ▹ ack 1 4 u Note ▹ ack 1 5 u (Propose t)
    ▹ ack 1 5 t (Refuse AckConflicting)
    ▹ ruling 1 t (Accept 1) ▹ ruling 2 t (Accept 1) ▹ ruling 2 t (Refuse PastNumber) ▹ ruling 3 t (Accept 1)
    ▹ acks 0 v ▹ acks 1 v ▹ acks 2 v ▹ acks 3 v
    ▹ ack 4 0 v Note ▹ ack 4 1 v Note ▹ ack 4 2 v Note ▹ ack 4 3 v Note ▹ ack 4 5 v (Accept 0)

-- .. and its waiting list is asked for, with a buffer that is too short
abbrev asks : Run
asks = waits ▹ lists 4 [] (Err ShortBuffer) []

-- .. then the waiting list has v, and the ruling for t, which is late at seat 4, brings the funds
abbrev pub witness : Run
witness =
    asks
    ▹ lists 4 (replicate 32 9) (Ok 1) (1 ∷ replicate 31 9)
    ▹ ruling 4 t (Accept 2)

pub witness_obeys : Obeys page witness
unfolding rules_at ledger_at waiting_accounts no_acks equal conflict has_most most_acked lowest_affordable apply settle_at_most settle step_under
witness_obeys =
    tt
    then refl
    then refl then refl then refl then refl then refl
    then refl
    then refl then refl then refl then refl then refl
    then refl
    then refl then refl then refl then refl then refl
    then refl
    then refl then refl then refl then refl
    then refl then refl then refl then refl
    then refl then refl then refl then refl then refl
    then rising_conforms newest (ledger_at page (seat_of 4) waits) _ _ _ (record { reply = refl; buffer = refl })
    then rising_conforms newest (ledger_at page (seat_of 4) asks) _ _ _ (record { reply = refl; buffer = refl })
    then refl

-- The witness is a run as demand 3 means it, and keeps the premises.
pub witness_keeps : Opens page × FewBad page bad × (at_honest page bad witness ≡ true) × Obeys page witness × Premises page bad witness
unfolding equal conflict open_reply
witness_keeps = (
  record { full_page = refl; not_refused = refl },
  lit≤ tt,
  refl,
  witness_obeys,
  record { acks_genuine = refl; rulings_rightful = refl },
)

-- what an event does with a slip
abbrev acks_that : Transfer → Event → Bool
acks_that t e = passes (equal t) (acked e.call)

abbrev pub puts_forward : Transfer → Event → Bool
puts_forward t e = passes (equal t) (proposed e.call)

abbrev pub takes : ℕ → Transfer → Event → Bool
takes s t e = same_seat e.at (seat_of s) && passes (equal t) (accepted e.call)

abbrev is_ruling : Event → Bool
is_ruling e = passes (λ t. true) (ruled e.call)

-- The witness has what the premises are about: seats ack slips that conflict, t is put forward, accepted by an ack at
-- seat 0 and by a ruling at seat 2.
pub witness_has :
    (happened (acks_that t) witness && happened (acks_that u) witness && conflict t u ≡ true)
    × (happened (puts_forward t) witness ≡ true)
    × (happened (λ e. takes 0 t e && not (is_ruling e)) witness ≡ true)
    × (happened (λ e. takes 2 t e && is_ruling e) witness ≡ true)
unfolding equal conflict
witness_has = (refl, refl, refl, refl)

-- Runs in which one premise is missing, and all else is as it is in the witness. Each is a run at honest seats that
-- obeys the definitions, and demand 3's claim fails in it.
abbrev Fails : (Seat → Bool) → Run → Type 0
Fails bad run = (at_honest page bad run ≡ true) × Obeys page run × (Claim page bad run → ⊥)

-- seats 0 to 3 ack t, seat 4 acks u
abbrev split : Run
split = today ▹ acks 0 t ▹ acks 1 t ▹ acks 2 t ▹ acks 3 t ▹ acks 4 u

-- .. then seat 0 accepts t, with the bad seat's ack
abbrev accept_t : Run → Run
accept_t r = r ▹ ack 0 0 t Note ▹ ack 0 1 t Note ▹ ack 0 2 t Note ▹ ack 0 3 t Note ▹ ack 0 5 t (Accept 1)

-- .. then seat 1 puts t forward, since the bad seat acks u there
abbrev put_forward_t : Run → Run
put_forward_t r = r ▹ ack 1 0 t Note ▹ ack 1 1 t Note ▹ ack 1 2 t Note ▹ ack 1 4 u Note ▹ ack 1 5 u (Propose t)

-- "An ack that names an honest seat as its sender carries a slip that an earlier call at that sender acked." Here acks
-- of u name seats that acked t, though seat 4 did ack u.
abbrev forged : Run
forged = accept_t split ▹ ack 1 0 u Note ▹ ack 1 1 u Note ▹ ack 1 2 u Note ▹ ack 1 3 u Note ▹ ack 1 4 u (Accept 1)

pub genuine_needed : Fails bad forged × (rulings_rightful forged ≡ true) × (Premises page bad forged → ⊥)
unfolding rules_at ledger_at no_acks equal conflict has_most most_acked lowest_affordable apply settle_at_most settle step_under
genuine_needed = (
  (
    refl,
    tt
        then refl then refl then refl then refl then refl
        then refl then refl then refl then refl then refl
        then refl then refl then refl then refl then refl,
    no_claim page bad forged t u refl refl refl,
  ),
  refl,
  λ keeps. false≢true keeps.acks_genuine,
)

-- "All rulings for one account and number carry the same slip, whichever seats they reach." Here they carry t and u.
abbrev rulings_differ : Run
rulings_differ = put_forward_t split ▹ ruling 2 t (Accept 1) ▹ ruling 3 u (Accept 1)

pub one_ruling_needed : Fails bad rulings_differ × (acks_genuine bad rulings_differ ≡ true) × (Premises page bad rulings_differ → ⊥)
unfolding rules_at ledger_at no_acks equal conflict has_most most_acked lowest_affordable apply settle_at_most settle step_under
one_ruling_needed = (
  (
    refl,
    tt
        then refl then refl then refl then refl then refl
        then refl then refl then refl then refl then refl
        then refl then refl,
    no_claim page bad rulings_differ t u refl refl refl,
  ),
  refl,
  λ keeps. false≢true keeps.rulings_rightful,
)

-- "Before the first of them, some call put forward a slip with that account and number." Here one did so after it.
abbrev early_ruling : Run
early_ruling = accept_t (put_forward_t (split ▹ ruling 4 u (Accept 1)))

pub put_forward_needed :
    Fails bad early_ruling × (acks_genuine bad early_ruling ≡ true) × (some_slip (proposals u early_ruling) ≡ true)
    × (Premises page bad early_ruling → ⊥)
unfolding rules_at ledger_at no_acks equal conflict has_most most_acked lowest_affordable apply settle_at_most settle step_under
put_forward_needed = (
  (
    refl,
    tt
        then refl then refl then refl then refl then refl
        then refl
        then refl then refl then refl then refl then refl
        then refl then refl then refl then refl then refl,
    no_claim page bad early_ruling t u refl refl refl,
  ),
  refl,
  refl,
  λ keeps. false≢true keeps.rulings_rightful,
)

-- "If all slips so put forward before it are equal, the ruling is for that slip." Here all
-- are t, and the ruling is for u.
abbrev other_ruling : Run
other_ruling = accept_t (put_forward_t split ▹ ruling 4 u (Accept 1))

pub that_slip_needed : Fails bad other_ruling × (acks_genuine bad other_ruling ≡ true) × (Premises page bad other_ruling → ⊥)
unfolding rules_at ledger_at no_acks equal conflict has_most most_acked lowest_affordable apply settle_at_most settle step_under
that_slip_needed = (
  (
    refl,
    tt
        then refl then refl then refl then refl then refl
        then refl then refl then refl then refl then refl
        then refl
        then refl then refl then refl then refl then refl,
    no_claim page bad other_ruling t u refl refl refl,
  ),
  refl,
  λ keeps. false≢true keeps.rulings_rightful,
)

-- "at most f of them". Here two seats are bad, and f is 1. They ack t at seat 0, and u at seat 1.
abbrev too_many_bad : Run
too_many_bad =
    today
    ▹ acks 0 t ▹ acks 1 t ▹ acks 2 t ▹ acks 3 u
    ▹ ack 0 0 t Note ▹ ack 0 1 t Note ▹ ack 0 2 t Note ▹ ack 0 4 t Note ▹ ack 0 5 t (Accept 1)
    ▹ ack 1 3 u Note ▹ ack 1 4 u Note ▹ ack 1 5 u Note ▹ ack 1 0 t Note ▹ ack 1 1 t (Propose u)
    ▹ ruling 3 u (Accept 1)

two_above_one : 2 ≤ 1 → ⊥
two_above_one h = omega arith

pub few_bad_needed : Fails two_bad too_many_bad × Premises page two_bad too_many_bad × (FewBad page two_bad → ⊥)
unfolding rules_at ledger_at no_acks equal conflict has_most most_acked lowest_affordable apply settle_at_most settle step_under
few_bad_needed = (
  (
    refl,
    tt
        then refl then refl then refl then refl
        then refl then refl then refl then refl then refl
        then refl then refl then refl then refl then refl
        then refl,
    no_claim page two_bad too_many_bad t u refl refl refl,
  ),
  record { acks_genuine = refl; rulings_rightful = refl },
  λ few. two_above_one few,
)

-- "A silent book would satisfy demand 3 alone, so that demand is about books obeying
-- demand 2." Here books accept on one ack.
abbrev invented : Run
invented = today ▹ ack 0 5 t (Accept 1) ▹ ack 1 5 u (Accept 1)

accepts_not_notes : Accept 1 ≡ Note → ⊥
accepts_not_notes e = impossible (cc)

pub obeying_needed :
    (at_honest page bad invented ≡ true) × Premises page bad invented × (Claim page bad invented → ⊥) × (Obeys page invented → ⊥)
unfolding rules_at ledger_at no_acks equal conflict has_most most_acked lowest_affordable apply settle_at_most settle step_under
obeying_needed = (
  refl,
  record { acks_genuine = refl; rulings_rightful = refl },
  no_claim page bad invented t u refl refl refl,
  λ obeys. accepts_not_notes obeys.1,
)

-- What the premises leave free. Slips that differ are put forward, t at seat 1 and u at seat 2, so the ruling may be
-- for a third slip. A ruling for another account is another matter: there w is put forward.
abbrev z : Transfer
z = slip 0 1 4 0

abbrev w : Transfer
w = slip 1 1 2 0

abbrev pub free : Run
free =
    today
    ▹ acks 0 t ▹ acks 1 t ▹ acks 2 t ▹ acks 3 u ▹ acks 4 u
    ▹ ack 1 0 t Note ▹ ack 1 1 t Note ▹ ack 1 2 t Note ▹ ack 1 3 u Note ▹ ack 1 4 u (Propose t)
    ▹ ack 2 3 u Note ▹ ack 2 4 u Note ▹ ack 2 5 u Note ▹ ack 2 0 t Note ▹ ack 2 1 t (Propose u)
    ▹ ruling 0 z (Accept 1)
    ▹ acks 0 w ▹ acks 1 w ▹ acks 2 w ▹ acks 3 w
    ▹ ack 3 0 w Note ▹ ack 3 1 w Note ▹ ack 3 2 w Note ▹ ack 3 3 w Note ▹ ack 3 5 (slip 1 1 3 0) (Propose w)
    ▹ ruling 4 w (Accept 1)

pub left_free : (at_honest page bad free ≡ true) × Obeys page free × Premises page bad free
unfolding rules_at ledger_at no_acks equal conflict has_most most_acked lowest_affordable apply settle_at_most settle step_under
left_free = (
  refl,
  tt
      then refl then refl then refl then refl then refl
      then refl then refl then refl then refl then refl
      then refl then refl then refl then refl then refl
      then refl
      then refl then refl then refl then refl
      then refl then refl then refl then refl then refl
      then refl,
  record { acks_genuine = refl; rulings_rightful = refl },
)

-- What else the premises say. A ruling counts, refused or not: this one is for a value above the opening sum.
abbrev pub refused_ruling : Run
refused_ruling = today ▹ ruling 0 (slip 0 1 14 1) (Refuse OutOfRange)

pub refused_rulings_count : Obeys page refused_ruling × (Premises page bad refused_ruling → ⊥)
unfolding rules_at ledger_at no_acks equal conflict has_most most_acked lowest_affordable apply settle_at_most settle step_under
refused_rulings_count = (tt then refl, λ keeps. false≢true keeps.rulings_rightful)

-- "an earlier call at that sender": here the call comes after the ack
abbrev ack_too_soon : Run
ack_too_soon = today ▹ ack 0 1 t Note ▹ acks 1 t

pub acked_earlier : Obeys page ack_too_soon × (Premises page bad ack_too_soon → ⊥)
unfolding rules_at ledger_at no_acks equal conflict has_most most_acked lowest_affordable apply settle_at_most settle step_under
acked_earlier = (tt then refl then refl, λ keeps. false≢true keeps.acks_genuine)

-- a run has calls at honest seats alone: seat 4, not the bad seat 5, nor seat 6, for there is none
pub honest_alone :
    (at_honest page bad (today ▹ acks 4 t) ≡ true)
    × (at_honest page bad (today ▹ acks 5 t) ≡ false)
    × (at_honest page bad (today ▹ acks 6 t) ≡ false)
honest_alone = (refl, refl, refl)

-- bad seats are counted among the n: the first and the last of them, and none behind
pub seats_counted : (count_below (eqb 0) 6 ≡ 1) × (count_below (eqb 5) 6 ≡ 1) × (count_below (eqb 6) 6 ≡ 0)
seats_counted = (refl, refl, refl)

-- What a slate says of its first accounts: balance and count of each.
abbrev lines : ℕ → ℕ → Slate → List (ℕ × ℕ)
lines zero a s = []
lines (suc left) a s = (s.balance (account_of a), s.count (account_of a)) ∷ lines left (suc a) s

abbrev pub slate : Opening → ℕ → Run → List (ℕ × ℕ)
slate o s run = lines o.accounts 0 (slate_at o (seat_of s) run)

-- "Balances 0 and 5: ruling (0, 1, 5, 1) gives K 0; then ruling (1, 1, 5, 0) gives K 2, balances 0 and 5."
abbrev pub poor : Opening
poor = page_with 6 1 (0 ∷ 5 ∷ [])

abbrev pub one_waits : Run
one_waits = today ▹ ruling 0 (slip 0 1 5 1) (Accept 0)

abbrev pub both_booked : Run
both_booked = one_waits ▹ ruling 0 (slip 1 1 5 0) (Accept 2)

-- .. and a next slip, after which those two do not leave again
abbrev pub one_more : Run
one_more = both_booked ▹ ruling 0 (slip 1 2 5 0) (Accept 1)

-- the third slip books the first, which books the second. A ruling that is refused then leaves the slate as it is
abbrev pub three : Opening
three = page_with 6 1 (1 ∷ 2 ∷ 5 ∷ [])

abbrev two_wait : Run
two_wait = today ▹ ruling 0 (slip 0 1 6 1) (Accept 0) ▹ ruling 0 (slip 1 1 8 2) (Accept 0)

abbrev pub chain : Run
chain = two_wait ▹ ruling 0 (slip 2 1 5 0) (Accept 3) ▹ ruling 0 (slip 2 1 5 0) (Refuse PastNumber)

-- Two slips wait at seats 0 and 1. Each is asked for its waiting list, and one lists them the other way round
abbrev pub both_wait : Run
both_wait = today ▹ ruling 0 (slip 0 1 11 1) (Accept 0) ▹ ruling 0 (slip 1 1 4 0) (Accept 0) ▹ ruling 1 (slip 1 1 4 0) (Accept 0) ▹ ruling 1 (slip 0 1 11 1) (Accept 0)

abbrev listed_first : Run
listed_first = both_wait ▹ lists 0 (replicate 32 9) (Ok 2) (0 ∷ 1 ∷ replicate 30 9)

abbrev either_order : Run
either_order = listed_first ▹ lists 1 (replicate 32 9) (Ok 2) (1 ∷ 0 ∷ replicate 30 9)

pub either_order_lem : Obeys page either_order
unfolding rules_at ledger_at waiting_accounts no_acks equal conflict has_most most_acked lowest_affordable apply settle_at_most settle step_under
either_order_lem =
    let l = ledger_at page (seat_of 1) listed_first in
    tt then refl then refl then refl then refl
    then rising_conforms newest (ledger_at page (seat_of 0) both_wait) _ _ _ (record { reply = refl; buffer = refl })
    then any_conforms newest l (1 ∷ 0 ∷ []) _ _ _ (exchanged l [] 0 1 [] (waiting_once l)) (record { reply = refl; buffer = refl })

-- "Recipient may equal payer": acks and rulings for such slips are still taken
abbrev pub to_itself : Run
to_itself = today ▹ ruling 0 (slip 0 1 4 0) (Accept 1)

pub slate_runs_obey : Obeys poor one_more × Obeys three chain × Obeys page to_itself
unfolding rules_at ledger_at no_acks equal conflict has_most most_acked lowest_affordable apply settle_at_most settle step_under
slate_runs_obey = (tt then refl then refl then refl, tt then refl then refl then refl then refl, tt then refl)

-- .. and what the slates say, of seat 1 too, which is not called. In the witness v has left at
-- seat 4 and has not come to seat 0.
pub slate_facts :
    (slate poor 0 one_waits ≡ (0, 0) ∷ (5, 0) ∷ [])
    × (slate poor 0 both_booked ≡ (0, 1) ∷ (5, 1) ∷ [])
    × (slate poor 0 one_more ≡ (5, 1) ∷ (0, 2) ∷ [])
    × (slate poor 1 one_more ≡ (0, 0) ∷ (5, 0) ∷ [])
    × (slate three 0 two_wait ≡ (1, 0) ∷ (2, 0) ∷ (5, 0) ∷ [])
    × (slate three 0 chain ≡ (0, 1) ∷ (0, 1) ∷ (8, 1) ∷ [])
    × (slate page 0 to_itself ≡ (10, 1) ∷ (3, 0) ∷ [])
    × (slate page 0 witness ≡ (6, 1) ∷ (7, 0) ∷ [])
    × (slate page 4 witness ≡ (12, 1) ∷ (1, 1) ∷ [])
unfolding slate_at leave_all leave_at_most equal
slate_facts = (refl, refl, refl, refl, refl, refl, refl, refl, refl)

-- "the one with the lowest account leaves", in whichever order they came
pub lowest_first :
    (lowest (λ s. true) (t ∷ v ∷ []) ≡ Some t)
    × (lowest (λ s. true) (v ∷ t ∷ []) ≡ Some t)
lowest_first = (refl, refl)
