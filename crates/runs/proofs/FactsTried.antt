-- The whole-run facts, Theorem 1 and demand 3, tried on runs: what their definitions say at single places, computed,
-- and that they say something of the runs of Examples.antt and of a few more.
use Prim.Native.Nat.{ℕ, zero, suc, ◌≤◌, ◌<◌}
use mathlib.Core.Path.{◌≡◌, refl}
use mathlib.Core.Bool.{Bool, true, false, beq, false≢true}
use mathlib.Core.List.{[], ◌∷◌}
use native.Mathlib.Omega.{arith}
use lib.Dec.{lit≤, lit<}
use borrow.Author.Tests.{le-ltb}
use Rattle.laws.specs.Types.{Seat, Transfer, Opening, Circulated, Ack, Inquiry, Acknowledge, Accept, Propose, Note, Balance, Refuse}
use Rattle.runs.specs.Runs.{Opens, FewBad, honest, Event, Run, ◌▹◌, Within, at_end, sooner, throughout, at_honest, rules_at, ledger_at, InAnyOrder, Obeys, proposed}
use Rattle.runs.specs.Premises.{acked_by, Premises}
use Rattle.runs.specs.Slates.{leave_at_most, leave_all, slate_at}
use Rattle.runs.specs.Claims.{SameCounts, Claim}
use Rattle.runs.specs.Facts.{answered_k, must_accept, accepted_by, ruled_for, Facts}
use Rattle.runs.specs.Undisputed.{AllAcked, reached, AllReached, Undisputed}
use Rattle.model.specs.declared.Refusal.TheVariants.{PastNumber, FutureNumber, AckRepeated, AckConflicting}
use Rattle.model.specs.Records.{seat_of, account_of, no_acks, sum_currents, entry_of}
use Rattle.model.specs.Transfers.{equal, conflict}
use Rattle.model.specs.Openings.{open_reply}
use Rattle.model.specs.Acks.{holds, acks_for, enough, has_most, most_acked}
use Rattle.model.specs.Settling.{lowest_affordable, apply, settle_at_most, settle}
use Rattle.model.specs.Calls.{waiting_accounts}
use Rattle.model.specs.Switches.{step_under}
use Rattle.model.proofs.Rows.{slip, page_with}
use Rattle.laws.proofs.Sums.{impossible}
use Rattle.laws.proofs.Equality.{conflict_sound}
use Rattle.runs.proofs.Found.{happened_found, that_slip}
use Rattle.runs.proofs.Examples.{page, t, u, v, bad, today, asked, acks, ack, ruling, ◌then◌, waits, witness, puts_forward, free, refused_ruling, poor, one_waits, both_booked, one_more, three, chain, both_wait, slate}

-- One more run: every honest seat acks t. At seat 0 the bad seat's ack of u comes first; the acks of seats 0 to 3 make
-- five with it, which conflict, and t is put forward; then the bad seat acks t too, and is refused. Seat 1 gets two
-- acks and one of them again, the others are lost: this far first.
abbrev one_lacks : Run
one_lacks =
    today
    ▹ acks 0 t ▹ acks 1 t ▹ acks 2 t ▹ acks 3 t ▹ acks 4 t
    ▹ ack 0 5 u Note ▹ ack 0 0 t Note ▹ ack 0 1 t Note ▹ ack 0 2 t Note ▹ ack 0 3 t (Propose t)
    ▹ ack 0 5 t (Refuse AckConflicting)
    ▹ ack 1 0 t Note ▹ ack 1 4 t Note ▹ ack 1 0 t (Refuse AckRepeated)

-- .. then the ack of seat 4 reaches seat 0, which accepts t
abbrev pub undisputed_run : Run
undisputed_run = one_lacks ▹ ack 0 4 t (Accept 1)

-- the call is answered K exactly if it must be
abbrev rightly_k : Opening → Run → Event → Bool
rightly_k o before e = beq (answered_k e.call) (must_accept (rules_at e.at before) (ledger_at o e.at before) e.call)

-- this event must be answered K, after this run
abbrev must : Run → Event → Bool
must before e = must_accept (rules_at e.at before) (ledger_at page e.at before) e.call

-- A call accepts exactly if it is an ack that makes enough or a ruling, and is not refused. So it is at every call of
-- these runs. At single ones: an ack that makes enough; one that would, from a seat whose ack is recorded, but is
-- refused; one of another slip; one that does not make enough; a ruling, and a refused one.
pub accepts_tried :
    (throughout (rightly_k page) witness ≡ true)
    × (throughout (rightly_k page) undisputed_run ≡ true)
    × (throughout (rightly_k poor) one_more ≡ true)
    × (throughout (rightly_k three) chain ≡ true)
    × (must one_lacks (ack 0 4 t (Accept 1)) ≡ true)
    × (must one_lacks (ack 0 5 t (Refuse AckConflicting)) ≡ false)
    × (must one_lacks (ack 0 4 u Note) ≡ false)
    × (must one_lacks (ack 1 3 t Note) ≡ false)
    × (must one_lacks (ruling 1 t (Accept 1)) ≡ true)
    × (must undisputed_run (ruling 0 t (Refuse PastNumber)) ≡ false)
unfolding rules_at ledger_at no_acks equal conflict has_most most_acked lowest_affordable apply settle_at_most settle step_under
accepts_tried = (refl, refl, refl, refl, refl, refl, refl, refl, refl, refl)

-- Of a slip at a seat, after a run: it was accepted there; twice its recorded acks exceed n + 3f; a ruling that is
-- not refused named it; it waits.
abbrev reasons : Opening → ℕ → Transfer → Run → Bool × Bool × Bool × Bool
reasons o s t run =
    let e = entry_of (ledger_at o (seat_of s) run) t.account in
    (accepted_by (seat_of s) t run, enough o.seats o.faults (acks_for t e.acks), ruled_for (seat_of s) t run, holds t e.pending)

-- A slip with its account's next number has been accepted exactly if it has acks enough or a ruling that is not refused
-- named it, and then it waits. In this order: one that waits by acks; one that waits by a ruling; one with four acks of
-- five, put forward; one that only a refused ruling named; one accepted at another seat, by acks, and by a ruling. A
-- slip that is booked is not of the next number: it was accepted, and nothing of it is left.
pub accepted_tried :
    (reasons page 4 v waits ≡ (true, true, false, true))
    × (reasons poor 0 (slip 0 1 5 1) one_waits ≡ (true, false, true, true))
    × (reasons page 0 t one_lacks ≡ (false, false, false, false))
    × (reasons page 0 (slip 0 1 14 1) refused_ruling ≡ (false, false, false, false))
    × (reasons page 1 t undisputed_run ≡ (false, false, false, false))
    × (reasons poor 1 (slip 0 1 5 1) one_waits ≡ (false, false, false, false))
    × (reasons page 0 t undisputed_run ≡ (true, false, false, false))
unfolding rules_at ledger_at no_acks equal conflict has_most most_acked lowest_affordable apply settle_at_most settle step_under
accepted_tried = (refl, refl, refl, refl, refl, refl, refl)

-- the sum of all current numbers at seat 0
abbrev currents : Run → ℕ
currents run = sum_currents (ledger_at poor (seat_of 0) run).entries

-- K's count is the rise in that sum: K 0, K 2, K 1
pub count_tried : (currents today ≡ 0) × (currents one_waits ≡ 0) × (currents both_booked ≡ 2) × (currents one_more ≡ 3)
unfolding rules_at ledger_at no_acks equal conflict has_most most_acked lowest_affordable apply settle_at_most settle step_under
count_tried = (refl, refl, refl, refl)

-- what holds of seats 0 to 4 holds of every honest seat of the page
pub each_honest : (P : Seat → Type 0) → P (seat_of 0) → P (seat_of 1) → P (seat_of 2) → P (seat_of 3) → P (seat_of 4)
    → (s : Seat) → honest page bad s ≡ true → P s
each_honest P p0 p1 p2 p3 p4 s fair = go s.0 fair
  where
    go : (i : ℕ) → honest page bad (seat_of i) ≡ true → P (seat_of i)
    go zero h = p0
    go (suc zero) h = p1
    go (suc (suc zero)) h = p2
    go (suc (suc (suc zero))) h = p3
    go (suc (suc (suc (suc zero)))) h = p4
    go (suc (suc (suc (suc (suc zero))))) h = impossible (cc)
    go (suc (suc (suc (suc (suc (suc i)))))) h = impossible (cc (le-ltb (suc (suc (suc (suc (suc (suc i)))))) 6 (omega arith)))

-- It is a run as Theorem 1 means it: it keeps the premises, every honest seat acked t, and
-- all their acks reached seat 0.
pub undisputed_keeps :
    (at_honest page bad undisputed_run ≡ true)
    × Obeys page undisputed_run
    × Premises page bad undisputed_run
    × AllAcked page bad t undisputed_run
    × AllReached page bad (seat_of 0) t undisputed_run
unfolding rules_at ledger_at no_acks equal conflict has_most most_acked lowest_affordable apply settle_at_most settle step_under
undisputed_keeps = (
  refl,
  tt
      then refl then refl then refl then refl then refl
      then refl then refl then refl then refl then refl
      then refl
      then refl then refl then refl
      then refl,
  record { acks_genuine = refl; rulings_rightful = refl },
  each_honest (λ s. acked_by s t undisputed_run ≡ true) refl refl refl refl refl,
  each_honest (λ s. reached (seat_of 0) s t undisputed_run ≡ true) refl refl refl refl refl,
)

-- Seat 0 has accepted t then. Where one ack has not arrived yet, or three were lost, t is not accepted
pub theorem1_computed :
    (accepted_by (seat_of 0) t undisputed_run ≡ true)
    × (accepted_by (seat_of 0) t one_lacks ≡ false)
    × (accepted_by (seat_of 1) t undisputed_run ≡ false)
unfolding equal
theorem1_computed = (refl, refl, refl)

-- .. and Theorem 1 says so only of places where all of them have arrived
pub undisputed_says : Undisputed page bad undisputed_run t → AllReached page bad (seat_of 0) t one_lacks → false ≡ true
unfolding equal
undisputed_says h = h.accepted_there one_lacks (seat_of 0) (sooner at_end) refl

-- Where fewer acks accept than there are honest seats, the last of their acks are refused, and have arrived all the
-- same: n 3, f 0. Seat 1 is ahead, and its ack of the next number comes to seat 0 too early, and is lost.
abbrev pub three_seats : Opening
three_seats = page_with 3 0 (10 ∷ 3 ∷ [])

abbrev t2 : Transfer
t2 = slip 0 2 4 1

-- no seat is bad
abbrev pub nobody : Seat → Bool
nobody s = false

abbrev pub late_ack : Run
late_ack =
    today
    ▹ acks 0 t ▹ acks 1 t ▹ acks 2 t
    ▹ ack 1 0 t Note ▹ ack 1 1 t (Accept 1) ▹ acks 1 t2
    ▹ ack 0 1 t2 (Refuse FutureNumber)
    ▹ ack 0 0 t Note ▹ ack 0 1 t (Accept 1) ▹ ack 0 2 t (Refuse PastNumber)

each_of_three : (P : Seat → Type 0) → P (seat_of 0) → P (seat_of 1) → P (seat_of 2) → (s : Seat) → honest three_seats nobody s ≡ true → P s
each_of_three P p0 p1 p2 s fair = go s.0 fair
  where
    go : (i : ℕ) → honest three_seats nobody (seat_of i) ≡ true → P (seat_of i)
    go zero h = p0
    go (suc zero) h = p1
    go (suc (suc zero)) h = p2
    go (suc (suc (suc i))) h = impossible (cc (le-ltb (suc (suc (suc i))) 3 (omega arith)))

pub late_keeps :
    Opens three_seats
    × FewBad three_seats nobody
    × (at_honest three_seats nobody late_ack ≡ true)
    × Obeys three_seats late_ack
    × Premises three_seats nobody late_ack
    × AllAcked three_seats nobody t late_ack
    × AllReached three_seats nobody (seat_of 0) t late_ack
unfolding rules_at ledger_at no_acks equal conflict has_most most_acked open_reply lowest_affordable apply settle_at_most settle step_under
late_keeps = (
  record { full_page = refl; not_refused = refl },
  lit≤ tt,
  refl,
  tt then refl then refl then refl then refl then refl then refl then refl then refl then refl then refl,
  record { acks_genuine = refl; rulings_rightful = refl },
  each_of_three (λ s. acked_by s t late_ack ≡ true) refl refl refl,
  each_of_three (λ s. reached (seat_of 0) s t late_ack ≡ true) refl refl refl,
)

-- Which acks have arrived: seat 3's at seat 0, and not at seat 1, where it was lost; of t, not of u. The bad seat's ack
-- of u has, and its ack of t after it, though refused. The late ack has, the early one has not.
pub reached_tried :
    (reached (seat_of 0) (seat_of 3) t undisputed_run ≡ true)
    × (reached (seat_of 1) (seat_of 3) t undisputed_run ≡ false)
    × (reached (seat_of 0) (seat_of 3) u undisputed_run ≡ false)
    × (reached (seat_of 0) (seat_of 5) u undisputed_run ≡ true)
    × (reached (seat_of 0) (seat_of 5) t undisputed_run ≡ true)
    × (reached (seat_of 0) (seat_of 2) t late_ack ≡ true)
    × (reached (seat_of 0) (seat_of 1) t2 late_ack ≡ false)
unfolding equal
reached_tried = (refl, refl, refl, refl, refl, refl, refl)

-- Theorem 1 needs every honest seat's ack of t. In this run of Examples.antt, which keeps the premises, seats 0 to 2
-- ack t, seats 3 and 4 ack u, and u is put forward.
pub all_acks_needed : (acked_by (seat_of 0) t free ≡ true) × (AllAcked page bad t free → ⊥) × (Undisputed page bad free t → ⊥)
unfolding equal conflict
all_acks_needed = (
  refl,
  λ all. false≢true (all (seat_of 3) refl),
  λ claim.
      let found = happened_found (puts_forward u) free refl in
      let apart = conflict_sound t u refl in
      apart.differ
      (claim.none_other_proposed found.0 found.1 u found.2 (that_slip u (proposed found.1.call) found.3)
      apart.account apart.number),
)

-- What the statements say at single places. Each part is the statement's own field there, computed: whatever else a
-- field would say does not fit. A seat alone, n 1 and f 0: one ack accepts. It books two slips of account 0, is
-- asked for a balance, and books v.
abbrev pub single : Opening
single = page_with 1 0 (10 ∷ 3 ∷ [])

abbrev two : Run
two = today ▹ acks 0 t ▹ ack 0 0 t (Accept 1) ▹ acks 0 t2 ▹ ack 0 0 t2 (Accept 1)

abbrev alone : Run
alone = two ▹ asked 0 (Inquiry (account_of 0)) (Balance 2) ▹ acks 0 v ▹ ack 0 0 v (Accept 1)

-- two numbers are equal
infix 4 ◌is◌
abbrev pub ◌is◌ : ℕ → ℕ → Type 0
m is n = m ≡ n

-- It is a run as demand 3 means it, and keeps the premises. What its slate says after the second slip, and at the end.
pub alone_keeps :
    Opens single × FewBad single nobody × (at_honest single nobody alone ≡ true) × Obeys single alone × Premises single nobody alone
    × (slate single 0 two ≡ (2, 2) ∷ (11, 0) ∷ [])
    × (slate single 0 alone ≡ (8, 2) ∷ (5, 1) ∷ [])
unfolding rules_at ledger_at no_acks equal conflict has_most most_acked open_reply lowest_affordable apply settle_at_most settle step_under slate_at leave_all leave_at_most
alone_keeps = (
  record { full_page = refl; not_refused = refl },
  lit≤ tt,
  refl,
  tt then refl then refl then refl then refl then refl then refl then refl,
  record { acks_genuine = refl; rulings_rightful = refl },
  refl,
  refl,
)

-- Demand 3: of t and t2, whose numbers differ, nothing; the book's balance and current number; the balance told; and
-- nothing of the two places, where the counts of account 1 differ.
pub claim_says : Claim single nobody alone
    → (1 is 2 → t ≡ t2)
    × (8 is 8)
    × (2 is 2)
    × (2 is 2)
    × (SameCounts single (seat_of 0) two (seat_of 0) alone → 2 is 8)
unfolding rules_at ledger_at no_acks equal conflict has_most most_acked lowest_affordable apply settle_at_most settle step_under slate_at leave_all leave_at_most
claim_says c = (
  c.agree (today ▹ acks 0 t) (today ▹ acks 0 t ▹ ack 0 0 t (Accept 1) ▹ acks 0 t2) (ack 0 0 t (Accept 1)) (ack 0 0 t2 (Accept 1)) t t2
      (sooner (sooner (sooner (sooner (sooner at_end))))) refl (sooner (sooner (sooner at_end))) refl refl,
  c.balances alone (seat_of 0) (account_of 0) at_end refl,
  c.counts alone (seat_of 0) (account_of 0) at_end refl,
  c.told two (asked 0 (Inquiry (account_of 0)) (Balance 2)) (account_of 0) 2 (sooner (sooner at_end)) refl,
  λ same. c.equal_counts two alone (seat_of 0) (seat_of 0) (sooner (sooner (sooner at_end))) refl at_end refl same (account_of 0),
)

-- .. for their counts are not equal in every account, though they are in the first
pub counts_differ : ((slate_at single (seat_of 0) two).count (account_of 0) ≡ (slate_at single (seat_of 0) alone).count (account_of 0))
    × (SameCounts single (seat_of 0) two (seat_of 0) alone → ⊥)
unfolding slate_at leave_all leave_at_most equal
counts_differ = (refl, λ same. zero_not_one (same (account_of 1) (lit< tt)))
  where
    zero_not_one : 0 is 1 → ⊥
    zero_not_one e = impossible (cc)

-- The facts of every run: current numbers rise; K's count is the rise, and with A there is none; of t and t2, which one
-- seat acked, nothing, since their numbers differ; nothing of t, which was accepted, has no acks left and waits no
-- more, since its number is not the next; and nothing of number 0.
pub facts_say : Facts single alone
    → (0 ≤ 2)
    × (3 is 3)
    × (2 is 2)
    × (1 is 2 → t ≡ t2)
    × (1 is 3 → true ≡ false)
    × (1 is 3 → true ≡ false)
    × (1 ≤ 0 → 0 ≤ 2 → (x : Transfer) × (x.account ≡ account_of 0) × (x.number ≡ 0) × (accepted_by (seat_of 0) x alone ≡ true))
unfolding rules_at ledger_at no_acks equal conflict has_most most_acked lowest_affordable apply settle_at_most settle step_under
facts_say f = (
  f.currents_rise today alone (seat_of 0) (account_of 0) (sooner (sooner (sooner (sooner (sooner (sooner (sooner at_end))))))) at_end,
  f.count_is_rise (two ▹ asked 0 (Inquiry (account_of 0)) (Balance 2) ▹ acks 0 v) (ack 0 0 v (Accept 1)) (Ack (seat_of 0) v) (Accept 1) at_end refl,
  f.count_is_rise (two ▹ asked 0 (Inquiry (account_of 0)) (Balance 2)) (acks 0 v) (Circulated v) Acknowledge (sooner at_end) refl,
  f.acked_once today (today ▹ acks 0 t ▹ ack 0 0 t (Accept 1)) (acks 0 t) (acks 0 t2) t t2
      (sooner (sooner (sooner (sooner (sooner (sooner at_end)))))) (sooner (sooner (sooner (sooner at_end)))) refl refl refl refl,
  f.accepted_exactly alone (seat_of 0) t at_end,
  f.waits_exactly alone (seat_of 0) t at_end,
  f.booked_accepted alone (seat_of 0) (account_of 0) 0 at_end,
)

-- .. and a slip that waits by a ruling; the ack that seat 0 recorded from seat 3; the greatest opening sum.
pub facts_say_too :
    (Facts poor one_waits → true ≡ true)
    × (Facts page one_lacks → (3 < 6) × (account_of 0 ≡ account_of 0) × (1 is 1))
    × (Facts (page_with 1 0 (4_294_967_295 ∷ [])) today → 4_294_967_295 < 4_294_967_296)
unfolding rules_at ledger_at no_acks equal conflict has_most most_acked lowest_affordable apply settle_at_most settle step_under
facts_say_too = (
  λ f. f.accepted_exactly one_waits (seat_of 0) (slip 0 1 5 1) at_end refl,
  λ f. f.acks_stand one_lacks (seat_of 0) (seat_of 3) (account_of 0) t at_end refl,
  λ f. (f.sums today (seat_of 0) at_end).1,
)

-- .. and the accounts: behind the two all is 0; of the second, which has 5 and has booked one slip, that is not said;
-- and the two have the opening sum.
pub accounts_say : Facts single alone
    → (2 ≤ 2 → (0 is 0) × (0 is 0))
    × (2 ≤ 1 → (5 is 0) × (1 is 0))
    × (13 is 13)
unfolding rules_at ledger_at no_acks equal conflict has_most most_acked lowest_affordable apply settle_at_most settle step_under
accounts_say f = (
  f.behind alone (seat_of 0) (account_of 2) at_end,
  f.behind alone (seat_of 0) (account_of 1) at_end,
  f.accounts_sum alone (seat_of 0) at_end,
)

-- Two seats, n 2 and f 0: two acks accept, and two that conflict put forward. Seat 0 accepts t. Afterwards seat 1 puts
-- t forward, and then accepts it by a ruling. For the next number seat 0 puts t2 forward.
abbrev pub two_seats : Opening
two_seats = page_with 2 0 (10 ∷ 3 ∷ [])

abbrev accepted_there : Run
accepted_there = today ▹ ack 0 0 t Note ▹ ack 0 1 t (Accept 1) ▹ ack 1 0 t Note

abbrev next_number : Run
next_number = accepted_there ▹ ack 1 1 u (Propose t) ▹ ruling 1 t (Accept 1) ▹ ack 0 0 t2 Note

abbrev disputed : Run
disputed = next_number ▹ ack 0 1 (slip 0 2 5 1) (Propose t2)

pub disputed_obeys : Obeys two_seats disputed
unfolding rules_at ledger_at no_acks equal conflict has_most most_acked lowest_affordable apply settle_at_most settle step_under
disputed_obeys = tt then refl then refl then refl then refl then refl then refl then refl

-- After it accepted a slip, a seat puts forward only this one for its number. It is not said of another seat, nor of
-- the next number, nor of what came before. (Runs that break it are in LateTried.antt.)
pub proposals_say :
    (Facts two_seats disputed → seat_of 0 ≡ seat_of 1 → (t ≡ t) × (2 ≤ 2))
    × (Facts two_seats disputed → 1 is 2 → (t ≡ t2) × (2 ≤ 2))
    × (Facts two_seats disputed → Within (accepted_there ▹ ack 1 1 u (Propose t) ▹ ruling 1 t (Accept 1)) accepted_there → (t ≡ t) × (2 ≤ 2))
unfolding rules_at
proposals_say = (
  λ f same.
      f.only_accepted_proposed (today ▹ ack 0 0 t Note) accepted_there (ack 0 1 t (Accept 1)) (ack 1 1 u (Propose t)) t t
      (sooner at_end) (sooner (sooner (sooner at_end))) same refl refl refl refl,
  λ f.
      f.only_accepted_proposed (today ▹ ack 0 0 t Note) next_number (ack 0 1 t (Accept 1)) (ack 0 1 (slip 0 2 5 1) (Propose t2)) t t2
      (sooner (sooner (sooner (sooner at_end)))) at_end refl refl refl refl,
  λ f after.
      f.only_accepted_proposed (accepted_there ▹ ack 1 1 u (Propose t)) accepted_there (ruling 1 t (Accept 1)) (ack 1 1 u (Propose t)) t t
      after (sooner (sooner (sooner at_end))) refl refl refl refl refl,
)

-- The order of a waiting list in a run: of accounts 0 and 1, which wait at seat 1, each stands once, and another does
-- not; of their places nothing is said.
pub order_says : InAnyOrder (ledger_at page (seat_of 1) both_wait) (1 ∷ 0 ∷ []) → (1 is 1) × (1 is 1) × (0 is 0)
unfolding rules_at ledger_at waiting_accounts no_acks equal conflict has_most most_acked lowest_affordable apply settle_at_most settle step_under
order_says h = (h 0, h 1, h 2)
