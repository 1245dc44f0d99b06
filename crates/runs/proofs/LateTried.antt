-- Document 02, request 5, tried: runs with late P's, from a number that is booked and from one that waits, that keep
-- the premises, and what is said of them. All is computed.
use Rattle.std.specs.Prelude.{Some, None}
use Prim.Native.Nat.{ℕ, ◌-◌, ◌≤◌, ◌<◌}
use native.Mathlib.Omega.{arith}
use mathlib.Core.Path.{◌≡◌, refl, ap}
use mathlib.Core.Logic.{◌⊎◌}
use mathlib.Core.Bool.{true, false, cond, not, ◌&&◌, ◌||◌}
use mathlib.Core.List.{[], ◌∷◌}
use lib.Dec.{eqb, lit≤, lit<}
use Rattle.laws.specs.Types.{Transfer, Slot, Ledger, Message, Ack, Reply, Accept, Propose, Note, Refuse}
use Rattle.runs.specs.Runs.{Opens, FewBad, Run, start, ◌▹◌, at_end, sooner, happened, at_honest, rules_at, ledger_at, Obeys, proposed, ruled, passes}
use Rattle.runs.specs.Premises.{acked_by, Premises}
use Rattle.runs.specs.Slates.{leave_at_most, leave_all, slate_at}
use Rattle.runs.specs.Facts.{proposed_for, Facts}
use Rattle.runs.specs.Proposals.{SameAcks, PutForwardAlike}
use Rattle.runs.specs.Undisputed.{AllAcked}
use Rattle.runs.specs.Switching.{LateAlone}
use Rattle.runs.proofs.Examples.{page, t, u, v, bad, today, acks, ack, ruling, ◌then◌, puts_forward, takes, slate}
use Rattle.runs.proofs.FactsTried.{single, two_seats, undisputed_run, each_honest, undisputed_keeps, ◌is◌}
use Rattle.runs.proofs.SwitchesTried.{as_it_was, switches}
use Rattle.model.specs.declared.Refusal.TheVariants.{PastNumber, AlreadyAccepted}
use Rattle.model.specs.Records.{seat_of, account_of, entry_of, no_acks}
use Rattle.model.specs.Transfers.{equal, conflict}
use Rattle.model.specs.Openings.{open_reply}
use Rattle.model.specs.Acks.{has_most, most_acked}
use Rattle.model.specs.Settling.{lowest_affordable, apply, settle_at_most, settle}
use Rattle.model.specs.Calls.{step}
use Rattle.model.specs.Switches.{first_rules, since_request3, since_request5, newest, step_under}
use Rattle.model.proofs.Rows.{slip}
use Rattle.laws.proofs.Sums.{impossible}

-- a slip that conflicts with v
abbrev v' : Transfer
v' = slip 1 1 5 0

-- the acks of x from seats 0 to 3 reach seat s; and with the bad seat's, which are enough
abbrev four_acks : ℕ → Transfer → Run → Run
four_acks s x r = r ▹ ack s 0 x Note ▹ ack s 1 x Note ▹ ack s 2 x Note ▹ ack s 3 x Note

abbrev five_acks : ℕ → Transfer → Reply → Run → Run
five_acks s x reply r = four_acks s x r ▹ ack s 5 x reply

-- Seats 0 to 3 ack t, and seat 4 acks u. Seats 0 to 3 accept t and book it; seat 4, where its own
-- ack conflicts, puts t forward.
abbrev accepts : Run → Run
accepts r =
    four_acks 4 t (five_acks 3 t (Accept 1) (five_acks 2 t (Accept 1) (five_acks 1 t (Accept 1) (five_acks 0 t (Accept 1)
    (r ▹ acks 0 t ▹ acks 1 t ▹ acks 2 t ▹ acks 3 t ▹ acks 4 u)))))
    ▹ ack 4 4 u (Propose t)

-- The ack of seat 4 reaches seats 0 to 3, and each replies so.
abbrev late : Reply → Reply → Reply → Reply → Run → Run
late a b c d r = r ▹ ack 0 4 u a ▹ ack 1 4 u b ▹ ack 2 4 u c ▹ ack 3 4 u d

-- Seats 0 to 3 ack v, which at seat 4 is accepted and waits for the funds that t brings.
abbrev waits_at4 : Run → Run
waits_at4 r = five_acks 4 v (Accept 0) (r ▹ acks 0 v ▹ acks 1 v ▹ acks 2 v ▹ acks 3 v)

-- All seats are under the newest rules: seats 0 to 3, which have booked t, join in and put it forward late, so that all
-- n - f honest seats have put it forward. At seat 4 v is put forward late, while it waits, by an ack of the bad seat,
-- which had acked v there; and no second time. Then the council rules for t: seat 4 books it by the ruling, and so v;
-- v' meets 6 then, and the ruling does at seat 0.
abbrev before_ruling : Run
before_ruling =
    waits_at4 (late (Propose t) (Propose t) (Propose t) (Propose t) (accepts today))
    ▹ ack 4 5 v' (Propose v) ▹ ack 4 5 v' (Refuse AlreadyAccepted)

abbrev pub joined_in : Run
joined_in =
    before_ruling
    ▹ ruling 4 t (Accept 2) ▹ ruling 0 t (Refuse PastNumber) ▹ ack 4 5 v' (Refuse PastNumber)

joined_obeys : Obeys page joined_in
unfolding rules_at ledger_at no_acks equal conflict has_most most_acked lowest_affordable apply settle_at_most settle step_under
joined_obeys =
    tt then refl then refl then refl then refl then refl
    then refl then refl then refl then refl then refl
    then refl then refl then refl then refl then refl
    then refl then refl then refl then refl then refl
    then refl then refl then refl then refl then refl
    then refl then refl then refl then refl then refl
    then refl then refl then refl then refl
    then refl then refl then refl then refl
    then refl then refl then refl then refl then refl
    then refl then refl then refl then refl then refl

-- The same ack is answered differently by seats of different rules: seat 0 joins in; seat 1, which switched twice
-- before it accepted, does too; seat 2, under the first rules, and seat 3, under those since request 3, reply 6. Seat 4
-- starts under the first rules and switches twice while v waits: before the second switch, its late ack meets 8; after
-- it, it puts v forward. Seat 3 switches when t is booked, so it retains nothing, and replies 6 still.
abbrev mixed_start : Run
mixed_start = start (λ s. cond (eqb s.0 0) newest (cond (eqb s.0 3) since_request3 first_rules)) ▹ switches 1 ▹ switches 1

-- .. up to where v waits at seat 4, and up to its second switch
abbrev before_switch : Run
before_switch = waits_at4 (late (Propose t) (Propose t) (Refuse PastNumber) (Refuse PastNumber) (accepts mixed_start))

abbrev at_switch : Run
at_switch = before_switch ▹ switches 4 ▹ ack 4 5 v' (Refuse AlreadyAccepted) ▹ switches 4

abbrev pub mixed : Run
mixed =
    at_switch
    ▹ ack 4 5 v' (Propose v) ▹ ack 4 5 v' (Refuse AlreadyAccepted)
    ▹ switches 3 ▹ ack 3 4 u (Refuse PastNumber)
    ▹ ruling 4 t (Accept 2) ▹ ack 4 5 v' (Refuse PastNumber)

mixed_obeys : Obeys page mixed
unfolding rules_at ledger_at no_acks equal conflict has_most most_acked lowest_affordable apply settle_at_most settle step_under
mixed_obeys =
    tt then tt then tt then refl then refl then refl then refl then refl
    then refl then refl then refl then refl then refl
    then refl then refl then refl then refl then refl
    then refl then refl then refl then refl then refl
    then refl then refl then refl then refl then refl
    then refl then refl then refl then refl then (t, refl, refl)
    then refl then refl then refl then refl
    then refl then refl then refl then refl
    then refl then refl then refl then refl then refl
    then tt then refl then tt then refl then refl
    then tt then refl
    then refl then refl

-- Both are runs as demand 3 means it, and keep the premises.
pub joined_keeps : Opens page × FewBad page bad × (at_honest page bad joined_in ≡ true) × Obeys page joined_in × Premises page bad joined_in
unfolding equal conflict open_reply
joined_keeps = (
  record { full_page = refl; not_refused = refl },
  lit≤ tt,
  refl,
  joined_obeys,
  record { acks_genuine = refl; rulings_rightful = refl },
)

pub mixed_keeps : Opens page × FewBad page bad × (at_honest page bad mixed ≡ true) × Obeys page mixed × Premises page bad mixed
unfolding equal conflict open_reply
mixed_keeps = (
  record { full_page = refl; not_refused = refl },
  lit≤ tt,
  refl,
  mixed_obeys,
  record { acks_genuine = refl; rulings_rightful = refl },
)

-- What the first has in it. Before the ruling each of the five honest seats put t forward, and n - f is 5; four of them
-- had accepted it, and seat 4 had not. v is put forward too, and nothing else. Seat 4 takes t by the ruling, at which
-- it is booked, and v with it; in the end all slates have booked t.
pub joined_has :
    (proposed_for (seat_of 0) t before_ruling && proposed_for (seat_of 1) t before_ruling && proposed_for (seat_of 2) t before_ruling
    && proposed_for (seat_of 3) t before_ruling && proposed_for (seat_of 4) t before_ruling ≡ true)
    × (page.seats - page.faults ≡ 5)
    × (happened (takes 0 t) before_ruling && happened (takes 1 t) before_ruling && happened (takes 2 t) before_ruling && happened (takes 3 t) before_ruling ≡ true)
    × (happened (takes 4 t) before_ruling ≡ false)
    × (happened (λ e. passes (equal t) (ruled e.call)) before_ruling ≡ false)
    × (happened (puts_forward v) before_ruling ≡ true)
    × (happened (λ e. passes (λ x. not (equal t x || equal v x)) (proposed e.call)) joined_in ≡ false)
    × (happened (takes 4 t) joined_in && happened (takes 4 v) joined_in ≡ true)
    × (slate page 4 before_ruling ≡ (10, 0) ∷ (3, 0) ∷ [])
    × (slate page 0 joined_in ≡ (6, 1) ∷ (7, 0) ∷ [])
    × (slate page 3 joined_in ≡ (6, 1) ∷ (7, 0) ∷ [])
    × (slate page 4 joined_in ≡ (12, 1) ∷ (1, 1) ∷ [])
unfolding slate_at leave_all leave_at_most equal
joined_has = (refl, refl, refl, refl, refl, refl, refl, refl, refl, refl, refl, refl)

-- who had which rules in the second
pub mixed_has :
    (rules_at (seat_of 0) mixed ≡ since_request5)
    × (rules_at (seat_of 1) mixed ≡ since_request5)
    × (rules_at (seat_of 2) mixed ≡ first_rules)
    × (rules_at (seat_of 3) mixed ≡ since_request5)
    × (rules_at (seat_of 4) mixed ≡ since_request5)
    × (slate page 4 mixed ≡ (12, 1) ∷ (1, 1) ∷ [])
unfolding rules_at slate_at leave_all leave_at_most equal
mixed_has = (refl, refl, refl, refl, refl, refl)

-- What seats hold, at the end of the two: seat 0 retains t with its mark, seat 4 both slips, each with its mark; in
-- the second run seat 3, which switched when t was booked, retains nothing, nor does seat 2; and seat 4, which
-- accepted t after its switch, has t.
pub held :
    ((entry_of (ledger_at page (seat_of 0) joined_in) (account_of 0)).retained ≡ Some t)
    × ((entry_of (ledger_at page (seat_of 0) joined_in) (account_of 0)).retained_proposed ≡ true)
    × ((entry_of (ledger_at page (seat_of 0) joined_in) (account_of 1)).retained ≡ None)
    × ((entry_of (ledger_at page (seat_of 4) joined_in) (account_of 0)).retained_proposed ≡ true)
    × ((entry_of (ledger_at page (seat_of 4) joined_in) (account_of 1)).retained ≡ Some v)
    × ((entry_of (ledger_at page (seat_of 2) mixed) (account_of 0)).retained ≡ None)
    × ((entry_of (ledger_at page (seat_of 3) mixed) (account_of 0)).retained ≡ None)
    × ((entry_of (ledger_at page (seat_of 4) mixed) (account_of 0)).retained ≡ Some t)
    × ((entry_of (ledger_at page (seat_of 4) mixed) (account_of 1)).retained ≡ Some v)
unfolding rules_at ledger_at no_acks equal conflict has_most most_acked lowest_affordable apply settle_at_most settle step_under
held = (refl, refl, refl, refl, refl, refl, refl, refl, refl)

-- What the facts of every run say here, each part the statement's own field at one place, computed. A seat alone, n 1
-- and f 0: an ack of t accepts it, and one of u, which is enough too, brings t as a late P and accepts nothing. A slip
-- t2 with the next number follows.
abbrev t2 : Transfer
t2 = slip 0 2 1 1

abbrev late_alone : Run
late_alone = today ▹ ack 0 0 t (Accept 1) ▹ ack 0 0 u (Propose t)

abbrev later_alone : Run
later_alone = late_alone ▹ ack 0 0 t2 (Accept 1) ▹ ack 0 0 (slip 0 2 2 1) (Propose t2)

pub late_alone_obeys : Obeys single later_alone
unfolding rules_at ledger_at no_acks equal conflict has_most most_acked lowest_affordable apply settle_at_most settle step_under
late_alone_obeys = tt then refl then refl then refl then refl

pub late_says : Facts single later_alone
    → (false ≡ false)
    × (true ≡ true)
    × ((t ≡ t) × (2 ≤ 2))
    × (1 is 2 → (t ≡ t2) × (late_alone ▹ ack 0 0 t2 (Accept 1) ≡ late_alone ▹ ack 0 0 t2 (Accept 1)))
    × ((account_of 0 ≡ account_of 0) × (true ≡ true) × (2 is 2))
    × (1 is 2 → Some t2 ≡ Some t)
    × (2 is 2 → Some t2 ≡ Some t2)
unfolding rules_at ledger_at no_acks equal conflict has_most most_acked lowest_affordable apply settle_at_most settle step_under
late_says f = (
  f.accepts_exactly (today ▹ ack 0 0 t (Accept 1)) (ack 0 0 u (Propose t)) (sooner (sooner at_end)),
  f.accepts_exactly today (ack 0 0 t (Accept 1)) (sooner (sooner (sooner at_end))),
  f.only_accepted_proposed today (today ▹ ack 0 0 t (Accept 1)) (ack 0 0 t (Accept 1)) (ack 0 0 u (Propose t)) t t at_end (sooner (sooner at_end))
      refl refl refl refl refl,
  λ same.
      let once =
      f.proposed_once (today ▹ ack 0 0 t (Accept 1)) (late_alone ▹ ack 0 0 t2 (Accept 1)) (ack 0 0 u (Propose t)) (ack 0 0 (slip 0 2 2 1) (Propose t2)) t t2
      (sooner (sooner at_end)) at_end refl refl refl refl same in
      (once.0, refl),
  f.retained_stands later_alone (seat_of 0) (account_of 0) t2 at_end refl,
  f.latest_retained today later_alone (ack 0 0 t (Accept 1)) t (sooner (sooner (sooner at_end))) at_end refl (lit≤ tt),
  f.latest_retained late_alone later_alone (ack 0 0 t2 (Accept 1)) t2 (sooner at_end) at_end refl (lit≤ tt),
)

-- What a seat accepted under earlier rules is not retained, and that is not said of it.
pub late_says_earlier : Facts single (as_it_was ▹ ack 0 0 t (Accept 1)) → 2 ≤ 0 → 1 is 1 → None ≡ Some t
unfolding rules_at ledger_at no_acks equal conflict has_most most_acked lowest_affordable apply settle_at_most settle step_under
late_says_earlier f = f.latest_retained as_it_was (as_it_was ▹ ack 0 0 t (Accept 1)) (ack 0 0 t (Accept 1)) t at_end at_end refl

-- The same where the slip waits: at seat 4 v, before the ruling, with its late P; in the second run seat 4
-- had accepted v under the first rules. At a seat under those nothing is retained, what waits neither;
-- under the newest that is not said.
pub late_says_waiting :
    (Facts page before_ruling → (account_of 1 ≡ account_of 1) × (true ≡ true) × (1 is 1))
    × (Facts page before_ruling → true ≡ true)
    × (Facts page before_ruling → 1 is 1 → Some v ≡ Some v)
    × (Facts page at_switch → 2 ≤ 2 → Some v ≡ Some v → Some v ≡ Some v)
    × (Facts page before_switch → 2 ≤ 0 → Some v ≡ Some v → None ≡ Some v)
    × (Facts page mixed → (◌≡◌ {A = Slot} None None) × (false ≡ false))
    × (Facts page joined_in → 2 < 2 → (Some t ≡ None) × (true ≡ false))
unfolding rules_at ledger_at no_acks equal conflict has_most most_acked lowest_affordable apply settle_at_most settle step_under
late_says_waiting = (
  λ f. f.retained_stands before_ruling (seat_of 4) (account_of 1) v at_end refl,
  λ f. f.retained_marked before_ruling (seat_of 4) (account_of 1) v at_end refl,
  λ f.
      f.latest_retained (four_acks 4 v (late (Propose t) (Propose t) (Propose t) (Propose t) (accepts today) ▹ acks 0 v ▹ acks 1 v ▹ acks 2 v ▹ acks 3 v))
      before_ruling (ack 4 5 v (Accept 0)) v (sooner (sooner at_end)) at_end refl (lit≤ tt),
  λ f. f.waiting_retained at_switch (seat_of 4) (account_of 1) v at_end,
  λ f. f.waiting_retained before_switch (seat_of 4) (account_of 1) v at_end,
  λ f. f.none_retained mixed (seat_of 2) (account_of 0) at_end (lit< tt),
  λ f. f.none_retained joined_in (seat_of 0) (account_of 0) at_end,
)

-- In place of what it comes: of 6 at seat 0, where t is booked, and of 8 at seat 4, where v waits; at a seat under
-- earlier rules it does not come.
pub in_place_says :
    (Facts page (accepts today) → true ≡ true → (Some PastNumber ≡ Some PastNumber) ⊎ (Some PastNumber ≡ Some AlreadyAccepted))
    × (Facts page at_switch → true ≡ true → (Some AlreadyAccepted ≡ Some PastNumber) ⊎ (Some AlreadyAccepted ≡ Some AlreadyAccepted))
    × (Facts page mixed → false ≡ true → (Some PastNumber ≡ Some PastNumber) ⊎ (Some PastNumber ≡ Some AlreadyAccepted))
unfolding rules_at ledger_at no_acks equal conflict has_most most_acked lowest_affordable apply settle_at_most settle step_under
in_place_says = (
  λ f. f.in_place (accepts today) (seat_of 0) (Ack (seat_of 4) u) at_end,
  λ f. f.in_place at_switch (seat_of 4) (Ack (seat_of 5) v') at_end,
  λ f. f.in_place mixed (seat_of 2) (Ack (seat_of 4) u) at_end,
)

-- two seats, of which seat 0 puts t forward on a tie, and then a ruling accepts u
abbrev used_up : Run
used_up = today ▹ ack 0 0 t Note ▹ ack 0 1 u (Propose t) ▹ ruling 0 u (Accept 1)

-- What the next numbers' marks say there: at seat 0 nothing was put forward for account 1's; at seat 4 t was for
-- account 0's; of account 1's there, where v waits, nothing is said. And what the mark of a retained slip says, where
-- another was put forward before the acceptance: t, and then the ruling is for u.
pub marks_say :
    (Facts page before_ruling → false ≡ false)
    × (Facts page before_ruling → true ≡ true)
    × (Facts page before_ruling → Some v ≡ None → false ≡ true)
    × (Facts two_seats used_up → true ≡ true)
unfolding rules_at ledger_at no_acks equal conflict has_most most_acked lowest_affordable apply settle_at_most settle step_under
marks_say = (
  λ f. f.next_marked before_ruling (seat_of 0) v at_end refl refl,
  λ f. f.next_marked before_ruling (seat_of 4) t at_end refl refl,
  λ f. f.next_marked before_ruling (seat_of 4) v at_end refl,
  λ f. f.retained_marked used_up (seat_of 0) (account_of 0) u at_end refl,
)

-- A run as Theorem 1 means it, in which one of the honest seats joins in: every honest seat has acked t, and the bad
-- seat's ack of u comes to seat 1 when t is booked there. Nothing but t is put forward.
abbrev pub joined_undisputed : Run
joined_undisputed = undisputed_run ▹ ack 1 1 t Note ▹ ack 1 2 t Note ▹ ack 1 3 t (Accept 1) ▹ ack 1 5 u (Propose t)

pub joined_undisputed_lem :
    (at_honest page bad joined_undisputed ≡ true)
    × Obeys page joined_undisputed
    × Premises page bad joined_undisputed
    × AllAcked page bad t joined_undisputed
unfolding rules_at ledger_at no_acks equal conflict has_most most_acked lowest_affordable apply settle_at_most settle step_under
joined_undisputed_lem = (
  refl,
  undisputed_keeps.1 then refl then refl then refl then refl,
  record { acks_genuine = refl; rulings_rightful = refl },
  each_honest (λ s. acked_by s t joined_undisputed ≡ true) refl refl refl refl refl,
)

-- Late P's are not alike on equal acks: seat 0 has accepted t, and another in its place u; the ack of a third slip,
-- which is the only one that either has then, brings t and u.
abbrev t_there : Ledger
t_there = ledger_at single (seat_of 0) (today ▹ ack 0 0 t (Accept 1))

abbrev u_there : Ledger
u_there = ledger_at single (seat_of 0) (today ▹ ack 0 0 u (Accept 1))

abbrev third : Message
third = Ack (seat_of 0) (slip 0 1 6 1)

pub late_not_alike :
    ((step t_there third).reply ≡ Propose t)
    × ((step u_there third).reply ≡ Propose u)
    × SameAcks t_there third u_there third
unfolding rules_at ledger_at no_acks equal conflict has_most most_acked lowest_affordable apply settle_at_most settle step step_under
late_not_alike = (refl, refl, λ s. refl)

-- .. so that two P's are alike is not said of these
pub alike_unless_late : PutForwardAlike → true ≡ false → true ≡ false → t ≡ u
unfolding rules_at ledger_at no_acks equal conflict has_most most_acked lowest_affordable apply settle_at_most settle step step_under
alike_unless_late alike one other = alike t_there u_there third third t u one other refl refl (λ s. refl)

-- What does not differ from the rules before is not said where a late P is due: there 6 is
-- replied. And the mark is set there.
pub late_alone_says : LateAlone t_there third → (true ≡ false → Propose t ≡ Refuse PastNumber) × (true ≡ true)
unfolding rules_at ledger_at no_acks equal conflict has_most most_acked lowest_affordable apply settle_at_most settle step_under
late_alone_says f = (λ none. (f.otherwise none).0, ap (λ (l : Ledger). (entry_of l (account_of 0)).retained_proposed) (f.late refl).1)

-- A run in which a seat puts another slip forward than the one that it accepted, or does it under earlier rules, or
-- puts forward twice, breaks the facts.
pub late_breaks :
    (Facts two_seats (today ▹ ruling 0 t (Accept 1) ▹ ack 0 1 u (Propose u)) → ⊥)
    × (Facts two_seats (as_it_was ▹ ruling 0 t (Accept 1) ▹ ack 0 1 u (Propose t)) → ⊥)
    × (Facts two_seats (today ▹ ack 0 1 u (Propose t) ▹ ack 0 1 u (Propose t)) → ⊥)
unfolding rules_at
late_breaks = (
  λ f.
      let same = (f.only_accepted_proposed today (today ▹ ruling 0 t (Accept 1)) (ruling 0 t (Accept 1)) (ack 0 1 u (Propose u)) t u at_end at_end refl refl refl refl refl).0 in
      absurd (omega (arith, ap (λ (x : Transfer). x.value) same)),
  λ f.
      let newer : 2 ≤ 0 =
      (f.only_accepted_proposed as_it_was (as_it_was ▹ ruling 0 t (Accept 1)) (ruling 0 t (Accept 1)) (ack 0 1 u (Propose t)) t t at_end at_end refl refl refl refl refl).1 in
      absurd (omega arith),
  λ f. no_loop (f.proposed_once today (today ▹ ack 0 1 u (Propose t)) (ack 0 1 u (Propose t)) (ack 0 1 u (Propose t)) t t (sooner at_end) at_end refl refl refl refl refl).1,
)
  where
    no_loop : today ≡ today ▹ ack 0 1 u (Propose t) → ⊥
    no_loop same = impossible (cc)
