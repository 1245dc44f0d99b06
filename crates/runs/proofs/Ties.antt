-- Document 02, request 2, tried: the split 3, 3, 1 at two seats, the acks in two orders.
use Rattle.std.specs.Prelude.{Some}
use Prim.Native.Nat.{◌<◌}
use native.Mathlib.Omega.{arith}
use mathlib.Core.Path.{◌≡◌, refl, ap, sym, ◌∙◌}
use mathlib.Core.Bool.{true, false, false≢true}
use mathlib.Core.List.{List, [], ◌∷◌}
use lib.Dec.{lit<}
use Rattle.laws.specs.Types.{Transfer, AckSlot, Ledger, Opening, Message, Ack, Reply, Propose, Note}
use Rattle.runs.specs.Runs.{Run, start, ◌▹◌, rules_at, ledger_at, acks_with, MayReply, Obeys}
use Rattle.runs.specs.Proposals.{SameAcks}
use Rattle.runs.specs.Switching.{SameSaveTies, Alike}
use Rattle.runs.proofs.Examples.{page, t, u, today, ack, ◌then◌}
use Rattle.model.specs.Records.{seat_of, no_acks}
use Rattle.model.specs.Transfers.{equal, conflict}
use Rattle.model.specs.Acks.{has_most, most_acked}
use Rattle.model.specs.Settling.{lowest_affordable, apply, settle_at_most, settle}
use Rattle.model.specs.Calls.{step}
use Rattle.model.specs.Switches.{Rules, first_rules, newest, step_under}
use Rattle.model.proofs.Rows.{slip, page_with}

-- n 8, f 1: 7 recorded acks that conflict put forward
abbrev eight : Opening
eight = page_with 8 1 (10 ∷ 3 ∷ [])

-- a slip that conflicts with t and u
abbrev w : Transfer
w = slip 0 1 4 0

-- Acks of t from seats 0 to 2, of u from 3 to 5 and of w from 6 reach seat 1, those of t first and w's last, and
-- seat 2, those of u first and one of t last.
abbrev t_first : Run → Run
t_first run = run ▹ ack 1 0 t Note ▹ ack 1 1 t Note ▹ ack 1 2 t Note ▹ ack 1 3 u Note ▹ ack 1 4 u Note ▹ ack 1 5 u Note

abbrev u_first : Run → Run
u_first run = run ▹ ack 2 3 u Note ▹ ack 2 4 u Note ▹ ack 2 5 u Note ▹ ack 2 6 w Note ▹ ack 2 1 t Note ▹ ack 2 2 t Note

-- .. and both put a slip forward, seat 2 this one; under these rules
abbrev last_ack : Rules → Run
last_ack v = u_first (t_first (start (λ s. v)) ▹ ack 1 6 w (Propose t))

abbrev tied : Rules → Transfer → Run
tied v x = last_ack v ▹ ack 2 0 t (Propose x)

-- today both put t forward, whose lowest seat is 0
pub tied_today : Obeys eight (tied newest t)
unfolding rules_at ledger_at no_acks equal conflict has_most most_acked lowest_affordable apply settle_at_most settle step step_under
tied_today =
    tt
    then refl then refl then refl then refl then refl then refl then refl
    then refl then refl then refl then refl then refl then refl then refl

-- The ledgers of the two seats before the last ack, and that ack.
abbrev pub one : Ledger
one = ledger_at eight (seat_of 1) (t_first today)

abbrev pub other : Ledger
other = ledger_at eight (seat_of 2) (u_first today)

abbrev pub w_last : Message
w_last = Ack (seat_of 6) w

abbrev pub t_last : Message
t_last = Ack (seat_of 0) t

-- a P carries one slip
not_one : (a b : Transfer) → Propose a ≡ Propose b → b.value < a.value → ⊥
not_one a b same less = let slips : a ≡ b = cc in absurd (omega (arith, ap (λ (v : Transfer). v.value) slips))

-- where w has not the most acks, a P with a slip that has does not carry w
not_most : (acks : List AckSlot) (x : Transfer) → has_most acks w ≡ false → Propose w ≡ Propose x → has_most acks x ≡ true → ⊥
not_most acks x few is most = let same : w ≡ x = cc in let z : has_most acks w ≡ true = rw (← same) at most in false≢true (sym few ∙ z)

-- under the first rules a seat may also put u forward, which no seat does today; but none puts w forward
pub tied_in_a_run : Obeys eight (tied first_rules u) × (Obeys eight (tied newest u) → ⊥) × (Obeys eight (tied first_rules w) → ⊥)
unfolding rules_at ledger_at no_acks equal conflict has_most most_acked lowest_affordable apply settle_at_most settle step step_under
tied_in_a_run = (
  tt
      then refl then refl then refl then refl then refl then refl then (t, refl, refl)
      then refl then refl then refl then refl then refl then refl then (u, refl, refl),
  λ obeys. let z : Propose u ≡ Propose t = obeys.1 in not_one u t z (lit< tt),
  λ obeys. not_most (acks_with (ledger_at eight (seat_of 2) (last_ack first_rules)) t_last) obeys.1.0 refl obeys.1.1 obeys.1.2,
)

-- so on a tie what may be replied differs between the sets of rules
pub ties_differ : ((q r : Reply) → MayReply first_rules one w_last q → MayReply newest one w_last r → q ≡ r) → ⊥
unfolding rules_at ledger_at no_acks equal conflict has_most most_acked lowest_affordable apply settle_at_most settle step step_under
ties_differ same = not_one u t (same (Propose u) (Propose t) (u, refl, refl) refl) (lit< tt)

-- The ack at hand is among those by which it is answered: of three acks, two are of t with it, and one is of u.
abbrev one_each : Ledger
one_each = ledger_at page (seat_of 1) (today ▹ ack 1 0 t Note ▹ ack 1 3 u Note)

pub at_hand_counts : has_most (acks_with one_each (Ack (seat_of 1) t)) u ≡ false
unfolding rules_at ledger_at no_acks equal conflict has_most most_acked lowest_affordable apply settle_at_most settle step_under
at_hand_counts = refl

-- Where the acks differ, so may the slips: at one seat three acks of t and two of u, at another the other way round.
abbrev more_t : Ledger
more_t = ledger_at page (seat_of 1) (today ▹ ack 1 0 t Note ▹ ack 1 1 t Note ▹ ack 1 2 t Note ▹ ack 1 3 u Note)

abbrev more_u : Ledger
more_u = ledger_at page (seat_of 2) (today ▹ ack 2 3 u Note ▹ ack 2 4 u Note ▹ ack 2 2 u Note ▹ ack 2 0 t Note)

pub same_acks_needed :
    ((step more_t (Ack (seat_of 4) u)).reply ≡ Propose t)
    × ((step more_u (Ack (seat_of 1) t)).reply ≡ Propose u)
    × (SameAcks more_t (Ack (seat_of 4) u) more_u (Ack (seat_of 1) t) → ⊥)
unfolding rules_at ledger_at no_acks equal conflict has_most most_acked lowest_affordable apply settle_at_most settle step step_under
same_acks_needed = (refl, refl, λ same. let held : Some t ≡ Some u = same (seat_of 2) in apart held)
  where
    apart : Some t ≡ Some u → ⊥
    apart held = let slips : t ≡ u = cc in absurd (omega (arith, ap (λ (v : Transfer). v.value) slips))

-- What is alike between the sets of rules, on that tie: no more than that both slips have the most acks.
pub ties_save : Alike one w_last → SameSaveTies (acks_with one w_last) (Propose u) (Propose t)
unfolding rules_at ledger_at no_acks equal conflict has_most most_acked lowest_affordable apply settle_at_most settle step_under
ties_save alike = (alike (Propose u) (Propose t) (u, refl, refl) refl).0
