-- The statement on evidence, tried: a run with a bad seat that is found, and one ack that no call of the run backs, by
-- which an honest seat is. All is computed.
use Rattle.std.proofs.lemmas.Bool.{not-false}
use Rattle.model.specs.Types.{found_pair}
use Rattle.std.specs.Prelude.{None}
use Prim.Native.Nat.{ℕ}
use native.Mathlib.Omega.{arith}
use mathlib.Core.Path.{◌≡◌, refl}
use mathlib.Core.Bool.{Bool, true, false, not, ◌&&◌}
use mathlib.Core.List.{List, [], ◌∷◌}
use lib.Dec.{lit<}
use Rattle.laws.specs.Types.{Seat, Transfer, Opening, Which, First}
use Rattle.runs.specs.Runs.{Opens, honest, Run, ◌▹◌, rules_at, ledger_at, Obeys}
use Rattle.runs.specs.Premises.{implies, acked_by}
use Rattle.runs.specs.Evidence.{Genuine, BothGenuine, HonestNeverFound}
use Rattle.runs.proofs.Examples.{page, t, u, bad, today, acks, ◌then◌, witness_keeps}
use Rattle.model.specs.Basics.{first_where}
use Rattle.model.specs.Records.{seat_of, no_acks}
use Rattle.model.specs.Transfers.{equal, conflict}
use Rattle.model.specs.Bundles.{entry_count, page_at}
use Rattle.model.specs.Writing.{written}
use Rattle.model.specs.Joins.{is_ack, seat_on, slip_on, is_pair, partner_of, earliest_pair, evidence}
use Rattle.model.specs.Settling.{lowest_affordable, apply, settle_at_most, settle}
use Rattle.model.specs.Switches.{step_under}
use Rattle.model.proofs.Rows.{unruled, ack_by}
use Rattle.laws.proofs.Sums.{impossible, first_none}

-- t reaches seats 0 and 1, and u seat 2
abbrev pub three_acked : Run
three_acked = today ▹ acks 0 t ▹ acks 1 t ▹ acks 2 u

pub three_obey : Obeys page three_acked
unfolding rules_at ledger_at no_acks equal conflict lowest_affordable apply settle_at_most settle step_under
three_obey = tt then refl then refl then refl

-- what two homes bring: seat 5, which is bad, acks t to the one and u to the other
abbrev pub bundle_one : List ℕ
bundle_one = written page (ack_by 0 t ∷ ack_by 5 t ∷ ack_by 1 t ∷ [])

abbrev pub bundle_other : List ℕ
bundle_other = written page (ack_by 2 u ∷ ack_by 0 t ∷ ack_by 1 t ∷ ack_by 5 u ∷ [])

-- .. and an ack that seat 0 never gave
abbrev forged : List ℕ
forged = written page (ack_by 2 u ∷ ack_by 0 u ∷ [])

-- no ack of a bundle is forged, by computation
module _ (bytes : List ℕ) where
  abbrev backed : ℕ → Bool
  backed i =
      implies (is_ack (page_at bytes i) && honest page bad (seat_on (page_at bytes i))) (acked_by (seat_on (page_at bytes i)) (slip_on (page_at bytes i)) three_acked)

  none_forged : first_where (λ i. not (backed i)) (entry_count bytes) 0 ≡ None → Genuine page bad three_acked bytes
  none_forged e i below ack fair =
      let holds = not-false (backed i) (first_none (λ k. not (backed k)) (entry_count bytes) 0 e i (omega arith) (omega (arith, below))) in
      rw (ack, fair) at holds

pub one_genuine : Genuine page bad three_acked bundle_one
unfolding written equal
one_genuine = none_forged bundle_one refl

-- Each ack of an honest seat carries a slip that a call at that seat acked: the premise has a witness,
pub both_genuine : BothGenuine page bad three_acked bundle_one bundle_other
unfolding written equal
both_genuine = record { in_first = one_genuine; in_second = none_forged bundle_other refl }

-- and the bad seat is found.
pub bad_found : (evidence bundle_one bundle_other unruled ≡ found_pair (seat_of 5) 2 4 First) × (honest page bad (seat_of 5) ≡ false)
unfolding written equal conflict is_pair partner_of earliest_pair evidence
bad_found = (refl, refl)

-- By a forged ack of an honest seat in one of the bundles alone that seat is found, in the second
pub honest_found : (evidence bundle_one forged unruled ≡ found_pair (seat_of 0) 1 2 First) × (honest page bad (seat_of 0) ≡ true)
unfolding written equal conflict is_pair partner_of earliest_pair evidence
honest_found = (refl, refl)

-- .. or in the first;
pub honest_found_first : evidence forged bundle_one unruled ≡ found_pair (seat_of 0) 2 1 First
unfolding written equal conflict is_pair partner_of earliest_pair evidence
honest_found_first = refl

-- which the premise rules out: it does not hold of these two, either way round.
pub premise_fails : BothGenuine page bad three_acked bundle_one forged → ⊥
unfolding written equal
premise_fails h = let backs : false ≡ true = h.in_second 2 (lit< tt) refl refl in impossible (cc)

pub premise_fails_first : BothGenuine page bad three_acked forged bundle_one → ⊥
unfolding written equal
premise_fails_first h = let backs : false ≡ true = h.in_first 2 (lit< tt) refl refl in impossible (cc)

-- What the statement says of these two, from its premise;
pub evidence_says : HonestNeverFound → BothGenuine page bad three_acked bundle_one forged → honest page bad (seat_of 0) ≡ false
evidence_says claim genuine =
    claim page bad three_acked bundle_one forged unruled (seat_of 0) 1 2 First witness_keeps.0 three_obey genuine honest_found.0

-- .. and with less of a premise it would be false: with the acks of the first bundle alone, and so with none.
pub both_needed :
    ((o : Opening) (bad : Seat → Bool) (run : Run) (first second : List ℕ) (ruled : Transfer) (seat : Seat) (i j : ℕ) (shown : Which)
    → Opens o → Obeys o run → Genuine o bad run first → evidence first second ruled ≡ found_pair seat i j shown → honest o bad seat ≡ false)
    → ⊥
both_needed claim =
    let apart = claim page bad three_acked bundle_one forged unruled (seat_of 0) 1 2 First witness_keeps.0 three_obey one_genuine honest_found.0 in
    impossible (cc (apart, honest_found.1))
