-- Acks that are all of one account and number: two conflict where fewer are equal to one of them than are recorded.
use Rattle.std.specs.Prelude.{Some, None, is_some}
use Prim.Native.Nat.{ℕ, suc, ◌+◌, ◌≤◌, ◌<◌}
use native.Mathlib.Decide.{dec_lt}
use native.Mathlib.Omega.{arith}
use mathlib.Core.Path.{◌≡◌, refl, ap, ◌∙◌}
use mathlib.Core.Bool.{Bool, true, false, not}
use mathlib.Core.List.{List, [], ◌∷◌}
use lib.Dec.{ltb}
use borrow.Author.Tests.{lt-ltb, le-ltb, eq-eqb}
use Rattle.model.specs.declared.Account.{Account}
use Rattle.model.specs.declared.Transfer.{Transfer}
use Rattle.model.specs.Types.{Slot, AckSlot}
use Rattle.model.specs.Basics.{bit, count}
use Rattle.model.specs.Transfers.{equal, conflict}
use Rattle.model.specs.Acks.{ack_at, holds, conflicts, acks_for, acks_recorded, two_conflict}
use Rattle.laws.proofs.Sums.{impossible, some_counted, sum_at_least}
use Rattle.laws.proofs.Equality.{equal_sound}
use Rattle.laws.proofs.Tallies.{inside, TwoConflict, two_conflict_sound, two_conflict_complete}

abbrev none : AckSlot
none = record { slot = None }

-- each recorded ack is of the slip's account and number
abbrev pub AllOf : Transfer → List AckSlot → Type 0
AllOf t acks = (i : ℕ) (u : Transfer) → ack_at acks i ≡ Some u → (u.account ≡ t.account) × (u.number ≡ t.number)

module _ (t : Transfer) where
  -- how many acks conflict with the slip
  abbrev against : List AckSlot → ℕ
  against acks = count (λ a. conflicts t a.slot) acks

  -- a slip of the same account and number conflicts where it is not equal
  conflict_unequal : (u : Transfer) → (u.account ≡ t.account) × (u.number ≡ t.number) → conflict u t ≡ not (equal u t)
  unfolding conflict
  conflict_unequal u of =
      rw (eq-eqb u.account.0 t.account.0 (ap (λ (a : Account). a.0) of.0), eq-eqb u.number t.number of.1)

  -- so each recorded ack is equal or conflicts
  recorded_each : (acks : List AckSlot) → AllOf t acks → acks_recorded acks ≡ acks_for t acks + against acks
  recorded_each [] all = refl
  recorded_each (a ∷ rest) all = omega (arith, one a.slot refl, recorded_each rest (λ i. all (suc i)))
    where
      either : (b : Bool) → 1 ≡ bit b + bit (not b)
      either true = refl
      either false = refl

      one : (s : Slot) → a.slot ≡ s → bit (is_some s) ≡ bit (holds t s) + bit (conflicts t s)
      one None e = refl
      one (Some u) e = rw (conflict_unequal u (all 0 u e)) (either (equal u t))

  module _ (acks : List AckSlot) (all : AllOf t acks) where
    -- an ack that conflicts is counted
    counted_against : (i : ℕ) (u : Transfer) → ack_at acks i ≡ Some u → conflict u t ≡ true → 1 ≤ against acks
    counted_against i u at c =
        let here : bit (conflicts t (ack_at acks i)) ≡ 1 = rw (at, c) in
        omega (arith, here, sum_at_least (λ a. bit (conflicts t a.slot)) acks i none (inside acks i u at))

    -- of two that conflict one conflicts with the slip
    one_against : TwoConflict acks → 1 ≤ against acks
    one_against two = go (equal two.one t) refl
      where
        go : (b : Bool) → equal two.one t ≡ b → 1 ≤ against acks
        go true e = counted_against two.second two.other two.second_is (rw (equal_sound two.one t e) at two.conflicting)
        go false e =
            counted_against two.first two.one two.first_is (conflict_unequal two.one (all two.first two.one two.first_is) ∙ rw e)

    -- an ack equal to the slip and one that conflicts with it are two
    both_recorded : 1 ≤ acks_for t acks → 1 ≤ against acks → TwoConflict acks
    both_recorded some other = go (ack_at acks equal_one.0) refl (ack_at acks unequal_one.0) refl
      where
        equal_one : (i : ℕ) × (holds t (ack_at acks i) ≡ true)
        equal_one = some_counted (λ a. holds t a.slot) acks none some

        unequal_one : (i : ℕ) × (conflicts t (ack_at acks i) ≡ true)
        unequal_one = some_counted (λ a. conflicts t a.slot) acks none other

        go : (s : Slot) → ack_at acks equal_one.0 ≡ s → (r : Slot) → ack_at acks unequal_one.0 ≡ r → TwoConflict acks
        go None e r f = impossible (let z : false ≡ true = rw e at equal_one.1 in cc)
        go (Some v) e None f = impossible (let z : false ≡ true = rw f at unequal_one.1 in cc)
        go (Some v) e (Some u) f =
            let same : equal v t ≡ true = rw e at equal_one.1 in
            let apart : conflict u t ≡ true = rw f at unequal_one.1 in
            record {
              first = equal_one.0;
              second = unequal_one.0;
              one = v;
              other = u;
              first_inside = inside acks equal_one.0 v e;
              second_inside = inside acks unequal_one.0 u f;
              first_is = e;
              second_is = f;
              conflicting = rw (equal_sound v t same) apart;
            }

    pub two_conflict_fewer : 0 < acks_for t acks → ltb (acks_for t acks) (acks_recorded acks) ≡ two_conflict acks
    two_conflict_fewer some = go (dec_lt (acks_for t acks) (acks_recorded acks)) (two_conflict acks) refl
      where
        go : Dec (acks_for t acks < acks_recorded acks) → (b : Bool) → two_conflict acks ≡ b → ltb (acks_for t acks) (acks_recorded acks) ≡ two_conflict acks
        go (yes l) b e =
            rw (lt-ltb (acks_for t acks) (acks_recorded acks) l, two_conflict_complete acks (both_recorded some (omega (arith, recorded_each acks all))))
        go (no n) true e = absurd (omega (arith, n, one_against (two_conflict_sound acks e), recorded_each acks all))
        go (no n) false e = rw (le-ltb (acks_for t acks) (acks_recorded acks) (omega arith), e)
