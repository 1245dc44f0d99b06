-- Laws of the tally: what the tests for "a slip that has the most acks" and for "two of them conflict" say.
use Rattle.std.proofs.lemmas.Bool.{and_parts}
use Rattle.std.specs.Prelude.{Some, None}
use Prim.Native.Nat.{ℕ, zero, suc, ◌≤◌, ◌<◌}
use native.Mathlib.Omega.{arith}
use mathlib.Core.Path.{◌≡◌, refl, ap}
use mathlib.Core.Logic.{◌⊎◌, inl, inr}
use mathlib.Core.Bool.{Bool, true, false}
use mathlib.Core.List.{List, [], ◌∷◌}
use lib.ListN.{length}
use borrow.Author.Tests.{leb-true, le-leb}
use Rattle.laws.specs.Types.{Transfer, Slot, AckSlot}
use Rattle.model.specs.Basics.{bit, every}
use Rattle.model.specs.Transfers.{equal, conflict}
use Rattle.model.specs.Acks.{ack_at, holds, conflicts, acks_for, conflicts_with_any, two_conflict, no_more_than, has_most}
use Rattle.laws.proofs.Sums.{impossible, every_all, any_found, any_holds}
use Rattle.laws.proofs.Equality.{equal_sound}

-- no slip has more of the acks
abbrev pub MostAcked : List AckSlot → Transfer → Type 0
MostAcked acks t = (v : Transfer) → acks_for v acks ≤ acks_for t acks

one_place : (c : ℕ) (acks : List AckSlot) (s : Slot) (v : Transfer)
    → no_more_than c acks s ≡ true → (bit (holds v s) ≡ 0) ⊎ (acks_for v acks ≤ c)
one_place c acks None v e = inl refl
one_place c acks (Some u) v e = go (equal u v) refl
  where
    go : (b : Bool) → equal u v ≡ b → (bit (equal u v) ≡ 0) ⊎ (acks_for v acks ≤ c)
    go true h = inr (rw (equal_sound u v h) at (leb-true (acks_for u acks) c e))
    go false h = inl (ap bit h)

-- a slip of which none stands in these places, or of which there are at most c
each_place : (c : ℕ) (acks places : List AckSlot) (v : Transfer)
    → every (λ a. no_more_than c acks a.slot) places ≡ true → (acks_for v places ≡ 0) ⊎ (acks_for v acks ≤ c)
each_place c acks [] v e = inl refl
each_place c acks (a ∷ rest) v e =
    let parts = and_parts (no_more_than c acks a.slot) (every (λ b. no_more_than c acks b.slot) rest) e in
    join (one_place c acks a.slot v parts.0) (each_place c acks rest v parts.1)
  where
    join : (bit (holds v a.slot) ≡ 0) ⊎ (acks_for v acks ≤ c) → (acks_for v rest ≡ 0) ⊎ (acks_for v acks ≤ c)
        → (acks_for v (a ∷ rest) ≡ 0) ⊎ (acks_for v acks ≤ c)
    join (inr h) r = inr h
    join (inl z) (inr h) = inr h
    join (inl z) (inl y) = inl (omega arith)

pub most_sound : (acks : List AckSlot) (t : Transfer) → has_most acks t ≡ true → MostAcked acks t
unfolding has_most
most_sound acks t e v = go (each_place (acks_for t acks) acks acks v e)
  where
    go : (acks_for v acks ≡ 0) ⊎ (acks_for v acks ≤ acks_for t acks) → acks_for v acks ≤ acks_for t acks
    go (inl z) = omega arith
    go (inr h) = h

pub most_complete : (acks : List AckSlot) (t : Transfer) → MostAcked acks t → has_most acks t ≡ true
unfolding has_most
most_complete acks t h = every_all (λ a. no_more_than (acks_for t acks) acks a.slot) acks (λ a. here a.slot)
  where
    here : (s : Slot) → no_more_than (acks_for t acks) acks s ≡ true
    here None = refl
    here (Some u) = le-leb (acks_for u acks) (acks_for t acks) (h u)

-- a place with an ack is one of the list
pub inside : (acks : List AckSlot) (i : ℕ) (u : Transfer) → ack_at acks i ≡ Some u → i < length acks
inside [] i u e = impossible (cc)
inside (a ∷ rest) zero u e = omega arith
inside (a ∷ rest) (suc i) u e = omega (arith, inside rest i u e)

-- two recorded acks, and that their slips conflict
pub record TwoConflict (acks : List AckSlot) : Type 0 where
  pub first : ℕ
  pub second : ℕ
  pub one : Transfer
  pub other : Transfer
  pub first_inside : first < length acks
  pub second_inside : second < length acks
  pub first_is : ack_at acks first ≡ Some one
  pub second_is : ack_at acks second ≡ Some other
  pub conflicting : conflict other one ≡ true

pub two_conflict_sound : (acks : List AckSlot) → two_conflict acks ≡ true → TwoConflict acks
two_conflict_sound acks e = outer (ack_at acks found.0) refl found.2
  where
    found : (i : ℕ) × (i < length acks) × (conflicts_with_any acks (ack_at acks i) ≡ true)
    found = any_found (λ a. conflicts_with_any acks a.slot) acks (record { slot = None }) e

    outer : (s : Slot) → ack_at acks found.0 ≡ s → conflicts_with_any acks (ack_at acks found.0) ≡ true → TwoConflict acks
    outer None at e = impossible (let z : false ≡ true = rw at at e in cc)
    outer (Some t) at e = inner (ack_at acks next.0) refl next.2
      where
        next : (j : ℕ) × (j < length acks) × (conflicts t (ack_at acks j) ≡ true)
        next = any_found (λ a. conflicts t a.slot) acks (record { slot = None }) (rw at at e)

        inner : (s : Slot) → ack_at acks next.0 ≡ s → conflicts t (ack_at acks next.0) ≡ true → TwoConflict acks
        inner None at' e = impossible (let z : false ≡ true = rw at' at e in cc)
        inner (Some u) at' e =
            record {
              first = found.0;
              second = next.0;
              one = t;
              other = u;
              first_inside = found.1;
              second_inside = next.1;
              first_is = at;
              second_is = at';
              conflicting = rw at' at e;
            }

pub two_conflict_complete : (acks : List AckSlot) → TwoConflict acks → two_conflict acks ≡ true
two_conflict_complete acks c =
    let none : AckSlot = record { slot = None } in
    any_holds (λ a. conflicts_with_any acks a.slot) acks none c.first c.first_inside
    (rw c.first_is
    (any_holds (λ a. conflicts c.one a.slot) acks none c.second c.second_inside (rw c.second_is c.conflicting)))
