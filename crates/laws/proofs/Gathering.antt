-- The seats that are gathered for a slip: exactly those whose ack equals it, each once,
-- lowest first, and no other list is.
use Rattle.std.specs.Prelude.{Some, None}
use Prim.Native.Nat.{ℕ, ◌<◌}
use native.Mathlib.Omega.{arith}
use mathlib.Core.Path.{◌≡◌, refl, ap}
use mathlib.Core.Bool.{Bool, true, false}
use mathlib.Core.List.{List}
use lib.ListN.{length}
use Rattle.laws.specs.Types.{Transfer, Slot, AckSlot}
use Rattle.model.specs.Basics.{ExactlyThose}
use Rattle.model.specs.Acks.{ack_at, holds, acks_for}
use Rattle.model.specs.Gathering.{has_acked, gathered, ExactlyGathered}
use Rattle.laws.proofs.Sums.{impossible}
use Rattle.laws.proofs.Tallies.{inside}
use Rattle.laws.proofs.Searches.{all_number, all_exactly, only_those}

module _ (t : Transfer) (acks : List AckSlot) where
  abbrev test : ℕ → Bool
  test = has_acked t acks

  -- a seat whose ack equals the slip has a place
  has_place : (s : ℕ) → test s ≡ true → s < length acks
  has_place s e = go (ack_at acks s) refl
    where
      go : (r : Slot) → ack_at acks s ≡ r → s < length acks
      go None at = impossible (let z : false ≡ true = rw at at e in cc)
      go (Some u) at = inside acks s u at

  pub gathered_number : length (gathered t acks) ≡ acks_for t acks
  unfolding gathered
  gathered_number = all_number (λ (a : AckSlot). holds t a.slot) (record { slot = None }) acks test 0 (λ k below. ap test (omega arith))

  pub gathered_exactly : ExactlyGathered t acks (gathered t acks)
  unfolding gathered
  gathered_exactly = record { those = all_exactly test (length acks) has_place; number = gathered_number }

  -- and no other list is exactly those
  pub only_gathered : (seats : List ℕ) → ExactlyThose test seats → seats ≡ gathered t acks
  unfolding gathered
  only_gathered seats those = only_those test (length acks) has_place seats those
