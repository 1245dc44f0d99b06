-- What is read off the answer that a first fault makes.
use Rattle.std.specs.Prelude.{Option, Some, None, Ok, Err}
use Prim.Native.Nat.{ℕ}
use mathlib.Core.Path.{◌≡◌, refl, sym}
use mathlib.Core.Logic.{◌⊎◌, inl, inr}
use mathlib.Core.Bool.{Bool, true, false}
use mathlib.Core.List.{List, [], ◌∷◌}
use Rattle.laws.specs.Types.{Refusal}
use Rattle.model.specs.Types.{BundleReply, refused_at}
use Rattle.model.specs.Bundles.{entry_count, Fault, unless_fault, faults, check_bundle}
use Rattle.laws.proofs.Sums.{impossible}

-- a function of the answer is the answer made of the function's values
pub fault_told : {A B : Type 0} (f : A → B) (refused : Refusal → ℕ → A) (answer : A) (fs : List Fault)
    → f (unless_fault refused answer fs) ≡ unless_fault (λ r i. f (refused r i)) (f answer) fs
fault_told f refused answer [] = refl
fault_told f refused answer (fault ∷ fs) = go fault.0 fault.1 (fault_told f refused answer fs)
  where
    go : (o : Option ℕ) (q : Refusal)
        → f (unless_fault refused answer fs) ≡ unless_fault (λ r i. f (refused r i)) (f answer) fs
        → f (unless_fault refused answer ((o, q) ∷ fs)) ≡ unless_fault (λ r i. f (refused r i)) (f answer) ((o, q) ∷ fs)
    go None q rest = rest
    go (Some i) q rest = refl

-- no fault holds
abbrev pub faultless : List Fault → Bool
faultless fs = unless_fault (λ r i. false) true fs

-- then the answer is the one that there is without; else it is a refusal
module _ {A : Type 0} (refused : Refusal → ℕ → A) (answer : A) where
  pub passes : (fs : List Fault) → faultless fs ≡ true → unless_fault refused answer fs ≡ answer
  passes [] h = refl
  passes (fault ∷ fs) h = go fault.0 fault.1 h (passes fs)
    where
      go : (o : Option ℕ) (q : Refusal) → faultless ((o, q) ∷ fs) ≡ true → (faultless fs ≡ true → unless_fault refused answer fs ≡ answer)
          → unless_fault refused answer ((o, q) ∷ fs) ≡ answer
      go None q h rest = rest h
      go (Some i) q h rest = impossible (cc)

  -- which of the two it is
  pub stands : (fs : List Fault) → (faultless fs ≡ true) ⊎ ((r : Refusal) × (i : ℕ) × (unless_fault refused answer fs ≡ refused r i))
  stands [] = inl refl
  stands (fault ∷ fs) = go fault.0 fault.1 (stands fs)
    where
      go : (o : Option ℕ) (q : Refusal) → (faultless fs ≡ true) ⊎ ((r : Refusal) × (i : ℕ) × (unless_fault refused answer fs ≡ refused r i))
          → (faultless ((o, q) ∷ fs) ≡ true) ⊎ ((r : Refusal) × (i : ℕ) × (unless_fault refused answer ((o, q) ∷ fs) ≡ refused r i))
      go None q rest = rest
      go (Some i) q rest = inr (q, i, refl)

-- the answer that a bundle's faults make, read off that of its check, which goes by the same
abbrev pub read_off : {A : Type 0} → (Refusal → ℕ → A) → A → BundleReply → A
read_off refused answer (Ok m) = answer
read_off refused answer (Err e) = refused e.refusal e.entry

pub read_off_lem : {A : Type 0} (refused : Refusal → ℕ → A) (answer : A) (bytes : List ℕ)
    → unless_fault refused answer (faults bytes) ≡ read_off refused answer (check_bundle bytes)
unfolding check_bundle
read_off_lem refused answer bytes = sym (fault_told (read_off refused answer) refused_at (Ok (entry_count bytes)) (faults bytes))
