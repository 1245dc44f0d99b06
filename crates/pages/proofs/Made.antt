-- An array that is made by a function of the index, which changes nothing that it holds.
use Rattle.std.proofs.Common.{◌≡◌, ℕ, zero, suc, ◌+◌, ◌<◌, ◌≤◌, List, length, get_or, refl, sym, ◌∙◌, subst, arith}
use Rattle.std.specs.Array.{IsFromFnResult, IsFromFnResultFrom}
use Rattle.std.proofs.lemmas.List.{ext_get_or}
use denote.Param.Members.{Mut, Called}
use native.Mathlib.Decide.{ℕ_discrete}

module _ {F B : Type 0} {g : Mut F (ℕ × Unit {0}) B} {f : F} {value : ℕ → B} (call : (i : ℕ) (y : B) (q : F) → Called g f (i, tt) y q → (q ≡ f) × (y ≡ value i)) where
  made_from : (ys : List B) (i n : ℕ) (p : F) → p ≡ f → IsFromFnResultFrom g p ys i n
      → (k : ℕ) (d : B) → i ≤ k → k < i + n → get_or ys k d ≡ value k
  made_from ys i zero p same made k d from to = absurd (omega arith)
  made_from ys i (suc n) p same made k d from to =
      let here = call i made.1 made.0 (subst (λ (x : F). Called g x (i, tt) made.1 made.0) same made.3) in
      go here.1 (ℕ_discrete i k) (made_from ys (i + 1) n made.0 here.0 made.4 k d)
    where
      go : made.1 ≡ value i → Dec (i ≡ k) → (i + 1 ≤ k → k < i + 1 + n → get_or ys k d ≡ value k) → get_or ys k d ≡ value k
      go is (yes at) rest = rw (← at) (made.2.1 d ∙ is)
      go is (no other) rest = rest (omega arith) (omega arith)

  module _ {ys : List B} {n : ℕ} (made : IsFromFnResult g f ys n) where
    -- each element,
    pub made_at : (k : ℕ) (d : B) → k < n → get_or ys k d ≡ value k
    made_at k d h = made_from ys 0 n f refl made.each k d (omega arith) (omega arith)

    -- and the whole, where the elements of a list are known to be these
    pub made_list : (xs : List B) (d : B) → length xs ≡ n → ((k : ℕ) → k < n → get_or xs k d ≡ value k) → ys ≡ xs
    made_list xs d size each =
        ext_get_or d ys xs (made.long ∙ sym size) (λ k h. let inside : k < n = omega (arith, made.long) in made_at k d inside ∙ sym (each k inside))
