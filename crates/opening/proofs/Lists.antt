-- The model's sum and search over a list are std's.
use Rattle.std.proofs.Common.{◌≡◌, ◌||◌, ℕ, Bool, List, refl}
use Rattle.std.specs.List.{list_any, sum_by}
use Rattle.std.proofs.lemmas.List.Recursion.{same_from_clauses, is_sum_by}
use Rattle.model.specs.Basics.{sum_of, any}

pub any_lem : {A : Type 0} (p : A → Bool) (xs : List A) → any p xs ≡ list_any p xs
any_lem p = same_from_clauses (any p) (list_any p) (λ x b. p x || b) refl (λ _ _. refl) (λ _ _. refl)

pub sum_of_lem : {A : Type 0} (f : A → ℕ) (xs : List A) → sum_of f xs ≡ sum_by f xs
sum_of_lem f = is_sum_by (sum_of f) f refl (λ _ _. refl)
