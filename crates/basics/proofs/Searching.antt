-- A search through numbers by `find` finds what the definitions' search finds.
use Rattle.std.proofs.Common.{◌≡◌, ℕ, zero, suc, ◌+◌, Bool, true, false, cond, List, Option, Some, refl, sym, ◌∙◌, add-one}
use native.Mathlib.Nat.{sub-zero}
use Rattle.std.specs.Fn.{CalledAt}
use Rattle.std.specs.Iterator.{YieldsThen}
use Rattle.std.specs.List.{find, range_with_len, FoldsTo}
use Rattle.std.specs.Bool.{⊤}
use Rattle.std.specs.Option.{MatchOption}
use Rattle.std.specs.declared.ops.Range.{Range}
use Rattle.std.proofs.iter.Yields.{nat_range_steps}
use Rattle.std.proofs.lemmas.Iterator.{YieldsList-from_range}
use Rattle.std.proofs.lemmas.Iterator.Adapters.{option_map_id}
use Rattle.std.proofs.lemmas.Iterator.Search.{find_from_yields_List}
use denote.Param.Members.{Mut}
use denote.Ref.{Bor}
use Rattle.model.specs.Basics.{first_where}

pub first_of : (p : ℕ → Bool) (left i : ℕ) → find p (range_with_len i left) ≡ first_where p left i
first_of p zero i = refl
first_of p (suc left) i = go (p i) (rw add-one at (first_of p left (i + 1)))
  where
    go : (b : Bool) → find p (range_with_len (suc i) left) ≡ first_where p left (suc i)
        → cond b (Some i) (find p (range_with_len (i + 1) left)) ≡ cond b (Some i) (first_where p left (suc i))
    go true rest = refl
    go false rest = rw add-one rest

-- `(0..n).find(f)`, where f is the test p and changes nothing
pub found_first : {F : Type 0} {g : Mut F (Bor ℕ × Unit {0}) Bool} {s : Range ℕ} {f : F} {r : Option ℕ} (p : ℕ → Bool) (n : ℕ) (u : Range ℕ)
    → s ≡ record { start = 0; end = n }
    → (xs : List ℕ) × (j : F) × YieldsThen nat_range_steps s xs r u × FoldsTo (λ q x q'. CalledAt g q x false q') f xs j
    × MatchOption r ⊤ (λ x. (h : F) × CalledAt g j x true h)
    → ((x : ℕ) (b : Bool) (q : F) → CalledAt g f x b q → (q ≡ f) × (b ≡ p x))
    → r ≡ first_where p n 0
found_first {f = f} {r} p n u range ran call =
    sym (option_map_id r) ∙ find_from_yields_List p u f r ran (YieldsList-from_range 0 n n range (sub-zero n)) call ∙ first_of p n 0
