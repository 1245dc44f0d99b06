-- What a loop over an array's elements knows at each turn, when it counts them, searches them or tests each.
use Rattle.std.specs.Prelude.{Some, None}
use Prim.Native.Nat.{ℕ, suc, ◌+◌, ◌-◌, ◌≤◌, ◌<◌}
use native.Mathlib.Numerals.{add-one}
use native.Mathlib.Omega.{arith}
use mathlib.Core.Path.{◌≡◌, refl, ap, sym, ◌∙◌}
use mathlib.Core.Bool.{Bool, true, false}
use mathlib.Core.List.{List, [], ◌∷◌}
use lib.ListN.{length, get_or, drop}
use Rattle.std.proofs.lemmas.List.{drop_all, at_drop_more}
use Rattle.model.specs.Basics.{bit, count, every, first_where}

module _ {A : Type 0} (p : A → Bool) (xs : List A) where
  -- n is the count of the elements before i that pass the test
  pub record Counts (i n : ℕ) : Type 0 where
    pub few : n ≤ i
    pub rest : n + count p (drop i xs) ≡ count p xs

pub counts_none : {A : Type 0} {p : A → Bool} {xs : List A} → Counts p xs 0 0
counts_none = record { few = omega arith; rest = omega arith }

module _ {A : Type 0} {p : A → Bool} {xs : List A} {i : ℕ} where
  pub counts_all : {n : ℕ} → length xs ≤ i → Counts p xs i n → n ≡ count p xs
  counts_all {n} h c = omega (arith, ap (count p) (drop_all i xs h))

  module _ (d : A) (h : i < length xs) where
    pub counts_more : {n : ℕ} → Counts p xs i n → Counts p xs (i + 1) (n + bit (p (get_or xs i d)))
    counts_more {n} c =
        record {
          few = go (p (get_or xs i d));
          rest = omega (arith, at_drop_more (count p) xs i d h);
        }
      where
        go : (b : Bool) → n + bit b ≤ i + 1
        go true = omega arith
        go false = omega arith

-- a test that each element passes at its index
pub every_at : {A : Type 0} (p : A → Bool) (xs : List A) (d : A)
    → ((i : ℕ) → i < length xs → p (get_or xs i d) ≡ true) → every p xs ≡ true
every_at p [] d h = refl
every_at p (x ∷ xs) d h = rw (h 0 (omega arith)) (every_at p xs d (λ i l. h (suc i) (omega arith)))

-- no number before i passes the test: the search among the n goes on from i
pub record Searched (p : ℕ → Bool) (n i : ℕ) : Type 0 where
  pub rest : first_where p (n - i) i ≡ first_where p n 0

pub searched_all : {p : ℕ → Bool} {n i : ℕ} → Searched p n i → n ≤ i → first_where p n 0 ≡ None
searched_all {p} {n} {i} s h =
    let over : n - i ≡ 0 = omega arith in
    sym s.rest ∙ ap (λ (left : ℕ). first_where p left i) over

module _ {p : ℕ → Bool} {n i : ℕ} (s : Searched p n i) {r : Bool} (test : r ≡ p i) (h : i < n) where
  next_turn : first_where p (n - i) i ≡ first_where p (suc (n - (i + 1))) i
  next_turn =
      let one : n - i ≡ suc (n - (i + 1)) = omega arith in
      ap (λ (left : ℕ). first_where p left i) one

  pub searched_more : r ≡ false → Searched p n (i + 1)
  searched_more miss =
      record { rest = rw (add-one i) (rw (← test, miss, add-one i) at (sym next_turn ∙ s.rest)) }

  pub searched_found : r ≡ true → first_where p n 0 ≡ Some i
  searched_found hit = sym (rw (← test, hit) at (sym next_turn ∙ s.rest))

-- no more elements pass a test than there are
pub count_most : {A : Type 0} (p : A → Bool) (xs : List A) → count p xs ≤ length xs
count_most p [] = omega arith
count_most p (x ∷ xs) = go (p x) (count_most p xs)
  where
    go : (b : Bool) → count p xs ≤ length xs → bit b + count p xs ≤ suc (length xs)
    go true h = omega arith
    go false h = omega arith
