-- Laws of sums, counts and searches.
use Rattle.std.proofs.lemmas.Bool.{and_parts, or_parts}
use Rattle.std.specs.Prelude.{Some, None}
use Prim.Native.Nat.{ℕ, zero, suc, ◌+◌, ◌≤◌, ◌<◌}
use native.Mathlib.Nat.{le_of_suc-le-suc, not-suc-le-zero}
use native.Mathlib.Decide.{ℕ_discrete}
use native.Mathlib.Omega.{arith}
use mathlib.Core.Path.{◌≡◌, refl, ap, sym, ◌∙◌}
use mathlib.Core.Bool.{Bool, true, false, or-true}
use mathlib.Core.List.{List, [], ◌∷◌, map}
use lib.Dec.{eqb}
use lib.ListN.{length, get_or, take, set}
use borrow.Author.Tests.{eqb-true, eq-eqb}
use Rattle.model.specs.Basics.{bit, sum_of, count, any, every, same, first_where}

module _ {A : Type 0} (f : A → ℕ) where
  -- one element is replaced: the sum changes by the difference of the two
  pub sum_set : (xs : List A) (i : ℕ) (x d : A) → i < length xs → sum_of f (set xs i x) + f (get_or xs i d) ≡ sum_of f xs + f x
  sum_set [] i x d h = absurd (not-suc-le-zero h)
  sum_set (y ∷ ys) zero x d h = omega arith
  sum_set (y ∷ ys) (suc i) x d h = omega (arith, sum_set ys i x d (le_of_suc-le-suc h))

  -- one element is replaced by one with the same number: the sum stays, also behind the last element
  pub sum_set_same : (xs : List A) (i : ℕ) (x d : A) → f x ≡ f (get_or xs i d) → sum_of f (set xs i x) ≡ sum_of f xs
  sum_set_same [] i x d e = refl
  sum_set_same (y ∷ ys) zero x d e = ap (λ (n : ℕ). n + sum_of f ys) e
  sum_set_same (y ∷ ys) (suc i) x d e = ap (λ (n : ℕ). f y + n) (sum_set_same ys i x d e)

  -- no element's number is above the sum
  pub sum_at_least : (xs : List A) (i : ℕ) (d : A) → i < length xs → f (get_or xs i d) ≤ sum_of f xs
  sum_at_least [] i d h = absurd (not-suc-le-zero h)
  sum_at_least (y ∷ ys) zero d h = omega arith
  sum_at_least (y ∷ ys) (suc i) d h = omega (arith, sum_at_least ys i d (le_of_suc-le-suc h))

  -- where no element behind the first k has a number, the first k have the whole sum
  pub sum_front : (xs : List A) (d : A) (k : ℕ) → ((i : ℕ) → k ≤ i → f (get_or xs i d) ≡ 0) → sum_of f (take k xs) ≡ sum_of f xs
  sum_front [] d zero none_behind = refl
  sum_front [] d (suc k) none_behind = refl
  sum_front (x ∷ xs) d zero none_behind =
      omega (arith, none_behind 0 (omega arith), sum_front xs d zero (λ i above. none_behind (suc i) (omega arith)))
  sum_front (x ∷ xs) d (suc k) none_behind =
      ap (λ (n : ℕ). f x + n) (sum_front xs d k (λ i above. none_behind (suc i) (omega arith)))

  -- lists with the same number at each place have the same sum
  pub sum_same_each : (xs ys : List A) (d : A) → length xs ≡ length ys → ((i : ℕ) → f (get_or xs i d) ≡ f (get_or ys i d)) → sum_of f xs ≡ sum_of f ys
  sum_same_each [] [] d size each = refl
  sum_same_each [] (y ∷ ys) d size each = absurd (omega arith)
  sum_same_each (x ∷ xs) [] d size each = absurd (omega arith)
  sum_same_each (x ∷ xs) (y ∷ ys) d size each = omega (arith, each 0, sum_same_each xs ys d (omega arith) (λ i. each (suc i)))

-- the sum over elements made from others
pub sum_map : {A B : Type 0} (f : B → ℕ) (g : A → B) (xs : List A) → sum_of f (map g xs) ≡ sum_of (λ x. f (g x)) xs
sum_map f g [] = refl
sum_map f g (x ∷ xs) = ap (λ (n : ℕ). f (g x) + n) (sum_map f g xs)

-- from two numbers that differ, anything
pub impossible : {A : Type 0} → ◌≡◌ {A = ℕ} 0 1 → A
impossible e = absurd (omega arith)

-- tests that hold of the same
pub same_test : (a b : Bool) → (a ≡ true → b ≡ true) → (b ≡ true → a ≡ true) → a ≡ b
same_test true b forth back = sym (forth refl)
same_test false true forth back = impossible (cc (back refl))
same_test false false forth back = refl

-- a test that some element passes: one that does, and its place
pub any_found : {A : Type 0} (p : A → Bool) (xs : List A) (d : A) → any p xs ≡ true → (i : ℕ) × (i < length xs) × (p (get_or xs i d) ≡ true)
any_found p [] d e = impossible (cc)
any_found p (x ∷ xs) d e = go (p x) refl (any_found p xs d)
  where
    go : (b : Bool) → p x ≡ b → (any p xs ≡ true → (i : ℕ) × (i < length xs) × (p (get_or xs i d) ≡ true))
        → (i : ℕ) × (i < length (x ∷ xs)) × (p (get_or (x ∷ xs) i d) ≡ true)
    go true h rest = (0, omega arith, h)
    go false h rest = let found = rest (rw h at e) in (suc found.0, omega (arith, found.1), found.2)

-- and if one does, some element does
pub any_holds : {A : Type 0} (p : A → Bool) (xs : List A) (d : A) (i : ℕ) → i < length xs → p (get_or xs i d) ≡ true → any p xs ≡ true
any_holds p [] d i h e = absurd (not-suc-le-zero h)
any_holds p (x ∷ xs) d zero h e = rw e
any_holds p (x ∷ xs) d (suc i) h e = rw (any_holds p xs d i (le_of_suc-le-suc h) e) (or-true (p x))

-- a count that is not 0 counts some element
pub some_counted : {A : Type 0} (p : A → Bool) (xs : List A) (d : A) → 1 ≤ count p xs → (i : ℕ) × (p (get_or xs i d) ≡ true)
some_counted p [] d h = absurd (omega arith)
some_counted p (x ∷ xs) d h = go (p x) refl (some_counted p xs d)
  where
    go : (b : Bool) → p x ≡ b → (1 ≤ count p xs → (i : ℕ) × (p (get_or xs i d) ≡ true)) → (i : ℕ) × (p (get_or (x ∷ xs) i d) ≡ true)
    go true e rest = (0, e)
    go false e rest = let found = rest (omega (arith, ap bit e)) in (suc found.0, found.1)

-- a test that no element passes, nor what is read behind the last
pub any_none : {A : Type 0} (p : A → Bool) (xs : List A) (d : A) → any p xs ≡ false → p d ≡ false → (i : ℕ) → p (get_or xs i d) ≡ false
any_none p [] d e last i = last
any_none p (x ∷ xs) d e last zero = (or_parts (p x) (any p xs) e).0
any_none p (x ∷ xs) d e last (suc i) = any_none p xs d (or_parts (p x) (any p xs) e).1 last i

-- a test that all elements pass, and another that each passes which passes the first
pub every_all : {A : Type 0} (p : A → Bool) (xs : List A) → ((x : A) → p x ≡ true) → every p xs ≡ true
every_all p [] h = refl
every_all p (x ∷ xs) h = rw (h x) (every_all p xs h)

pub every_weaken : {A : Type 0} (p q : A → Bool) (xs : List A) → ((x : A) → p x ≡ true → q x ≡ true) → every p xs ≡ true → every q xs ≡ true
every_weaken p q [] h e = refl
every_weaken p q (x ∷ xs) h e =
    let parts = and_parts (p x) (every p xs) e in
    rw (h x parts.0) (every_weaken p q xs h parts.1)

-- What a search that found j says: j passes the test, is one of the `left` numbers from i on,
-- and is the lowest that passes.
pub record Found (p : ℕ → Bool) (left i j : ℕ) : Type 0 where
  pub passes : p j ≡ true
  pub above : i ≤ j
  pub below : j < i + left
  pub lowest : (k : ℕ) → i ≤ k → k < j → p k ≡ false

-- What a search that found nothing says: none of the `left` numbers from i on passes the test.
abbrev pub NotFound : (ℕ → Bool) → ℕ → ℕ → Type 0
NotFound p left i = (k : ℕ) → i ≤ k → k < i + left → p k ≡ false

module _ (p : ℕ → Bool) where
  pub first_found : (left i j : ℕ) → first_where p left i ≡ Some j → Found p left i j
  first_found zero i j e = impossible (cc)
  first_found (suc left) i j e = go (p i) refl (first_found left (suc i) j)
    where
      go : (b : Bool) → p i ≡ b → (first_where p left (suc i) ≡ Some j → Found p left (suc i) j) → Found p (suc left) i j
      go true h rest =
          let here : Some i ≡ Some j = rw h at e in
          let same : i ≡ j = cc in
          record { passes = rw (← same) h; above = omega arith; below = omega arith; lowest = λ k from to. absurd (omega arith) }
      go false h rest =
          let found = rest (rw h at e) in
          record {
            passes = found.passes;
            above = omega arith;
            below = omega arith;
            lowest = λ k from to. before k (found.lowest k) from to (ℕ_discrete i k);
          }
        where
          before : (k : ℕ) → (suc i ≤ k → k < j → p k ≡ false) → i ≤ k → k < j → Dec (i ≡ k) → p k ≡ false
          before k lower from to (yes at) = rw (← at) h
          before k lower from to (no other) = lower (omega arith) to

  pub first_none : (left i : ℕ) → first_where p left i ≡ None → NotFound p left i
  first_none zero i e k from to = absurd (omega arith)
  first_none (suc left) i e k from to = go (p i) refl (first_none left (suc i)) (ℕ_discrete i k)
    where
      go : (b : Bool) → p i ≡ b → (first_where p left (suc i) ≡ None → NotFound p left (suc i)) → Dec (i ≡ k) → p k ≡ false
      go true h rest at = let found : Some i ≡ None = rw h at e in impossible (cc)
      go false h rest (yes at) = rw (← at) h
      go false h rest (no other) = rest (rw h at e) k (omega arith) (omega arith)

-- two tests that agree on each of the numbers find the same
pub same_found : (p q : ℕ → Bool) (left i : ℕ) → ((k : ℕ) → i ≤ k → k < i + left → p k ≡ q k)
    → first_where p left i ≡ first_where q left i
same_found p q zero i h = refl
same_found p q (suc left) i h =
    rw (h i (omega arith) (omega arith), same_found p q left (suc i) (λ k from to. h k (omega arith) (omega arith)))

-- a test that nothing passes finds nothing
pub none_passes : (left i : ℕ) → first_where (λ k. false) left i ≡ None
none_passes zero i = refl
none_passes (suc left) i = none_passes left (suc i)

-- two lists that pass the test are one, and each passes it with itself
pub same_sound : (a b : List ℕ) → same a b ≡ true → a ≡ b
same_sound [] [] h = refl
same_sound [] (y ∷ ys) h = impossible (cc)
same_sound (x ∷ xs) [] h = impossible (cc)
same_sound (x ∷ xs) (y ∷ ys) h =
    let parts = and_parts (eqb x y) (same xs ys) h in
    ap (λ (z : ℕ). z ∷ xs) (eqb-true x y parts.0) ∙ ap (λ (zs : List ℕ). y ∷ zs) (same_sound xs ys parts.1)

pub same_refl : (a : List ℕ) → same a a ≡ true
same_refl [] = refl
same_refl (x ∷ xs) = rw (eq-eqb x x refl) (same_refl xs)
