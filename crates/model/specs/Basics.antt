-- Sums, counts and searches over lists and over numbers, which the definitions share.
use Rattle.std.specs.Prelude.{ℕ, zero, suc, ◌+◌, ◌<◌, ◌≡◌, Bool, true, false, cond, ◌&&◌, ◌||◌, List, [], ◌∷◌, eqb, length, get_or, Option, Some, None}

abbrev pub bit : Bool → ℕ
bit true = 1
bit false = 0

-- the sum of a number of each element
abbrev pub sum_of : {A : Type 0} → (A → ℕ) → List A → ℕ
sum_of f [] = 0
sum_of f (x ∷ xs) = f x + sum_of f xs

-- how many elements pass the test
abbrev pub count : {A : Type 0} → (A → Bool) → List A → ℕ
count p xs = sum_of (λ x. bit (p x)) xs

-- some element passes the test
abbrev pub any : {A : Type 0} → (A → Bool) → List A → Bool
any p [] = false
any p (x ∷ xs) = p x || any p xs

-- every element passes the test
abbrev pub every : {A : Type 0} → (A → Bool) → List A → Bool
every p [] = true
every p (x ∷ xs) = p x && every p xs

-- two lists of numbers are equal
abbrev pub same : List ℕ → List ℕ → Bool
same [] [] = true
same [] (y ∷ ys) = false
same (x ∷ xs) [] = false
same (x ∷ xs) (y ∷ ys) = eqb x y && same xs ys

-- the lowest of the `left` numbers from `i` on that passes the test
abbrev pub first_where : (ℕ → Bool) → ℕ → ℕ → Option ℕ
first_where p zero i = None
first_where p (suc left) i = cond (p i) (Some i) (first_where p left (suc i))

-- those of the `left` numbers from `i` on that pass the test, lowest first
abbrev pub all_where : (ℕ → Bool) → ℕ → ℕ → List ℕ
all_where p zero i = []
all_where p (suc left) i = cond (p i) (i ∷ all_where p left (suc i)) (all_where p left (suc i))

-- a number stands in a list, at this place
pub record Stands (x : ℕ) (xs : List ℕ) : Type 0 where
  pub place : ℕ
  pub inside : place < length xs
  pub is : get_or xs place 0 ≡ x

-- "lowest first": what comes later is higher
abbrev pub Rising : List ℕ → Type 0
Rising xs = (i j : ℕ) → i < j → j < length xs → get_or xs i 0 < get_or xs j 0

-- "exactly those ..., each once, lowest first": the numbers that pass a test
pub record ExactlyThose (p : ℕ → Bool) (xs : List ℕ) : Type 0 where
  -- what stands there passes,
  pub only : (x : ℕ) → Stands x xs → p x ≡ true
  -- and what passes stands there
  pub all : (x : ℕ) → p x ≡ true → Stands x xs
  -- none stands at two places
  pub once : (i j : ℕ) → i < length xs → j < length xs → get_or xs i 0 ≡ get_or xs j 0 → i ≡ j
  pub rising : Rising xs
