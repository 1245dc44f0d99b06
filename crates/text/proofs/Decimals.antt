-- Laws of decimal numbers: the last digit stands behind the digits of the tenth part, and how
-- many digits there are at most.
use Prim.Native.Nat.{ℕ, zero, suc, ◌*◌, ◌/◌, ◌%◌, ◌≤◌, ◌<◌}
use native.Mathlib.Omega.{arith}
use mathlib.Core.Path.{◌≡◌, ap}
use mathlib.Core.Bool.{Bool, true, false, cond}
use mathlib.Core.List.{[], ◌∷◌, ◌++◌}
use lib.Dec.{ltb}
use lib.ListN.{length, length-append}
use borrow.Author.Tests.{lt-ltb, le-ltb}
use Rattle.text.specs.Lines.{digit, digits, decimal}

-- ten to the d
abbrev pub ten_to : ℕ → ℕ
ten_to zero = 1
ten_to (suc d) = 10 * ten_to d

below_tens : (n : ℕ) → n < ten_to n
below_tens zero = omega arith
below_tens (suc n) = omega (arith, below_tens n)

-- how many digits are allowed does not matter where they are enough
digits_same : (a b n : ℕ) → n < ten_to (suc a) → n < ten_to (suc b) → digits (suc a) n ≡ digits (suc b) n
digits_same zero b n h g = rw (lt-ltb n 10 h)
digits_same (suc a) zero n h g = rw (lt-ltb n 10 g)
digits_same (suc a) (suc b) n h g =
    ap (λ ds. cond (ltb n 10) (digit n ∷ []) (ds ++ (digit (n % 10) ∷ []))) (digits_same a b (n / 10) (omega arith) (omega arith))

-- a number below ten to the d + 1, with d + 1 digits allowed
pub decimal_digits : (d n : ℕ) → n < ten_to (suc d) → decimal n ≡ digits (suc d) n
unfolding decimal
decimal_digits d n h = digits_same n d n (omega (arith, below_tens n)) h

-- below ten, and from ten on
pub one_digit : (n : ℕ) → n < 10 → decimal n ≡ digit n ∷ []
one_digit n h = rw (decimal_digits 0 n h, lt-ltb n 10 h)

pub more_digits : (n : ℕ) → 10 ≤ n → decimal n ≡ decimal (n / 10) ++ (digit (n % 10) ∷ [])
more_digits n h =
    let tens = below_tens n in
    rw (decimal_digits (suc n) n (omega arith), decimal_digits n (n / 10) (omega arith), le-ltb n 10 h)

digits_length : (most n : ℕ) → length (digits most n) ≤ most
digits_length zero n = omega arith
digits_length (suc most) n = go (ltb n 10) (digits_length most (n / 10))
  where
    go : (one : Bool) → length (digits most (n / 10)) ≤ most → length (cond one (digit n ∷ []) (digits most (n / 10) ++ (digit (n % 10) ∷ []))) ≤ suc most
    go true h = omega arith
    go false h = rw length-append (omega arith)

pub decimal_length : (d n : ℕ) → n < ten_to (suc d) → length (decimal n) ≤ suc d
decimal_length d n h = rw (decimal_digits d n h) (digits_length (suc d) n)

pub two_digits : (n : ℕ) → n < 100 → length (decimal n) ≤ 2
two_digits n h = decimal_length 1 n h

pub three_digits : (n : ℕ) → n < 1000 → length (decimal n) ≤ 3
three_digits n h = decimal_length 2 n h

-- a u32
pub ten_digits : (n : ℕ) → n < 4_294_967_296 → length (decimal n) ≤ 10
ten_digits n h = decimal_length 9 n (omega arith)
