-- Numbers of so many bytes: written and read back, and read and written out, each one law over the width; and so for
-- numbers of 4 bytes, one behind another. A sum is a number of 4 bytes.
use Prim.Native.Nat.{ℕ, zero, suc, ◌+◌, ◌*◌, ◌/◌, ◌%◌, ◌≤◌, ◌<◌}
use native.Mathlib.Numerals.{add-one}
use native.Mathlib.Omega.{arith}
use mathlib.Core.Path.{◌≡◌, refl, ap, sym, ◌∙◌}
use mathlib.Core.List.{List, [], ◌∷◌, ◌++◌}
use lib.ListN.{length, get_or, take, drop, length-drop}
use lib.Seq.{get_or-drop, drop-drop, take-add}
use Rattle.model.specs.Bundles.{number_at, number4, words_from, sum_from, body_sum}
use Rattle.model.specs.Writing.{number_bytes, word_bytes, Bytes}

-- how many numbers so many bytes can tell
abbrev pub number_limit : ℕ → ℕ
number_limit zero = 1
number_limit (suc width) = 256 * number_limit width

-- bytes behind a place are bytes
pub dropped_bytes : (bytes : List ℕ) (at : ℕ) → Bytes bytes → Bytes (drop at bytes)
dropped_bytes bytes at small i = rw (get_or-drop at bytes i 0) (small (at + i))

-- a number stands where it stands without what is before it
number_behind : (width b : ℕ) (bytes : List ℕ) (at : ℕ) → number_at width (b ∷ bytes) (at + 1) ≡ number_at width bytes at
number_behind zero b bytes at = refl
number_behind (suc width) b bytes at = rw (number_behind width b bytes (at + 1), add-one at)

number_from : (width : ℕ) (bytes : List ℕ) (from at : ℕ) → number_at width bytes (from + at) ≡ number_at width (drop from bytes) at
number_from zero bytes from at = refl
number_from (suc width) bytes from at =
    let place : from + at + 1 ≡ from + (at + 1) = omega arith in
    rw (place, number_from width bytes from (at + 1), get_or-drop from bytes at 0)

number_drop : (width : ℕ) (bytes : List ℕ) (at : ℕ) → number_at width bytes at ≡ number_at width (drop at bytes) 0
number_drop width bytes at = let here : at ≡ at + 0 = omega arith in ap (number_at width bytes) here ∙ number_from width bytes at 0

-- What is written is read.
front_read : (width x : ℕ) (rest : List ℕ) → x < number_limit width → number_at width (number_bytes width x ++ rest) 0 ≡ x
front_read zero x rest h = omega arith
front_read (suc width) x rest h =
    let tail = number_bytes width (x / 256) ++ rest in
    omega (arith, number_behind width (x % 256) tail 0, front_read width (x / 256) rest (omega arith))

pub number_read : (width x at : ℕ) (bytes rest : List ℕ) → x < number_limit width → drop at bytes ≡ number_bytes width x ++ rest
    → number_at width bytes at ≡ x
number_read width x at bytes rest h e = number_drop width bytes at ∙ rw e (front_read width x rest h)

-- What is read is written.
front_written : (width : ℕ) (bytes : List ℕ) → Bytes bytes → width ≤ length bytes
    → number_bytes width (number_at width bytes 0) ≡ take width bytes
front_written zero bytes small h = refl
front_written (suc width) [] small h = absurd (omega arith)
front_written (suc width) (b ∷ bytes) small h =
    let behind = number_behind width b bytes 0 in
    let first : (b + 256 * number_at width (b ∷ bytes) 1) % 256 ≡ b = omega (arith, small 0) in
    let others : (b + 256 * number_at width (b ∷ bytes) 1) / 256 ≡ number_at width bytes 0 = omega (arith, small 0) in
    rw (first, others, front_written width bytes (λ i. small (suc i)) (omega arith))

pub number_written : (width : ℕ) (bytes : List ℕ) (at : ℕ) → Bytes bytes → at + width ≤ length bytes
    → number_bytes width (number_at width bytes at) ≡ take width (drop at bytes)
number_written width bytes at small h =
    let left = length-drop at bytes in
    rw (number_drop width bytes at) (front_written width (drop at bytes) (dropped_bytes bytes at small) (omega arith))

-- The bytes of a number are below 256.
pub number_bytes_lem : (width x : ℕ) → Bytes (number_bytes width x)
number_bytes_lem zero x i = omega arith
number_bytes_lem (suc width) x zero = omega arith
number_bytes_lem (suc width) x (suc i) = number_bytes_lem width (x / 256) i

-- a number that is read of bytes fits in as many
pub number_small : (width : ℕ) (bytes : List ℕ) (at : ℕ) → Bytes bytes → number_at width bytes at < number_limit width
number_small zero bytes at small = omega arith
number_small (suc width) bytes at small = omega (arith, small at, number_small width bytes (at + 1) small)

-- bytes before bytes
pub no_bytes : Bytes []
no_bytes i = omega arith

pub one_byte : (b : ℕ) → b < 256 → (bytes : List ℕ) → Bytes bytes → Bytes (b ∷ bytes)
one_byte b small bytes behind zero = small
one_byte b small bytes behind (suc i) = behind i

pub more_bytes : (xs ys : List ℕ) → Bytes xs → Bytes ys → Bytes (xs ++ ys)
more_bytes [] ys small behind = behind
more_bytes (x ∷ xs) ys small behind = one_byte x (small 0) (xs ++ ys) (more_bytes xs ys (λ i. small (suc i)) behind)

-- the first of bytes are bytes
pub taken_bytes : (bytes : List ℕ) (n : ℕ) → Bytes bytes → Bytes (take n bytes)
taken_bytes bytes zero small i = omega arith
taken_bytes [] (suc n) small i = omega arith
taken_bytes (b ∷ bytes) (suc n) small zero = small 0
taken_bytes (b ∷ bytes) (suc n) small (suc i) = taken_bytes bytes n (λ k. small (suc k)) i

-- the same parts make the same whole
pub joined : {a b c d : List ℕ} → a ≡ c → b ≡ d → a ++ b ≡ c ++ d
joined p q = cc

-- Numbers of 4 bytes, one behind another: how many bytes, and that they are bytes;
pub words_length : (xs : List ℕ) → length (word_bytes xs) ≡ 4 * length xs
words_length [] = refl
words_length (x ∷ xs) = omega (arith, words_length xs)

pub word_bytes_lem : (xs : List ℕ) → Bytes (word_bytes xs)
word_bytes_lem [] = no_bytes
word_bytes_lem (x ∷ xs) = more_bytes (number_bytes 4 x) (word_bytes xs) (number_bytes_lem 4 x) (word_bytes_lem xs)

-- how many are read, and each of them;
pub words_count : (left at : ℕ) (bytes : List ℕ) → length (words_from left at bytes) ≡ left
words_count zero at bytes = refl
words_count (suc left) at bytes = ap suc (words_count left (at + 4) bytes)

pub words_at_lem : (left at i : ℕ) (bytes : List ℕ) → i < left → get_or (words_from left at bytes) i 0 ≡ number4 bytes (at + 4 * i)
words_at_lem zero at i bytes h = absurd (omega arith)
words_at_lem (suc left) at zero bytes h = let here : at ≡ at + 4 * 0 = omega arith in ap (number4 bytes) here
words_at_lem (suc left) at (suc i) bytes h =
    let place : at + 4 + 4 * i ≡ at + 4 * suc i = omega arith in
    words_at_lem left (at + 4) i bytes (omega arith) ∙ ap (number4 bytes) place

-- what is written is read, whatever stands behind it;
pub words_read : (xs : List ℕ) (at : ℕ) (bytes rest : List ℕ) → ((i : ℕ) → get_or xs i 0 < 4_294_967_296) → drop at bytes ≡ word_bytes xs ++ rest
    → words_from (length xs) at bytes ≡ xs
words_read [] at bytes rest small e = refl
words_read (x ∷ xs) at bytes rest small e =
    let behind : drop (at + 4) bytes ≡ word_bytes xs ++ rest = sym (drop-drop 4 at bytes) ∙ ap (drop 4) e in
    rw (
      number_read 4 x at bytes (word_bytes xs ++ rest) (small 0) e,
      words_read xs (at + 4) bytes rest (λ i. small (suc i)) behind,
    )

-- and what is read is written, and fits in 4 bytes.
module _ (bytes : List ℕ) (small : Bytes bytes) where
  pub words_back : (left at : ℕ) → at + 4 * left ≤ length bytes → word_bytes (words_from left at bytes) ≡ take (4 * left) (drop at bytes)
  words_back zero at h = refl
  words_back (suc left) at h =
      let first = number_written 4 bytes at small (omega arith) in
      let others = words_back left (at + 4) (omega arith) ∙ ap (take (4 * left)) (sym (drop-drop 4 at bytes)) in
      let size : 4 + 4 * left ≡ 4 * suc left = omega arith in
      joined first others ∙ sym (take-add 4 (4 * left) (drop at bytes)) ∙ ap (λ (n : ℕ). take n (drop at bytes)) size

  pub words_small : (left at i : ℕ) → get_or (words_from left at bytes) i 0 < 4_294_967_296
  words_small zero at i = omega arith
  words_small (suc left) at zero = number_small 4 bytes at small
  words_small (suc left) at (suc i) = words_small left (at + 4) i

-- the sum of a body is a number of four bytes
sum_from_lem : (s : ℕ) (body : List ℕ) → s < 4_294_967_296 → sum_from s body < 4_294_967_296
sum_from_lem s [] h = h
sum_from_lem s (b ∷ body) h = sum_from_lem ((31 * s + b) % 4_294_967_296) body (omega arith)

pub sum_below_lem : (body : List ℕ) → body_sum body < 4_294_967_296
sum_below_lem body = sum_from_lem 0 body (omega arith)
