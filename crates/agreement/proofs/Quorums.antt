-- Counting seats: two quorums share an honest seat, and a slip with a quorum outnumbers every other
-- wherever n - f acks are recorded.
use Rattle.std.specs.Prelude.{Some, None, is_some}
use Prim.Native.Nat.{ℕ, zero, suc, ◌+◌, ◌*◌, ◌≤◌, ◌<◌}
use native.Mathlib.Decide.{dec_lt}
use native.Mathlib.Omega.{arith}
use mathlib.Core.Path.{◌≡◌, refl, ap, sym, ◌∙◌}
use mathlib.Core.Bool.{Bool, true, false}
use mathlib.Core.List.{List, [], ◌∷◌}
use lib.ListN.{length, get_or}
use Rattle.laws.specs.Types.{Transfer, Slot}
use Rattle.runs.specs.Runs.{count_below}
use Rattle.model.specs.Basics.{bit, count}
use Rattle.model.specs.Transfers.{equal}
use Rattle.model.specs.Acks.{holds}
use Rattle.laws.proofs.Sums.{impossible}
use Rattle.laws.proofs.Equality.{equal_sound, equal_refl}

pub bit_most : (b : Bool) → bit b ≤ 1
bit_most true = omega arith
bit_most false = omega arith

-- what holds of the bits of each number below n holds of the counts
pub count_lift : (p q r s : ℕ → Bool) (n : ℕ)
    → ((i : ℕ) → i < n → bit (p i) + bit (q i) ≤ 1 + bit (r i) + bit (s i))
    → count_below p n + count_below q n ≤ n + count_below r n + count_below s n
count_lift p q r s zero h = omega arith
count_lift p q r s (suc n) h = omega (arith, h n (omega arith), count_lift p q r s n (λ i below. h i (omega arith)))

pub count_never : (n : ℕ) → count_below (λ i. false) n ≡ 0
count_never zero = refl
count_never (suc n) = omega (arith, count_never n)

-- a count over a list's places is the count over the list
count_first : (p : ℕ → Bool) (n : ℕ) → count_below p (suc n) ≡ bit (p 0) + count_below (λ i. p (suc i)) n
count_first p zero = refl
count_first p (suc n) = omega (arith, count_first p n)

pub count_places : {A : Type 0} (p : A → Bool) (xs : List A) (d : A) → count_below (λ i. p (get_or xs i d)) (length xs) ≡ count p xs
count_places p [] d = refl
count_places p (x ∷ xs) d =
    count_first (λ i. p (get_or (x ∷ xs) i d)) (length xs) ∙ ap (λ (n : ℕ). bit (p x) + n) (count_places p xs d)

-- numbers that do not pass add nothing
pub count_more : (p : ℕ → Bool) (n m : ℕ) → n ≤ m → ((i : ℕ) → n ≤ i → p i ≡ false) → count_below p m ≡ count_below p n
count_more p n zero le none = let same : n ≡ 0 = omega arith in rw same
count_more p n (suc m) le none = go (dec_lt n (suc m)) (count_more p n m)
  where
    go : Dec (n < suc m) → (n ≤ m → ((i : ℕ) → n ≤ i → p i ≡ false) → count_below p m ≡ count_below p n)
        → count_below p (suc m) ≡ count_below p n
    go (yes below) rest = omega (arith, ap bit (none m (omega arith)), rest (omega arith) none)
    go (no above) rest = let same : n ≡ suc m = omega arith in rw same

-- the votes of two tallies, of which those of seats that are not bad agree
module _ (bad : ℕ → Bool) (n f : ℕ) (v w : ℕ → Slot)
    (few : count_below bad n ≤ f)
    (agree : (i : ℕ) (t u : Transfer) → i < n → bad i ≡ false → v i ≡ Some t → w i ≡ Some u → t ≡ u)
  where
    -- what a place that holds a slip has
    held : (t : Transfer) (x : Slot) → holds t x ≡ true → x ≡ Some t
    held t None e = impossible (cc)
    held t (Some u) e = ap Some (equal_sound u t e)

    -- a seat votes for different slips only if it is bad
    not_both : (t u : Transfer) → equal t u ≡ false → (i : ℕ) → i < n
        → bit (holds t (v i)) + bit (holds u (w i)) ≤ 1 + bit (bad i) + bit false
    not_both t u other i below = go (holds t (v i)) refl (holds u (w i)) refl (bad i) refl
      where
        go : (x : Bool) → holds t (v i) ≡ x → (y : Bool) → holds u (w i) ≡ y → (b : Bool) → bad i ≡ b → bit x + bit y ≤ 1 + bit b + bit false
        go true e true d true h = omega arith
        go true e true d false h =
            let same = agree i t u below h (held t (v i) e) (held u (w i) d) in
            impossible (cc (other, equal_refl t, same))
        go true e false d b h = omega arith
        go false e y d b h = omega (arith, bit_most y)

    -- more than (n + 3f)/2 votes for t, and for u: they are one slip
    pub two_quorums : (t u : Transfer)
        → n + 3 * f < 2 * count_below (λ i. holds t (v i)) n
        → n + 3 * f < 2 * count_below (λ i. holds u (w i)) n
        → t ≡ u
    two_quorums t u many most = go (equal t u) refl
      where
        go : (b : Bool) → equal t u ≡ b → t ≡ u
        go true e = equal_sound t u e
        go false e =
            let counts = count_lift (λ i. holds t (v i)) (λ i. holds u (w i)) bad (λ i. false) n (not_both t u e) in
            absurd (omega (arith, count_never n))

    -- a seat that is not bad and voted for t there, and for any slip here, voted for t here
    also_here : (t : Transfer) (i : ℕ) → i < n
        → bit (holds t (v i)) + bit (is_some (w i)) ≤ 1 + bit (bad i) + bit (holds t (w i))
    also_here t i below = go (holds t (v i)) refl (w i) refl (bad i) refl
      where
        go : (x : Bool) → holds t (v i) ≡ x → (y : Slot) → w i ≡ y → (b : Bool) → bad i ≡ b
            → bit x + bit (is_some y) ≤ 1 + bit b + bit (holds t y)
        go false e y d b h = omega (arith, bit_most (is_some y))
        go true e None d b h = omega arith
        go true e (Some u) d true h = omega arith
        go true e (Some u) d false h =
            let same : u ≡ t = sym (agree i t u below h (held t (v i) e) d) in
            rw (same, equal_refl t) (omega arith)

    -- more votes for t there than half of n + 3f, at least n - f votes here, and none has more of these than u: u is t
    pub quorum_most : (t u : Transfer)
        → n + 3 * f < 2 * count_below (λ i. holds t (v i)) n
        → n ≤ count_below (λ i. is_some (w i)) n + f
        → count_below (λ i. holds t (w i)) n ≤ count_below (λ i. holds u (w i)) n
        → t ≡ u
    quorum_most t u many recorded most = go (equal t u) refl
      where
        go : (b : Bool) → equal t u ≡ b → t ≡ u
        go true e = equal_sound t u e
        go false e =
            let apart = count_lift (λ i. holds t (v i)) (λ i. holds u (w i)) bad (λ i. false) n (not_both t u e) in
            let here = count_lift (λ i. holds t (v i)) (λ i. is_some (w i)) bad (λ i. holds t (w i)) n (also_here t) in
            absurd (omega (arith, count_never n))
