-- The numbers that pass a test, lowest first: exactly those, each once, and no other list is.
use Prim.Native.Nat.{ℕ, zero, suc, ◌+◌, ◌≤◌, ◌<◌}
use native.Mathlib.Nat.{add-zero, le_of_suc-le-suc, not-suc-le-zero}
use native.Mathlib.Decide.{ℕ_discrete, dec_lt}
use native.Mathlib.Omega.{arith}
use mathlib.Core.Path.{◌≡◌, refl, ap, sym, ◌∙◌, subst}
use mathlib.Core.Bool.{Bool, true, false, cond, ◌&&◌, and-true, and-false}
use mathlib.Core.List.{List, [], ◌∷◌, ◌++◌}
use lib.Dec.{eqb}
use lib.ListN.{length, get_or}
use borrow.Author.Tests.{eq-eqb, ne_eqb}
use Rattle.model.specs.Basics.{bit, count, all_where, Stands, Rising, ExactlyThose}
use Rattle.laws.proofs.Sums.{impossible}

-- the number alone, if the test holds
abbrev pub alone : Bool → ℕ → List ℕ
alone b x = cond b (x ∷ []) []

-- the first stands in its list, and what stands in the rest stands in the list
first_stands : (x : ℕ) (xs : List ℕ) → Stands x (x ∷ xs)
first_stands x xs = record { place = 0; inside = omega arith; is = refl }

rest_stands : (x y : ℕ) (xs : List ℕ) → Stands y xs → Stands y (x ∷ xs)
rest_stands x y xs s = record { place = suc s.place; inside = omega (arith, s.inside); is = s.is }

module _ (p : ℕ → Bool) where
  -- x is one of the `left` numbers from i on, and passes
  pub record Passes (left i x : ℕ) : Type 0 where
    pub from : i ≤ x
    pub below : x < i + left
    pub passes : p x ≡ true

  -- one number more: it comes last
  pub all_more : (left i : ℕ) → all_where p (suc left) i ≡ all_where p left i ++ alone (p (i + left)) (i + left)
  all_more zero i = rw (add-zero i)
  all_more (suc left) i = go (p i) refl (all_more left (suc i))
    where
      same : i + suc left ≡ suc i + left
      same = omega arith

      go : (b : Bool) → p i ≡ b → all_where p (suc left) (suc i) ≡ all_where p left (suc i) ++ alone (p (suc i + left)) (suc i + left)
          → all_where p (suc (suc left)) i ≡ all_where p (suc left) i ++ alone (p (i + suc left)) (i + suc left)
      go true h rest = rw (h, same) (ap (λ (xs : List ℕ). i ∷ xs) rest)
      go false h rest = rw (h, same) rest

  -- they are no more than were gone through
  pub all_few : (left i : ℕ) → length (all_where p left i) ≤ left
  all_few zero i = omega arith
  all_few (suc left) i = go (p i) refl (all_few left (suc i))
    where
      go : (b : Bool) → p i ≡ b → length (all_where p left (suc i)) ≤ left → length (all_where p (suc left) i) ≤ suc left
      go true h rest = rw h (omega arith)
      go false h rest = rw h (omega arith)

  -- what stands among them passes,
  pub all_pass : (left i k : ℕ) → k < length (all_where p left i) → Passes left i (get_or (all_where p left i) k 0)
  all_pass zero i k h = absurd (not-suc-le-zero h)
  all_pass (suc left) i k h = go (p i) refl k h (all_pass left (suc i))
    where
      later : (x : ℕ) → Passes left (suc i) x → Passes (suc left) i x
      later x found = record { from = omega arith; below = omega arith; passes = found.passes }

      go : (b : Bool) → p i ≡ b → (k : ℕ) → k < length (all_where p (suc left) i)
          → ((k : ℕ) → k < length (all_where p left (suc i)) → Passes left (suc i) (get_or (all_where p left (suc i)) k 0))
          → Passes (suc left) i (get_or (all_where p (suc left) i) k 0)
      go true h zero below rest = rw h (record { from = omega arith; below = omega arith; passes = h })
      go true h (suc k) below rest = rw h (later _ (rest k (le_of_suc-le-suc (rw h at below))))
      go false h k below rest = rw h (later _ (rest k (rw h at below)))

  -- and what passes stands among them
  pub all_stand : (left i x : ℕ) → Passes left i x → Stands x (all_where p left i)
  all_stand zero i x found = absurd (omega (arith, found.from, found.below))
  all_stand (suc left) i x found = go (p i) refl (ℕ_discrete i x) (all_stand left (suc i) x)
    where
      later : (i ≡ x → ⊥) → Passes left (suc i) x
      later other = record { from = omega (arith, found.from); below = omega (arith, found.below); passes = found.passes }

      go : (b : Bool) → p i ≡ b → Dec (i ≡ x) → (Passes left (suc i) x → Stands x (all_where p left (suc i))) → Stands x (all_where p (suc left) i)
      go true h (yes at) rest = rw (h, ← at) (first_stands i _)
      go true h (no other) rest = rw h (rest_stands i x _ (rest (later other)))
      go false h (yes at) rest = impossible (let z : false ≡ true = sym h ∙ ap p at ∙ found.passes in cc)
      go false h (no other) rest = rw h (rest (later other))

  pub all_rise : (left i : ℕ) → Rising (all_where p left i)
  all_rise zero i j k lower h = absurd (not-suc-le-zero h)
  all_rise (suc left) i j k lower h = go (p i) refl j k lower h (all_rise left (suc i))
    where
      go : (b : Bool) → p i ≡ b → (j k : ℕ) → j < k → k < length (all_where p (suc left) i) → Rising (all_where p left (suc i))
          → get_or (all_where p (suc left) i) j 0 < get_or (all_where p (suc left) i) k 0
      go true h j zero lower below rest = absurd (not-suc-le-zero lower)
      go true h zero (suc k) lower below rest =
          rw h (omega (arith, (all_pass left (suc i) k (le_of_suc-le-suc (rw h at below))).from))
      go true h (suc j) (suc k) lower below rest = rw h (rest j k (le_of_suc-le-suc lower) (le_of_suc-le-suc (rw h at below)))
      go false h j k lower below rest = rw h (rest j k lower (rw h at below))

-- a number that is listed if a test holds is counted once more if it does
counted : (b : Bool) (a i : ℕ) (rest : List ℕ) → count (eqb a) (cond b (i ∷ rest) rest) ≡ bit (eqb a i && b) + count (eqb a) rest
counted true a i rest = rw and-true
counted false a i rest = rw and-false (omega arith)

module _ (p : ℕ → Bool) (a : ℕ) where
  -- a number below the first is not among them
  count_below_lem : (left i : ℕ) → a < i → count (eqb a) (all_where p left i) ≡ 0
  count_below_lem zero i h = refl
  count_below_lem (suc left) i h =
      rw (counted (p i) a i (all_where p left (suc i)), ne_eqb a i (omega arith)) (omega (arith, count_below_lem left (suc i) (omega arith)))

  -- any other stands there once if it passes, where it can pass among them alone
  pub all_count : (left i : ℕ) → i ≤ a → (p a ≡ true → a < i + left) → count (eqb a) (all_where p left i) ≡ bit (p a)
  all_count zero i from within = go (p a) refl
    where
      go : (b : Bool) → p a ≡ b → 0 ≡ bit b
      go true h = absurd (omega (arith, within h))
      go false h = refl
  all_count (suc left) i from within = rw (counted (p i) a i (all_where p left (suc i))) (go (ℕ_discrete a i) (all_count left (suc i)))
    where
      go : Dec (a ≡ i) → (suc i ≤ a → (p a ≡ true → a < suc i + left) → count (eqb a) (all_where p left (suc i)) ≡ bit (p a))
          → bit (eqb a i && p i) + count (eqb a) (all_where p left (suc i)) ≡ bit (p a)
      go (yes same) later =
          let first : bit (eqb a i && p i) ≡ bit (p a) = rw (eq-eqb a i same, ← same) in
          omega (arith, first, count_below_lem left (suc i) (omega arith))
      go (no other) later = rw (ne_eqb a i other) (omega (arith, later (omega arith) (λ h. omega (arith, within h))))

-- what stands in a list is counted there, and what is counted there stands in it
pub stands_counted : (x : ℕ) (xs : List ℕ) → Stands x xs → 1 ≤ count (eqb x) xs
stands_counted x xs s = go xs s.place s.inside s.is
  where
    go : (ys : List ℕ) (k : ℕ) → k < length ys → get_or ys k 0 ≡ x → 1 ≤ count (eqb x) ys
    go [] k below is = absurd (not-suc-le-zero below)
    go (y ∷ ys) zero below is = omega (arith, ap bit (eq-eqb x y (sym is)))
    go (y ∷ ys) (suc k) below is = omega (arith, go ys k (le_of_suc-le-suc below) is)

pub counted_stands : (x : ℕ) (xs : List ℕ) → 1 ≤ count (eqb x) xs → Stands x xs
counted_stands x [] some = absurd (not-suc-le-zero some)
counted_stands x (y ∷ ys) some = go (ℕ_discrete x y) (counted_stands x ys)
  where
    go : Dec (x ≡ y) → (1 ≤ count (eqb x) ys → Stands x ys) → Stands x (y ∷ ys)
    go (yes same) later = rw (← same) (first_stands x ys)
    go (no other) later = rest_stands y x ys (later (omega (arith, ap bit (ne_eqb x y other))))

-- the places whose elements pass a test are as many as the elements that do
pub all_number : {A : Type 0} (q : A → Bool) (d : A) (xs : List A) (p : ℕ → Bool) (i : ℕ)
    → ((k : ℕ) → k < length xs → p (i + k) ≡ q (get_or xs k d)) → length (all_where p (length xs) i) ≡ count q xs
all_number q d [] p i tells = refl
all_number q d (x ∷ xs) p i tells = go (p i) refl (all_number q d xs p (suc i) shifted)
  where
    shifted : (k : ℕ) → k < length xs → p (suc i + k) ≡ q (get_or xs k d)
    shifted k below = let same : suc i + k ≡ i + suc k = omega arith in ap p same ∙ tells (suc k) (omega arith)

    first : p i ≡ q x
    first = let same : i ≡ i + 0 = omega arith in ap p same ∙ tells 0 (omega arith)

    go : (b : Bool) → p i ≡ b → length (all_where p (length xs) (suc i)) ≡ count q xs → length (all_where p (length (x ∷ xs)) i) ≡ count q (x ∷ xs)
    go true h rest = let one : q x ≡ true = sym first ∙ h in rw (h, one) (omega (arith, rest))
    go false h rest = let none : q x ≡ false = sym first ∙ h in rw (h, none) (omega (arith, rest))

-- in a list that rises strictly none stands twice
pub rising_once : (xs : List ℕ) → Rising xs → (i j : ℕ) → i < length xs → j < length xs → get_or xs i 0 ≡ get_or xs j 0 → i ≡ j
rising_once xs rises i j i_inside j_inside same = go (dec_lt i j) (dec_lt j i)
  where
    go : Dec (i < j) → Dec (j < i) → i ≡ j
    go (yes l) _ = absurd (omega (arith, rises i j l j_inside))
    go (no m) (yes l) = absurd (omega (arith, rises j i l i_inside))
    go (no m) (no n) = omega arith

-- the first of a list that rises is the lowest, and the rest rises
rising_first : (x y : ℕ) (xs : List ℕ) → Rising (x ∷ xs) → Stands y (x ∷ xs) → x ≤ y
rising_first x y xs rises s = go s.place s.inside s.is
  where
    go : (k : ℕ) → k < length (x ∷ xs) → get_or (x ∷ xs) k 0 ≡ y → x ≤ y
    go zero below is = omega arith
    go (suc k) below is = omega (arith, rises 0 (suc k) (omega arith) below)

rising_rest : (x : ℕ) (xs : List ℕ) → Rising (x ∷ xs) → Rising xs
rising_rest x xs rises i j lower below = rises (suc i) (suc j) (omega arith) (omega arith)

-- of two lists with the same first, what stands behind it in one stands behind it in the other
rest_alike : (x z : ℕ) (xs zs : List ℕ) → x ≡ z → Rising (x ∷ xs) → ((y : ℕ) → Stands y (x ∷ xs) → Stands y (z ∷ zs)) → (y : ℕ) → Stands y xs → Stands y zs
rest_alike x z xs zs same rises to y s = go found.place found.inside found.is
  where
    found : Stands y (z ∷ zs)
    found = to y (rest_stands x y xs s)

    above : x < y
    above = omega (arith, rises 0 (suc s.place) (omega arith) (omega (arith, s.inside)), s.is)

    go : (k : ℕ) → k < length (z ∷ zs) → get_or (z ∷ zs) k 0 ≡ y → Stands y zs
    go zero below is = absurd (omega (arith, above, same))
    go (suc k) below is = record { place = k; inside = omega arith; is = is }

-- two lists that rise, in each of which stands what stands in the other, are one list
pub rising_same : (xs ys : List ℕ) → Rising xs → Rising ys → ((x : ℕ) → Stands x xs → Stands x ys) → ((x : ℕ) → Stands x ys → Stands x xs) → xs ≡ ys
rising_same [] [] rx ry to back = refl
rising_same [] (y ∷ ys) rx ry to back = absurd (not-suc-le-zero (back y (first_stands y ys)).inside)
rising_same (x ∷ xs) [] rx ry to back = absurd (not-suc-le-zero (to x (first_stands x xs)).inside)
rising_same (x ∷ xs) (y ∷ ys) rx ry to back =
    let same : x ≡ y = omega (arith, rising_first y x ys ry (to x (first_stands x xs)), rising_first x y xs rx (back y (first_stands y ys))) in
    ap (λ (z : ℕ). z ∷ xs) same
    ∙ ap
    (λ (zs : List ℕ). y ∷ zs)
    (rising_same xs ys (rising_rest x xs rx) (rising_rest y ys ry) (rest_alike x y xs ys same rx to) (rest_alike y x ys xs (sym same) ry back))

-- a test that only numbers below `left` pass: the list of those is exactly those,
module _ (p : ℕ → Bool) (left : ℕ) (below : (x : ℕ) → p x ≡ true → x < left) where
  pub all_exactly : ExactlyThose p (all_where p left 0)
  all_exactly =
      record {
        only = λ x stands. subst (λ (y : ℕ). p y ≡ true) stands.is (all_pass p left 0 stands.place stands.inside).passes;
        all = λ x e. all_stand p left 0 x (record { from = omega arith; below = omega (arith, below x e); passes = e });
        once = rising_once (all_where p left 0) (all_rise p left 0);
        rising = all_rise p left 0;
      }

  -- and no other list is
  pub only_those : (xs : List ℕ) → ExactlyThose p xs → xs ≡ all_where p left 0
  only_those xs those =
      rising_same xs (all_where p left 0) those.rising all_exactly.rising
      (λ x stands. all_exactly.all x (those.only x stands))
      (λ x stands. those.all x (all_exactly.only x stands))

  -- each number stands there once if it passes, and else not
  pub all_once : (a : ℕ) → count (eqb a) (all_where p left 0) ≡ bit (p a)
  all_once a = all_count p a left 0 (omega arith) (λ h. omega (arith, below a h))
