-- A sound bundle has at most 18,123 bytes, 2 + 8 × 1,000 + 131 + 999 × 10: m is at most 1,000, entry 0 alone has a body
-- of 131 bytes, every other at most 10, and the bundle ends with its last body. So the first 18,124 bytes of an input,
-- however long it is, have the check of the whole.
use Rattle.std.proofs.lemmas.Bool.{and_parts, not-false, or_parts}
use Rattle.std.proofs.Common.{◌≡◌, ℕ, zero, suc, ◌+◌, ◌*◌, ◌<◌, ◌≤◌, Bool, true, false, not, ◌&&◌, ◌||◌, eqb, ltb, leb, List, [], ◌∷◌, length, get_or, take, drop, sym, refl, ap, ◌∙◌, inl, inr, arith, length-take-le, take_all, get_or-take, ltb-false, le-ltb, ne_eqb, eqb-true, leb-true, Option, Some, None, Ok}
use native.Mathlib.Decide.{dec_le}
use lib.Dec.{eqb-suc-zero}
use Rattle.model.specs.declared.Refusal.TheVariants.{BadHeader, BadContents, BadEnd, BadSum}
use Rattle.model.specs.declared.ContentsEntry.{ContentsEntry}
use Rattle.model.specs.Types.{BundleReply, refused_at}
use Rattle.model.specs.Basics.{every}
use Rattle.model.specs.Bundles.{number_at, entry_count, contents_at, body_lengths, body_length, start_at, bad_count, bad_header, misplaced, wrong_entry, first_bad_entry, bad_end, wrong_sum_at, first_bad_sum, of_whole, first_fault, check_bundle}
use Rattle.bundle.specs.Promises.{longest, RefusedEarly, LongRefused}
use Rattle.laws.proofs.Sums.{impossible, NotFound, first_none, same_found}

-- in a list of numbers of at most b, each is at most b
pub at_most : (b : ℕ) (xs : List ℕ) (i : ℕ) → every (λ x. leb x b) xs ≡ true → get_or xs i 0 ≤ b
at_most b [] i e = omega arith
at_most b (x ∷ xs) zero e = leb-true x b (and_parts (leb x b) (every (λ y. leb y b) xs) e).0
at_most b (x ∷ xs) (suc i) e = at_most b xs i (and_parts (leb x b) (every (λ y. leb y b) xs) e).1

-- a body has at most 131 bytes
pub body_any : (kind : ℕ) → body_length kind ≤ 131
body_any kind = at_most 131 body_lengths kind refl

-- two numbers that do not differ
pub no_difference : (a b : ℕ) → not (eqb a b) ≡ false → a ≡ b
no_difference a b e = eqb-true a b (not-false (eqb a b) e)

-- what an entry that is not wrong has: a kind, in its place, a seat only where there is one, and its start
pub right_entry : (i start : ℕ) (c : ContentsEntry) → wrong_entry i start c ≡ false
    → (c.kind ≤ 5)
    × (misplaced i c.kind ≡ false)
    × ((not (eqb c.kind 3) && not (eqb c.seat 0)) ≡ false)
    × (c.start ≡ start)
right_entry i start c e =
    let seat = not (eqb c.kind 3) && not (eqb c.seat 0) in
    let three = or_parts (ltb 5 c.kind || misplaced i c.kind || seat) (not (eqb c.start start)) e in
    let two = or_parts (ltb 5 c.kind || misplaced i c.kind) seat three.0 in
    let one = or_parts (ltb 5 c.kind) (misplaced i c.kind) two.0 in
    (ltb-false 5 c.kind one.0, one.1, two.1, no_difference c.start start three.1)

-- an entry after entry 0 that is not wrong has a kind from 1 to 5,
pub kind_later : (i start : ℕ) (c : ContentsEntry) → wrong_entry (suc i) start c ≡ false → (c.kind ≤ 5) × (1 ≤ c.kind)
kind_later i start c e = let right = right_entry (suc i) start c e in (right.0, go c.kind right.1)
  where
    go : (kind : ℕ) → misplaced (suc i) kind ≡ false → 1 ≤ kind
    go zero e = let wrong : true ≡ false = simp (eqb-suc-zero i) at e in impossible (cc)
    go (suc kind) e = omega arith

-- and so a body of at most 10 bytes
body_later : (kind : ℕ) → 1 ≤ kind → body_length kind ≤ 10
body_later zero h = absurd (omega arith)
body_later (suc kind) h = at_most 10 (drop 1 body_lengths) kind refl

abbrev pub wrong_at : List ℕ → ℕ → Bool
wrong_at bytes i = wrong_entry i (start_at bytes i) (contents_at bytes i)

-- where the bodies of the first n entries end, if none of these is wrong
ends_by : (bytes : List ℕ) (n : ℕ) → NotFound (wrong_at bytes) n 0 → start_at bytes n ≤ 123 + 8 * entry_count bytes + 10 * n
ends_by bytes zero right = omega arith
ends_by bytes (suc zero) right = omega (arith, body_any (contents_at bytes 0).kind)
ends_by bytes (suc (suc i)) right =
    omega (
      arith,
      ends_by bytes (suc i) (λ k from to. right k from (omega arith)),
      body_later (contents_at bytes (suc i)).kind (kind_later i (start_at bytes (suc i)) (contents_at bytes (suc i)) (right (suc i) (omega arith) (omega arith))).1,
    )

-- a count that is not refused
count_right : (m : ℕ) → bad_count m ≡ false → (1 ≤ m) × (m ≤ 1_000)
count_right m e =
    let parts = or_parts (ltb m 1) (ltb 1_000 m) e in
    (ltb-false m 1 parts.0, ltb-false 1_000 m parts.1)

-- The check of a longer bundle goes by its count and its first wrong entry alone: with neither at fault, it
-- does not end with its last body.
abbrev of_long : Bool → Option ℕ → BundleReply
of_long true wrong = refused_at BadHeader 0
of_long false (Some i) = refused_at BadContents i
of_long false None = refused_at BadEnd 0

module _ (bytes : List ℕ) (long : longest < length bytes) where
  -- it is long enough for the contents of any right count,
  long_header : (b : Bool) → bad_count (entry_count bytes) ≡ b → bad_header bytes ≡ b
  long_header true e = rw (le-ltb (length bytes) 2 (omega arith), e)
  long_header false e =
      let few = count_right (entry_count bytes) e in
      rw (le-ltb (length bytes) 2 (omega arith), e, le-ltb (length bytes) (2 + 8 * entry_count bytes) (omega arith))

  -- and too long for right contents
  long_end : bad_count (entry_count bytes) ≡ false → first_bad_entry bytes ≡ None → bad_end bytes ≡ true
  long_end e right =
      let few = count_right (entry_count bytes) e in
      let last = ends_by bytes (entry_count bytes) (first_none (wrong_at bytes) (entry_count bytes) 0 right) in
      rw (ne_eqb (length bytes) (start_at bytes (entry_count bytes)) (λ same. omega arith))

  long_check : check_bundle bytes ≡ of_long (bad_count (entry_count bytes)) (first_bad_entry bytes)
  unfolding check_bundle
  long_check = go (bad_count (entry_count bytes)) refl (first_bad_entry bytes) refl
    where
      go : (b : Bool) → bad_count (entry_count bytes) ≡ b → (wrong : Option ℕ) → first_bad_entry bytes ≡ wrong
          → check_bundle bytes ≡ of_long b wrong
      go true h wrong e = rw (long_header true h)
      go false h (Some i) e = rw (long_header false h, e)
      go false h None e = rw (long_header false h, e, long_end h e)

of_long_lem : (b : Bool) (wrong : Option ℕ) → RefusedEarly (of_long b wrong)
of_long_lem true wrong = (BadHeader, 0, refl, inl refl)
of_long_lem false (Some i) = (BadContents, i, refl, inr (inl refl))
of_long_lem false None = (BadEnd, 0, refl, inr (inr refl))

-- a longer bundle is refused with 13, 14 or 15
pub long_refused : LongRefused
long_refused bytes long = rw (long_check bytes long) (of_long_lem (bad_count (entry_count bytes)) (first_bad_entry bytes))

-- a sound bundle has at most 18,123 bytes
pub most_bytes : (bytes : List ℕ) (m : ℕ) → check_bundle bytes ≡ Ok m → length bytes ≤ longest
most_bytes bytes m sound = go (dec_le (length bytes) longest)
  where
    go : Dec (length bytes ≤ longest) → length bytes ≤ longest
    go (yes few) = few
    go (no more) = let refused = long_refused bytes (omega arith) in impossible (cc refused.2)

-- what is sound has no fault, and the m that it says
no_fault : (n m : ℕ) (header : Bool) (entry : Option ℕ) (end : Bool) (sum : Option ℕ)
    → first_fault n ((of_whole header, BadHeader) ∷ (entry, BadContents) ∷ (of_whole end, BadEnd) ∷ (sum, BadSum) ∷ []) ≡ Ok m
    → (m ≡ n) × (header ≡ false) × (entry ≡ None) × (end ≡ false) × (sum ≡ None)
no_fault n m true entry end sum e = impossible (cc)
no_fault n m false (Some i) end sum e = impossible (cc)
no_fault n m false None true sum e = impossible (cc)
no_fault n m false None false (Some i) e = impossible (cc)
no_fault n m false None false None e = (cc, refl, refl, refl, refl)

module _ (bytes : List ℕ) (m : ℕ) (sound : check_bundle bytes ≡ Ok m) where
  sound_parts : (m ≡ entry_count bytes)
      × (bad_header bytes ≡ false)
      × (first_bad_entry bytes ≡ None)
      × (bad_end bytes ≡ false)
      × (first_bad_sum bytes ≡ None)
  unfolding check_bundle
  sound_parts = no_fault (entry_count bytes) m (bad_header bytes) (first_bad_entry bytes) (bad_end bytes) (first_bad_sum bytes) sound

  -- it has as many entries as its header says, 1 to 1,000,
  pub few_entries : (m ≡ entry_count bytes) × (1 ≤ m) × (m ≤ 1_000)
  few_entries =
      let n = entry_count bytes in
      let same = sound_parts.0 in
      let parts = or_parts (ltb (length bytes) 2 || bad_count n) (ltb (length bytes) (2 + 8 * n)) sound_parts.1 in
      let few = count_right n (or_parts (ltb (length bytes) 2) (bad_count n) parts.0).1 in
      (same, omega arith, omega arith)

  -- none of these is wrong,
  pub right_entries : NotFound (wrong_at bytes) (entry_count bytes) 0
  right_entries = first_none (wrong_at bytes) (entry_count bytes) 0 sound_parts.2

  -- it ends with its last body,
  pub right_end : length bytes ≡ start_at bytes (entry_count bytes)
  right_end = no_difference (length bytes) (start_at bytes (entry_count bytes)) sound_parts.3

  -- and none of its sums is wrong
  pub right_sums : NotFound (wrong_sum_at bytes) (entry_count bytes) 0
  right_sums = first_none (wrong_sum_at bytes) (entry_count bytes) 0 sound_parts.4

-- The first n bytes of a bundle say the same as the whole of all that stands in them.
module _ (bytes : List ℕ) (n : ℕ) where
  same_number_lem : (width at : ℕ) → at + width ≤ n → number_at width (take n bytes) at ≡ number_at width bytes at
  same_number_lem zero at h = refl
  same_number_lem (suc width) at h = rw (get_or-take n bytes at 0 (omega arith), same_number_lem width (at + 1) (omega arith))

  same_contents : (i : ℕ) → 10 + 8 * i ≤ n → contents_at (take n bytes) i ≡ contents_at bytes i
  same_contents i h =
      rw (
        get_or-take n bytes (2 + 8 * i) 0 (omega arith),
        get_or-take n bytes (3 + 8 * i) 0 (omega arith),
        same_number_lem 2 (4 + 8 * i) (omega arith),
        same_number_lem 4 (6 + 8 * i) (omega arith),
      )

  same_start : (i : ℕ) → 2 + 8 * i ≤ n → start_at (take n bytes) i ≡ start_at bytes i
  same_start zero h = rw (same_number_lem 2 0 h)
  same_start (suc i) h = rw (same_start i (omega arith), get_or-take n bytes (2 + 8 * i) 0 (omega arith))

  same_wrong : (i : ℕ) → 10 + 8 * i ≤ n → wrong_at (take n bytes) i ≡ wrong_at bytes i
  same_wrong i h = rw (same_start i (omega arith)) (ap (wrong_entry i (start_at bytes i)) (same_contents i h))

  same_entry : 2 + 8 * entry_count bytes ≤ n → first_bad_entry (take n bytes) ≡ first_bad_entry bytes
  same_entry h =
      rw (same_number_lem 2 0 (omega arith))
      (same_found (wrong_at (take n bytes)) (wrong_at bytes) (entry_count bytes) 0 (λ k from to. same_wrong k (omega arith)))

  same_long : 8_002 ≤ n
      → of_long (bad_count (entry_count (take n bytes))) (first_bad_entry (take n bytes))
      ≡ of_long (bad_count (entry_count bytes)) (first_bad_entry bytes)
  same_long large = rw (ap bad_count (same_number_lem 2 0 (omega arith))) (go (bad_count (entry_count bytes)) refl)
    where
      go : (b : Bool) → bad_count (entry_count bytes) ≡ b → of_long b (first_bad_entry (take n bytes)) ≡ of_long b (first_bad_entry bytes)
      go true h = refl
      go false h = let few = count_right (entry_count bytes) h in ap (of_long false) (same_entry (omega arith))

  same_check : longest < n → Dec (length bytes ≤ n) → check_bundle (take n bytes) ≡ check_bundle bytes
  same_check large (yes few) = rw (take_all n bytes few)
  same_check large (no more) =
      let long : longest < length (take n bytes) = rw (length-take-le n bytes (omega arith)) large in
      long_check (take n bytes) long ∙ same_long (omega arith) ∙ sym (long_check bytes (omega arith))

  -- so where one byte more than the longest bundle has is read, the check is that of the whole,
  pub front : longest < n → check_bundle (take n bytes) ≡ check_bundle bytes
  front large = same_check large (dec_le (length bytes) n)

  -- and of a sound bundle all is read
  pub read_front : (m : ℕ) → longest < n → check_bundle bytes ≡ Ok m → take n bytes ≡ bytes
  read_front m large sound = let few = most_bytes bytes m sound in take_all n bytes (omega arith)
