-- How the links are made, from the last entry to the first, and what a walk along them passes over.
use Rattle.std.proofs.lemmas.Bool.{and_parts}
use Rattle.std.proofs.Common.{◌≡◌, ℕ, zero, suc, ◌+◌, ◌-◌, ◌≤◌, ◌<◌, Bool, true, false, not, ◌&&◌, List, length, get_or, set, length-set, replicate, Option, Some, None, IfSome, cond, eqb, refl, ap, sym, ◌∙◌, arith, eq-eqb, ne_eqb, get_or-set_same, get_or-set_other}
use Rattle.std.proofs.lemmas.List.{get_or-replicate}
use native.Mathlib.Nat.{add-zero, sub-zero, mod-lt}
use native.Mathlib.Decide.{ℕ_discrete, dec_lt}
use mathlib.Core.Bool.{and-false}
use lib.Dec.{lit<}
use borrow.Author.Tests.{eqb-true, eqb-false}
use Rattle.model.specs.Basics.{first_where}
use Rattle.laws.proofs.Sums.{impossible, Found, first_found, first_none}
use Rattle.pairs.specs.declared.keys.Key.{Key}
use Rattle.pairs.specs.Keys.{key_at, meets}
use Rattle.pairs.specs.Links.{bucket_of, in_bucket, same_key, follows, follower_of, lowest_from, Linked}

module _ (p : ℕ → Bool) (m : ℕ) where
  -- the lowest from a place on is the one there, if it passes, and else the lowest from the next place on
  one_on : (i : ℕ) → i < m → lowest_from p i m ≡ cond (p i) (Some i) (lowest_from p (suc i) m)
  one_on i below = let one : m - i ≡ suc (m - suc i) = omega arith in ap (λ (left : ℕ). first_where p left i) one

  -- from the end on there is none
  past_end : (i : ℕ) → m ≤ i → lowest_from p i m ≡ None
  past_end i over = let none_left : m - i ≡ 0 = omega arith in ap (λ (left : ℕ). first_where p left i) none_left

  pub from_start : lowest_from p 0 m ≡ first_where p m 0
  from_start = ap (λ (left : ℕ). first_where p left 0) (sub-zero m)

  -- numbers that do not pass are passed over
  passed_over : (i x : ℕ) → i ≤ x → ((k : ℕ) → i ≤ k → k < x → k < m → p k ≡ false) → lowest_from p i m ≡ lowest_from p x m
  passed_over i x up fail = let way : x ≡ i + (x - i) = omega arith in rw way (go (x - i) (λ k from to inside. fail k from (omega arith) inside))
    where
      go : (d : ℕ) → ((k : ℕ) → i ≤ k → k < i + d → k < m → p k ≡ false) → lowest_from p i m ≡ lowest_from p (i + d) m
      go zero fail = rw (add-zero i)
      go (suc d) fail = go d (λ k from to inside. fail k from (omega arith) inside) ∙ one (dec_lt (i + d) m)
        where
          same : i + suc d ≡ suc (i + d)
          same = omega arith

          one : Dec (i + d < m) → lowest_from p (i + d) m ≡ lowest_from p (i + suc d) m
          one (yes below) = one_on (i + d) below ∙ rw (fail (i + d) (omega arith) (omega arith) below, same) refl
          one (no over) = past_end (i + d) (omega arith) ∙ sym (past_end (i + suc d) (omega arith))

  -- what passes is the lowest if nothing before it does,
  pub lowest_is : (i x : ℕ) → i ≤ x → x < m → p x ≡ true → ((k : ℕ) → i ≤ k → k < x → p k ≡ false) → lowest_from p i m ≡ Some x
  lowest_is i x up below passes fail = passed_over i x up (λ k from to inside. fail k from to) ∙ (one_on x below ∙ rw passes refl)

  -- and there is none if nothing does
  pub no_lowest : (i : ℕ) → i ≤ m → ((k : ℕ) → i ≤ k → k < m → p k ≡ false) → lowest_from p i m ≡ None
  no_lowest i up fail = passed_over i m up (λ k from to inside. fail k from inside) ∙ past_end m (omega arith)

-- an entry's number is small
pub lowest_small : (p : ℕ → Bool) (m i : ℕ) → m ≤ 1_000 → (x : Option ℕ) → x ≡ lowest_from p i m → IfSome x (λ k. k < 1_000)
lowest_small p m i few None e = tt
lowest_small p m i few (Some x) e = let found = first_found p (m - i) i x (sym e) in omega (arith, found.above, found.below)

-- two keys that are the same
same_key_lem : (a b : Key) → same_key a b ≡ true → a ≡ b
same_key_lem a b e =
    let parts = and_parts (eqb a.head b.head) (eqb a.tail b.tail) e in
    let heads : a.head ≡ b.head = eqb-true a.head b.head parts.0 in
    let tails : a.tail ≡ b.tail = eqb-true a.tail b.tail parts.1 in
    λ i. record { head = heads i; tail = tails i }

-- what follows entry j, given what follows the entries behind it
module _ (keys : List Key) (followers : List (Option ℕ)) (m j : ℕ) (here : j < m)
    (nexts : (k : ℕ) → suc j ≤ k → k < m → get_or followers k None ≡ lowest_from (follows keys k) (suc k) m) where
  abbrev beside : ℕ → Bool
  beside = in_bucket keys (bucket_of (key_at keys j).head)

  -- what is not in the bucket does not follow
  elsewhere : (k : ℕ) → beside k ≡ false → follows keys j k ≡ false
  elsewhere k out = rw out refl

  -- the next of the bucket follows, unless it has the same key; where it has, what follows it does
  followed_by : (next : ℕ) → Found beside (m - suc j) (suc j) next → (b : Bool) → same_key (key_at keys j) (key_at keys next) ≡ b
      → cond b (get_or followers next None) (Some next) ≡ lowest_from (follows keys j) (suc j) m
  followed_by next l false other =
      sym (lowest_is (follows keys j) m (suc j) next l.above (omega (arith, l.above, l.below)) (rw (l.passes, other) refl) (λ k from to. elsewhere k (l.lowest k from to)))
  followed_by next l true same =
      let alike : key_at keys next ≡ key_at keys j = sym (same_key_lem (key_at keys j) (key_at keys next) same) in
      nexts next l.above (omega (arith, l.above, l.below))
      ∙ ap (λ (key : Key). lowest_from (λ k. eqb (bucket_of (key_at keys k).head) (bucket_of key.head) && not (same_key key (key_at keys k))) (suc next) m) alike
      ∙ sym (passed_over (follows keys j) m (suc j) (suc next) (omega (arith, l.above)) (λ k from to inside. one k from to (ℕ_discrete k next)))
    where
      one : (k : ℕ) → suc j ≤ k → k < suc next → Dec (k ≡ next) → follows keys j k ≡ false
      one k from to (yes at) = rw (at, same) (and-false (beside next))
      one k from to (no other) = elsewhere k (l.lowest k from (omega arith))

  pub followed : (next : Option ℕ) → next ≡ lowest_from beside (suc j) m → follower_of keys followers j next ≡ lowest_from (follows keys j) (suc j) m
  followed None e =
      sym (no_lowest (follows keys j) m (suc j) here (λ k from inside. elsewhere k (first_none beside (m - suc j) (suc j) (sym e) k from (omega arith))))
  followed (Some next) e = followed_by next (first_found beside (m - suc j) (suc j) next (sym e)) (same_key (key_at keys j) (key_at keys next)) refl

module _ (keys : List Key) (m : ℕ) where
  -- the links of no entry, and of one more
  pub linked_none : (followers : List (Option ℕ)) → length followers ≡ 1_000 → Linked keys m m (replicate 1_021 None) followers
  linked_none followers count =
      record {
        bucket_count = refl;
        follower_count = count;
        starts = λ b below. get_or-replicate 1_021 b None None below ∙ sym (past_end (in_bucket keys b) m m (omega arith));
        nexts = λ j from below. absurd (omega arith);
      }

  module _ (few : m ≤ 1_000) (buckets followers : List (Option ℕ)) (j : ℕ) (s : Linked keys m (suc j) buckets followers) (here : j < m) where
    abbrev b : ℕ
    b = bucket_of (key_at keys j).head

    abbrev after : Option ℕ
    after = follower_of keys followers j (get_or buckets b None)

    low : bucket_of (key_at keys j).head < 1_021
    low = mod-lt (key_at keys j).head (lit< tt)

    starts_more : (c : ℕ) → c < 1_021 → Dec (c ≡ b) → get_or (set buckets b (Some j)) c None ≡ lowest_from (in_bucket keys c) j m
    starts_more c below (yes same) =
        rw (same, get_or-set_same buckets b (Some j) None (omega (arith, low, s.bucket_count)))
        (sym (lowest_is (in_bucket keys b) m j j (omega arith) here (eq-eqb b b refl) (λ k from to. absurd (omega arith))))
    starts_more c below (no other) =
        get_or-set_other buckets b c (Some j) None other
        ∙ (s.starts c below ∙ sym (one_on (in_bucket keys c) m j here ∙ rw (ne_eqb b c (λ e. other (sym e))) refl))

    nexts_more : (i : ℕ) → j ≤ i → i < m → Dec (i ≡ j) → get_or (set followers j after) i None ≡ lowest_from (follows keys i) (suc i) m
    nexts_more i from below (yes same) =
        rw (same, get_or-set_same followers j after None (omega (arith, s.follower_count)))
        (followed keys followers m j here s.nexts (get_or buckets b None) (s.starts b low))
    nexts_more i from below (no other) = get_or-set_other followers j i after None other ∙ s.nexts i (omega arith) below

    pub linked_more : Linked keys m j (set buckets b (Some j)) (set followers j after)
    linked_more =
        record {
          bucket_count = length-set buckets b (Some j) ∙ s.bucket_count;
          follower_count = length-set followers j after ∙ s.follower_count;
          starts = λ c below. starts_more c below (ℕ_discrete c b);
          nexts = λ i from below. nexts_more i from below (ℕ_discrete i j);
        }

-- A walk along the links of a key's bucket has come to an entry of the bucket, or to its end: nothing before it was
-- missed.
abbrev pub Walks : List Key → ℕ → Key → Option ℕ → Type 0
Walks keys m key None = first_where (meets keys key) m 0 ≡ None
Walks keys m key (Some j) =
    (j < m) × (in_bucket keys (bucket_of key.head) j ≡ true) × (lowest_from (meets keys key) j m ≡ first_where (meets keys key) m 0)

-- how many entries are left to it at most
abbrev pub left_at : ℕ → Option ℕ → ℕ
left_at m None = 0
left_at m (Some j) = suc (m - j)

module _ (keys : List Key) (m : ℕ) (key : Key) where
  -- what lies in another bucket has another head
  missed : (k : ℕ) → in_bucket keys (bucket_of key.head) k ≡ false → meets keys key k ≡ false
  missed k out =
      rw (ne_eqb (key_at keys k).head key.head (λ same. eqb-false (bucket_of (key_at keys k).head) (bucket_of key.head) out (ap bucket_of same))) refl

  -- a walk that has come to the place i goes on to the lowest from there on that passes a test, where what makes a pair
  -- passes it, and what passes it lies in the bucket
  goes_to : (p : ℕ → Bool) (i : ℕ) → i ≤ m → ((k : ℕ) → p k ≡ false → meets keys key k ≡ false) → ((k : ℕ) → p k ≡ true → in_bucket keys (bucket_of key.head) k ≡ true)
      → lowest_from (meets keys key) i m ≡ first_where (meets keys key) m 0 → (x : Option ℕ) → x ≡ lowest_from p i m → Walks keys m key x
  goes_to p i up fails there so_far None e =
      sym so_far ∙ no_lowest (meets keys key) m i up (λ k from inside. fails k (first_none p (m - i) i (sym e) k from (omega arith)))
  goes_to p i up fails there so_far (Some x) e =
      let l = first_found p (m - i) i x (sym e) in (
        omega (arith, l.above, l.below),
        there x l.passes,
        sym (passed_over (meets keys key) m i x l.above (λ k from to inside. fails k (l.lowest k from to))) ∙ so_far,
      )

  module _ (buckets followers : List (Option ℕ)) (s : Linked keys m 0 buckets followers) where
    pub walk_starts : Walks keys m key (get_or buckets (bucket_of key.head) None)
    walk_starts =
        goes_to (in_bucket keys (bucket_of key.head)) 0 (omega arith) missed (λ k h. h) (from_start (meets keys key) m)
        (get_or buckets (bucket_of key.head) None) (s.starts (bucket_of key.head) (mod-lt key.head (lit< tt)))

    -- and goes on from an entry
    module _ (at : Option ℕ) (j : ℕ) (is : at ≡ Some j) (so_far : Walks keys m key at) where
      w : Walks keys m key (Some j)
      w = rw is at so_far

      same_bucket : bucket_of (key_at keys j).head ≡ bucket_of key.head
      same_bucket = eqb-true (bucket_of (key_at keys j).head) (bucket_of key.head) w.1

      pub walk_nearer : left_at m (get_or followers j None) < left_at m at
      walk_nearer = rw is (go (get_or followers j None) refl)
        where
          go : (x : Option ℕ) → get_or followers j None ≡ x → left_at m x < left_at m (Some j)
          go None e = omega arith
          go (Some x) e =
              let l = first_found (follows keys j) (m - suc j) (suc j) x (sym (s.nexts j (omega arith) w.0) ∙ e) in omega (arith, l.above, l.below)

      -- that makes no pair
      module _ (no : meets keys key j ≡ false) where
        -- what does not follow makes none either
        fails : (k : ℕ) → follows keys j k ≡ false → meets keys key k ≡ false
        fails k none_there = go (in_bucket keys (bucket_of (key_at keys j).head) k) refl (same_key (key_at keys j) (key_at keys k)) refl
          where
            go : (a : Bool) → in_bucket keys (bucket_of (key_at keys j).head) k ≡ a → (b : Bool) → same_key (key_at keys j) (key_at keys k) ≡ b → meets keys key k ≡ false
            go false out b same = missed k (rw same_bucket at out)
            go true inside false same = impossible (cc (rw (inside, same) at none_there))
            go true inside true same =
                let alike : key_at keys j ≡ key_at keys k = same_key_lem (key_at keys j) (key_at keys k) same in
                ap (λ (x : Key). eqb x.head key.head && not (eqb x.tail key.tail)) (sym alike) ∙ no

        pub walk_goes : Walks keys m key (get_or followers j None)
        walk_goes =
            goes_to (follows keys j) (suc j) w.0 fails
            (λ k h. rw same_bucket at (and_parts (in_bucket keys (bucket_of (key_at keys j).head) k) (not (same_key (key_at keys j) (key_at keys k))) h).0)
            (sym (one_on (meets keys key) m j w.0 ∙ rw no refl) ∙ w.2)
            (get_or followers j None) (s.nexts j (omega arith) w.0)

  -- it finds an entry that makes one
  pub walk_found : (at : Option ℕ) (j : ℕ) → at ≡ Some j → Walks keys m key at → meets keys key j ≡ true → first_where (meets keys key) m 0 ≡ Some j
  walk_found at j is so_far passes =
      let w = rw is at so_far in sym w.2 ∙ lowest_is (meets keys key) m j j (omega arith) w.0 passes (λ k from to. absurd (omega arith))
