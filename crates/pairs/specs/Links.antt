-- An index over a bundle's keys: entries lie in buckets by their heads, and each leads to the next one of its bucket
-- with another key. What has an ack's head lies in that head's bucket, and what has the key of an entry that makes no
-- pair makes none.
use Rattle.std.specs.Prelude.{ℕ, suc, ◌-◌, ◌%◌, ◌≤◌, ◌<◌, ◌≡◌, Bool, cond, not, ◌&&◌, List, eqb, length, get_or, Option, Some, None}
use Rattle.model.specs.Basics.{first_where}
use Rattle.pairs.specs.declared.keys.Key.{Key}
use Rattle.pairs.specs.Keys.{key_at}

-- the bucket of a head
abbrev pub bucket_of : ℕ → ℕ
bucket_of head = head % 1_021

-- entry k lies in this bucket
abbrev pub in_bucket : List Key → ℕ → ℕ → Bool
in_bucket keys b k = eqb (bucket_of (key_at keys k).head) b

-- two keys are the same
abbrev pub same_key : Key → Key → Bool
same_key a b = eqb a.head b.head && eqb a.tail b.tail

-- entry k lies in entry j's bucket, and has another key
abbrev pub follows : List Key → ℕ → ℕ → Bool
follows keys j k = in_bucket keys (bucket_of (key_at keys j).head) k && not (same_key (key_at keys j) (key_at keys k))

-- the lowest of the numbers from a place on, below m, that passes the test
abbrev pub lowest_from : (ℕ → Bool) → ℕ → ℕ → Option ℕ
lowest_from p from m = first_where p (m - from) from

-- The links of the entries from a place on: for each bucket its lowest entry, and for each entry the next one that
-- follows it.
pub record Linked (keys : List Key) (m from : ℕ) (buckets followers : List (Option ℕ)) : Type 0 where
  pub bucket_count : length buckets ≡ 1_021
  pub follower_count : length followers ≡ 1_000
  pub starts : (b : ℕ) → b < 1_021 → get_or buckets b None ≡ lowest_from (in_bucket keys b) from m
  pub nexts : (j : ℕ) → from ≤ j → j < m → get_or followers j None ≡ lowest_from (follows keys j) (suc j) m

-- what follows entry j, given the next one of its bucket: that one, or where its key is the same what follows it
abbrev pub follower_of : List Key → List (Option ℕ) → ℕ → Option ℕ → Option ℕ
follower_of keys followers j None = None
follower_of keys followers j (Some k) = cond (same_key (key_at keys j) (key_at keys k)) (get_or followers k None) (Some k)
