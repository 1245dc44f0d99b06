-- The loop's invariant: the entries before `j` have their keys.
use Rattle.std.proofs.Common.{◌≡◌, ℕ, ◌<◌, length}
use Rattle.model.specs.Bundles.{page_at}
use Rattle.pairs.specs.Keys.{page_key, key_at}
use Rattle.pairs.proofs.keys.store_keys.Given as goal

abbrev pub invariant-loop-j : goal.invariant-loop-j
invariant-loop-j l = record { count : length l.keys ≡ 1_000; each : (k : ℕ) → k < l.j → key_at l.keys k ≡ page_key (page_at l.bytes k) }
