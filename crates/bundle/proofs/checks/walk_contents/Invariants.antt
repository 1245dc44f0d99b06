-- The loop's invariant: `start` is where the body of entry `i` starts, low enough that the next one fits,
-- and no entry before it is wrong.
use Rattle.std.proofs.Common.{◌≡◌, ℕ, ◌+◌, ◌*◌, ◌≤◌, List}
use Rattle.model.specs.Bundles.{entry_count, start_at}
use Rattle.basics.proofs.Counting.{Searched}
use Rattle.bundle.proofs.Longest.{wrong_at}
use Rattle.bundle.proofs.checks.walk_contents.Given as goal

-- the walk has come to entry i, whose body is to start at start
pub record Walked (bytes : List ℕ) (start i : ℕ) : Type 0 where
  pub low : start ≤ 2 + 8 * entry_count bytes + 131 * i
  pub starts : start ≡ start_at bytes i
  pub searched : Searched (wrong_at bytes) (entry_count bytes) i

abbrev pub invariant-loop-i : goal.invariant-loop-i
invariant-loop-i l = Walked l.bytes l.start l.i
