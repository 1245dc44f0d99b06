-- The invariant: the first `at` words of the block are the held book's, and all else is as it was.
use Rattle.layout.specs.Layout.{block, held_block}
use Rattle.layout.specs.Blocks.{Changes}
use Rattle.store.specs.Stores.{copied}
use Rattle.store.proofs.copy_block.Given as goal

abbrev pub invariant-loop-at : goal.invariant-loop-at
invariant-loop-at l =
    Changes l.initial.words l.a.0 (copied (held_block l.held l.a.0) (block l.initial.words l.a.0) l.at) l.words
