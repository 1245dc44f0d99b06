-- The words before `i` are those that the bytes hold.
use Rattle.basics.proofs.Filling.{Filled}
use Rattle.saving.specs.Saved.{words_saved}
use Rattle.saving.proofs.take_words.Given as goal

abbrev pub invariant-loop-i : goal.invariant-loop-i
invariant-loop-i l = Filled (words_saved l.bytes) l.words l.i
