-- Four words, one after another, are the retained slip, with the mark of its number.
use Rattle.std.proofs.Common.{arith}
use Rattle.store.proofs.Storing.{retained_stored}
use Rattle.store.proofs.put_retained.Goals as goal

pub returns : goal.returns
returns c =
    retained_stored _ _ c.args.t (omega arith) _ _ _ _ c.word-proposed.ensures
    c.put_word.ensures c.put_word-2.ensures c.put_word-3.ensures c.put_word-4.ensures
