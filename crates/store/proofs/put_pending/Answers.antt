-- Three words, one after another, are the slip that waits.
use Rattle.std.proofs.Common.{arith}
use Rattle.store.proofs.Storing.{pending_stored}
use Rattle.store.proofs.put_pending.Goals as goal

pub returns : goal.returns
returns c = pending_stored _ _ c.args.t (omega arith) _ _ c.put_word.ensures c.put_word-2.ensures c.put_word-3.ensures
