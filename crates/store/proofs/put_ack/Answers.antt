-- Two words, one after another, are the seat's ack: its number is the account's next.
use Rattle.std.proofs.Common.{arith}
use Rattle.store.proofs.Storing.{ack_stored}
use Rattle.store.proofs.put_ack.Goals as goal

pub returns : goal.returns
returns c = ack_stored _ _ c.args.t (omega arith) c.args.s _ (omega arith) c.put_word.ensures c.put_word-2.ensures
