-- The words of the part are 0.
use Rattle.std.proofs.Common.{arith}
use Rattle.store.proofs.Clearing.{part_cleared}
use Rattle.store.proofs.clear.Goals as goal

pub returns-then-account-lt-BLOCKS : goal.returns-then-account-lt-BLOCKS
returns-then-account-lt-BLOCKS c =
    record {
      inside =
          λ l.
          part_cleared _ _ c.args.a.0 c.args.from c.args.to _ _ (omega arith) l (omega arith) (omega arith) (omega arith)
          (c.fill.ensures.after (λ y e. e));
      behind = λ l. absurd (omega arith);
    }
