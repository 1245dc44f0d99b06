-- Each turn opens one account.
use Rattle.std.proofs.Common.{arith}
use Rattle.opening.proofs.Fresh.{none_fresh, one_fresh}
use Rattle.opening.proofs.put_entries.Goals as goal

pub loop-i-init : goal.loop-i-init
loop-i-init c = none_fresh _ c.args.balances.now (omega arith)

pub loop-i-preserved : goal.loop-i-preserved
loop-i-preserved c =
    one_fresh _ c.args.balances.now (omega arith) _ c.loop-i.i c.loop-i.invariant _ (omega arith) (omega arith)
    c.put_fresh.ensures
