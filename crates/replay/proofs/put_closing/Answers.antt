-- The loop over the accounts keeps `ClosedTo`.
use native.Mathlib.Omega.{arith}
use Rattle.layout.proofs.Ranges.{accounts_fit}
use Rattle.replay.proofs.Closing.{closed_more, closed_all}
use Rattle.replay.proofs.put_closing.Goals as goal

pub loop-a-preserved : goal.loop-a-preserved
loop-a-preserved c =
    closed_more _ _ c.loop-a.invariant c.balance_of.ensures c.current_of.ensures (omega (arith, c.accounts_of-a-end.ensures)) (accounts_fit c.args.words.now)
    c.put_account.ensures

pub returns : goal.returns
returns c =
    let few = accounts_fit c.args.words.now in
    closed_all _ _ c.loop-a.invariant (omega (arith, c.accounts_of-a-end.ensures)) (omega (arith, c.accounts_of-a-end.ensures, few))
