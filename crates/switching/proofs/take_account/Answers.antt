-- The held entry is taken; then what waits in it is retained.
use Rattle.switching.proofs.Accounts.{slip_waits}
use Rattle.switching.proofs.take_account.Goals as goal

pub returns-in-Some : goal.returns-in-Some
returns-in-Some c =
    slip_waits _ _ _ c.args.a _ c.take_entry.ensures c.in-Some.t c.in-Some.ensures c.put_retained.ensures
