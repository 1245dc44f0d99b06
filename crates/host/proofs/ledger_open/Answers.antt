-- The refusal is told by its code.
use Rattle.host.proofs.Handed.{told_refused}
use Rattle.host.proofs.ledger_open.Goals as goal

pub returns-in-Err : goal.returns-in-Err
returns-in-Err c = told_refused c.open_handed.ensures c.in-Err.is c.from.ensures
