-- The loop over the accounts keeps `ClosedTo`.
use Rattle.layout.specs.Layout.{ledger_in}
use Rattle.replay.proofs.Closing.{ClosedTo}
use Rattle.replay.proofs.put_closing.Given as goal

abbrev pub invariant-loop-a : goal.invariant-loop-a
invariant-loop-a l = ClosedTo (ledger_in l.words) l.initial.out l.a l.out
