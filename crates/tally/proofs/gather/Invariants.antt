-- The invariant: the tally is that of the seats before `p`, and at the end the whole one.
use Rattle.layout.specs.Layout.{entry_in}
use Rattle.tally.specs.Results.{at_next}
use Rattle.tally.proofs.Gathered.{SoFar}
use Rattle.tally.proofs.gather.Given as goal

abbrev pub invariant-loop-p : goal.invariant-loop-p
invariant-loop-p l = let e = entry_in l.words l.t.account in SoFar (at_next e l.t) e.acks l.p l.tally
