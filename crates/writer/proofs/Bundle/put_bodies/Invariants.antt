-- The loop writes one body after another.
use Rattle.writer.proofs.Turns.{Bodied}
use Rattle.writer.proofs.Bundle.put_bodies.Given as goal

abbrev pub invariant-loop-m : goal.invariant-loop-m
invariant-loop-m l = Bodied l.self.messages.now l.initial.out l.m-index l.out
