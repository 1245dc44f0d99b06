-- The loop writes one entry after another, and knows where the next body starts.
use Rattle.writer.proofs.Turns.{Entered}
use Rattle.writer.proofs.Bundle.put_entries.Given as goal

abbrev pub invariant-loop-m : goal.invariant-loop-m
invariant-loop-m l = Entered l.self.messages.now l.initial.out l.m-index l.start l.out
