-- The turn writes one message's entry, and goes on where its body ends.
use Rattle.writer.proofs.Turns.{entered_more}
use Rattle.writer.proofs.Bundle.put_entries.Goals as goal

pub loop-m-preserved : goal.loop-m-preserved
loop-m-preserved c =
    let entry = rw c.message_entry.ensures at c.put_entry.ensures in
    let messages = c.args.self.now.messages.now in
    let size = c.message_length-start.ensures in
    entered_more messages c.loop-m.m-index _ c.loop-m-test.true c.loop-m.invariant size entry
