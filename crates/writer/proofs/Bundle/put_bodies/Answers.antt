-- The turn writes one message's body.
use Rattle.writer.proofs.Turns.{bodied_more}
use Rattle.writer.proofs.Bundle.put_bodies.Goals as goal

pub loop-m-preserved : goal.loop-m-preserved
loop-m-preserved c =
    bodied_more c.args.self.now.messages.now c.loop-m.m-index _ c.loop-m-test.true c.loop-m.invariant c.put_message.ensures.0
