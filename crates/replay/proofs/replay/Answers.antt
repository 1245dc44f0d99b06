-- The buffer is as long as the longest text.
use native.Mathlib.Omega.{arith}
use Rattle.replay.proofs.Telling.{replayed}
use Rattle.replay.proofs.replay.Goals as goal

pub returns : goal.returns
returns c = replayed c.new-text.ensures.content.0 c.new-text.ensures.content.1 (omega arith) c.put_text.ensures
