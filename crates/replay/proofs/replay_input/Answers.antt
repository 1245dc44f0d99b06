-- What was read is replayed: the buffer's front, or the whole of it. The buffer holds one byte
-- more than the longest bundle has.
use Prim.Native.Nat.{◌<◌}
use native.Mathlib.Omega.{arith}
use lib.ListN.{length}
use Rattle.bundle.specs.Promises.{longest}
use Rattle.replay.proofs.Fronts.{text_of_input, first_of_input}
use Rattle.replay.proofs.replay_input.Goals as goal

pub returns : goal.returns
returns c =
    let input = c.args.input.now in
    let read = c.args.read in
    let holds_more : longest < length input = omega arith in
    text_of_input input read c.min.result holds_more (first_of_input input read c.min.result (omega arith) c.min.ensures) c.replay.ensures
