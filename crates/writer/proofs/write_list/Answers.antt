-- The bundle fits, and is written.
use Rattle.std.proofs.Common.{length, rules}
use Rattle.writer.proofs.Bundling.{all_appended}
use Rattle.writer.proofs.write_list.Goals as goal

pub returns : goal.returns
returns c =
    let size = c.size-size.ensures in
    let few = c.if-messages-gt-MOST_MESSAGES.false in
    let room = rw size at c.if-out-size.false in
    rw size (all_appended (length c.args.messages.now) few room c.new-2.ensures.content c.put.ensures (search rules))
