-- The first so many messages, or all of them, are a list.
use Rattle.writer.proofs.Bundling.{first_written}
use Rattle.writer.proofs.write.Goals as goal

pub returns-else-count-gt-MOST_MESSAGES : goal.returns-else-count-gt-MOST_MESSAGES
returns-else-count-gt-MOST_MESSAGES c =
    let few = c.if-count-gt-MOST_MESSAGES.false in
    let list = rw c.min-first.ensures at c.write_list.ensures in
    first_written c.args.page c.args.messages.now c.args.count few list
