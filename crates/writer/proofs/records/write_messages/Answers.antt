-- The first so many of the array are the records' messages.
use Rattle.writer.proofs.Recording.{list_written}
use Rattle.writer.proofs.records.write_messages.Goals as goal

pub returns : goal.returns
returns c = list_written c.args.page c.args.records.now _ c.messages_in.ensures c.write.ensures
