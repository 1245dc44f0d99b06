-- The opening decides: the text of the book's entries and accounts, or the line of the refusal.
use Rattle.replay.proofs.Telling.{few_opened, told_opened, told_refused}
use Rattle.replay.proofs.put_text.Goals as goal

pub play-requires : goal.play-requires
play-requires c = few_opened c.args.bytes.now c.open_bundle.ensures c.in-Ok.is

pub returns-in-Ok : goal.returns-in-Ok
returns-in-Ok c = told_opened c.args.bytes.now c.open_bundle.ensures c.in-Ok.is c.play.ensures c.put_closing.ensures

pub returns-in-Err : goal.returns-in-Err
returns-in-Err c = told_refused c.args.bytes.now c.open_bundle.ensures c.in-Err.is c.from.ensures c.put_refusal.ensures
