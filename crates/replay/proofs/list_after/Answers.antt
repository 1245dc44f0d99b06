-- The opening decides: the list of its book behind the entries, or its refusal.
use Rattle.replay.proofs.Listing.{list_opened, list_refused}
use Rattle.replay.proofs.Telling.{few_opened}
use Rattle.replay.proofs.list_after.Goals as goal

pub play-requires : goal.play-requires
play-requires c = few_opened c.args.bytes.now c.open_bundle.ensures c.in-Ok.is

pub returns-in-Ok : goal.returns-in-Ok
returns-in-Ok c = list_opened c.args.bytes.now _ c.open_bundle.ensures c.in-Ok.is c.play.ensures c.list_waiting.ensures

pub returns-in-Err : goal.returns-in-Err
returns-in-Err c = list_refused c.args.bytes.now _ c.open_bundle.ensures c.in-Err.is
