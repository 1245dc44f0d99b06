-- A page of another length is refused; else the answer is that of the page that was read.
use Rattle.host.proofs.Handed.{handed_opened}
use Rattle.host.proofs.open_handed.Goals as goal

pub returns : goal.returns
returns c =
    handed_opened c.args.words.now c.args.page.now _ c.check_handed.ensures c.in_ok-check_handed.was _ _ _ c.opening_of.ensures
    c.«open».ensures
