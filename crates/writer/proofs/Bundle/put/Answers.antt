-- Each part is written behind the one before it.
use Rattle.writer.proofs.Numbers.{number_bytes_2}
use Rattle.writer.proofs.Bundling.{bundled}
use Rattle.writer.proofs.Bundle.put.Goals as goal

pub returns : goal.returns
returns c =
    let self = c.args.self.now in
    let m = rw (c.to_le_bytes.ensures, number_bytes_2) at c.put_all.ensures in
    let first = rw (c.opening_entry.ensures, c.contents_end.ensures) at c.put_entry.ensures in
    bundled self.page self.messages.now self.balances self.few
    m first c.put_entries.ensures c.put_opening.ensures.0 c.put_bodies.ensures
