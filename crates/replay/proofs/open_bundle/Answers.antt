-- A sound bundle's page 0 is read as an opening page, and opened, or refused.
use Rattle.std.proofs.Common.{sym, ap, ◌∙◌, rules}
use Rattle.model.specs.Bundles.{opening_of}
use Rattle.replay.proofs.Sound.{opens_book}
use Rattle.replay.proofs.open_bundle.Goals as goal

pub returns : goal.returns
returns c =
    opens_book c.args.bytes.now (sym c.check.ensures.meets ∙ c.in_ok-check.was)
    (c.opening_of.ensures ∙ ap opening_of c.opening_body.ensures)
    c.«open».ensures.opens
    (search rules)
