-- The found body is read from the bundle and the entry that the answer names.
use Rattle.evidence.proofs.Joining.{pair_shown}
use Rattle.evidence.proofs.shown.Goals as goal

pub returns : goal.returns
returns c =
    pair_shown c.args.first.now c.args.second.now c.in-Ok-Some.pair c.in-Ok-Some.is (rw c.in-Ok-Some.is at c.in-Ok-Some.field-0-is)
    c.bundle_named-held.ensures c.entry_named.ensures c.contents_at.ensures c.body.ensures
