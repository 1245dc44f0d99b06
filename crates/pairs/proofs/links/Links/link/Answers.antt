-- Each turn links one entry more, before those that are linked.
use Rattle.std.proofs.Common.{◌≡◌, suc, ◌-◌, arith, sym}
use Rattle.pairs.proofs.Linking.{linked_none, linked_more, lowest_small}
use Rattle.pairs.specs.Links.{in_bucket}
use Rattle.pairs.proofs.links.Links.link.Goals as goal

pub loop-j-init : goal.loop-j-init
loop-j-init c = linked_none _ _ _ (omega arith)

pub follower-requires-clause-next_bound : goal.follower-requires-clause-next_bound
follower-requires-clause-next_bound c =
    lowest_small (in_bucket c.args.keys.now c.bucket_of-bucket.result) c.args.m c.loop-j.j c.requires _ (c.loop-j.invariant.starts _ (omega arith))

pub loop-j-preserved : goal.loop-j-preserved
loop-j-preserved c =
    let last : suc (c.loop-j.j - 1) ≡ c.loop-j.j = omega arith in
    let so_far = rw (sym last) at c.loop-j.invariant in
    rw (c.follower.ensures, c.bucket_of-bucket.ensures, c.from.ensures, c.from-in-loop-j.ensures)
    (linked_more c.args.keys.now c.args.m c.requires c.loop-j.self.buckets c.loop-j.self.followers (c.loop-j.j - 1) so_far (omega arith))
