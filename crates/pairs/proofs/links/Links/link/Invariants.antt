-- The loop's invariant: the links of the entries from `j` on stand.
use Rattle.pairs.specs.Links.{Linked}
use Rattle.pairs.proofs.links.Links.link.Given as goal

abbrev pub invariant-loop-j : goal.invariant-loop-j
invariant-loop-j l = Linked l.keys l.m l.j l.self.buckets l.self.followers
