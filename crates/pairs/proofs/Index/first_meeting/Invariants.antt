-- The loop's invariant: a walk along the links of the key's bucket has come to `next`.
use Rattle.model.specs.Bundles.{entry_count}
use Rattle.pairs.proofs.Linking.{Walks, left_at}
use Rattle.pairs.proofs.Index.first_meeting.Given as goal

abbrev pub invariant-loop-next : goal.invariant-loop-next
invariant-loop-next l = Walks l.self.keys.now (entry_count l.self.bundle.now) l.key l.next

abbrev pub decreases-loop-next : goal.decreases-loop-next
decreases-loop-next l = left_at (entry_count l.self.bundle.now) l.next
