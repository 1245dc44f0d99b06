-- The loop's invariant: no entry of the first before `i` has a partner.
use Rattle.std.proofs.Common.{◌≡◌, ℕ, ◌<◌, None}
use Rattle.model.specs.Joins.{partner_of}
use Rattle.pairs.proofs.earliest_pair.Given as goal

abbrev pub invariant-loop-i : goal.invariant-loop-i
invariant-loop-i l = (k : ℕ) → k < l.i → partner_of l.first l.second k ≡ None
