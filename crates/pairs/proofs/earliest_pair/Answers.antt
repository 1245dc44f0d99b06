-- The first entry that has a partner makes the earliest pair.
use Rattle.std.proofs.Common.{sym, arith}
use Rattle.pairs.proofs.Partners.{pair_at, none_at}
use Rattle.pairs.proofs.earliest_pair.Goals as goal

pub returns-in-Some : goal.returns-in-Some
returns-in-Some c = sym (pair_at c.args.first.now c.args.second.now c.loop-i.i (omega (arith, c.entry_count-i-end.ensures)) c.loop-i.invariant cc)

pub returns : goal.returns
returns c = sym (none_at c.args.first.now c.args.second.now (λ k inside. c.loop-i.invariant k (omega (arith, c.entry_count-i-end.ensures))))
