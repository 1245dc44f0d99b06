-- The turn stores the word that the bytes hold at `i`.
use Rattle.std.proofs.Common.{arith, sym, ◌∙◌}
use Rattle.basics.proofs.Filling.{filled_none, filled_more, filled_all}
use Rattle.saving.proofs.RoundTrips.{saved_count, saved_at}
use Rattle.saving.proofs.take_words.Goals as goal

pub loop-i-init : goal.loop-i-init
loop-i-init c = filled_none (omega (arith, saved_count c.args.bytes.now))

pub loop-i-preserved : goal.loop-i-preserved
loop-i-preserved c =
    let bytes = c.args.bytes.now in
    filled_more c.loop-i.invariant _ 0 (omega (arith, saved_count bytes)) (c.number4_at.ensures ∙ sym (saved_at bytes c.loop-i.i (omega arith)))

pub returns : goal.returns
returns c = filled_all c.loop-i.invariant (omega (arith, saved_count c.args.bytes.now))
