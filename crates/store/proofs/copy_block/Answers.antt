-- One word more is the held book's.
use Rattle.std.proofs.Common.{◌≡◌, arith, refl}
use Rattle.layout.specs.Layout.{held_block_words}
use Rattle.store.proofs.Taking.{nothing_copied, one_copied, held_word}
use Rattle.store.proofs.copy_block.Goals as goal

pub loop-at-init : goal.loop-at-init
loop-at-init c = nothing_copied _ _ _

pub loop-at-preserved : goal.loop-at-preserved
loop-at-preserved c =
    one_copied _ _ _ _ c.loop-at.at _ _ (held_word c.args.held.now c.args.a.0 c.loop-at.at _ (omega arith) refl)
    c.loop-at.invariant (c.put_word.ensures.inside (omega arith))

pub returns-after-loop-at : goal.returns-after-loop-at
returns-after-loop-at c =
    let all : c.loop-at.at ≡ held_block_words = omega arith in
    record { inside = λ l. rw all at c.loop-at.invariant; behind = λ l. absurd (omega arith) }
