-- The next account goes to the front of the buffer, behind those that are there, if a slip waits at it.
use Rattle.std.proofs.Common.{is_some, ap, sym, ◌∙◌, arith}
use Rattle.layout.proofs.Blocks.{entries_length}
use Rattle.listing.proofs.Waiters.{listed_same, listed_more, listed_all}
use Rattle.listing.proofs.list_waiting.Goals as goal
use Rattle.listing.proofs.list_waiting.Goals.{then-is_some, else-is_some}

pub loop-i-preserved : goal.loop-i-preserved
loop-i-preserved c =
    let so_far = c.loop-i.invariant in
    let found = sym (c.is_some.ensures ∙ ap is_some c.pending_of.ensures) in
    elim c.if-is_some.branch [
      | then-is_some w ↦
          rw (w.n-is, w.buffer-is) (listed_more _ _ _ _ _ so_far (found ∙ w.if-is_some.true) (omega arith))
      | else-is_some w ↦ rw (w.n-is, w.buffer-is) (listed_same _ _ _ _ _ so_far (found ∙ w.if-is_some.false))
    ]

pub returns : goal.returns
returns c = listed_all _ _ _ _ _ c.loop-i.invariant (omega (arith, entries_length c.args.words.now)) (omega arith)
