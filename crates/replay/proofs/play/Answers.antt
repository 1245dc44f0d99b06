-- The loop over the entries keeps `PlayedTo`, of the ledger that the words are.
use mathlib.Core.Path.{sym, ◌∙◌}
use Rattle.bundle.proofs.Reading.{took}
use Rattle.replay.proofs.Playing.{entry_none, entry_some, played_more}
use Rattle.replay.proofs.play.Goals as goal

pub loop-c-preserved-in-Some-message_of : goal.loop-c-preserved-in-Some-message_of
loop-c-preserved-in-Some-message_of c =
    let page = took _ c.loop-c.cursor.next c.read_page-read.ensures c.in-Some.is in
    played_more _ _ _ c.loop-c.invariant _ page c.requires
    (entry_some (sym c.message_of.ensures ∙ c.in-Some-message_of.is) c.call.ensures.reply c.call.ensures.ledger c.put_reply.ensures)

pub loop-c-preserved : goal.loop-c-preserved
loop-c-preserved c =
    let page = took _ c.loop-c.cursor.next c.read_page-read.ensures c.in-Some.is in
    played_more _ _ _ c.loop-c.invariant _ page c.requires (entry_none (sym c.message_of.ensures ∙ c.in_default-message_of.is))
