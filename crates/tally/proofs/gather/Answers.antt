-- The invariant: `y` is the tally of the seats before `p`, and at the end the whole one.
use Rattle.std.specs.Prelude.{is_some}
use native.Mathlib.Omega.{arith}
use mathlib.Core.Path.{◌≡◌, ap, sym, ◌∙◌}
use Rattle.model.specs.Records.{seat_of}
use Rattle.model.specs.Acks.{ack_at, holds}
use Rattle.layout.specs.Layout.{entry_in}
use Rattle.layout.proofs.Entries.{acks_length}
use Rattle.store.proofs.Reading.{full_numbered, ack_holds}
use Rattle.tally.specs.Results.{counted, at_next}
use Rattle.tally.proofs.Nexts.{tally_next}
use Rattle.tally.proofs.Gathered.{tally_exactly, counted_none, gathers_few, gathers_more, gathers_all}
use Rattle.tally.proofs.gather.Goals as goal
use Rattle.tally.proofs.gather.Goals.{then-is_some, else-is_some}

pub count-requires : goal.count-requires
count-requires c =
    let few = gathers_few _ _ c.loop-p.p c.loop-p.tally c.loop-p.invariant in
    (omega (arith, few.0), omega (arith, few.1))

pub loop-p-preserved : goal.loop-p-preserved
loop-p-preserved c =
    let loop = c.loop-p in
    let t = c.args.t in
    let ws = c.args.words.now in
    let e = entry_in ws t.account in
    let s = c.ack_from-s.result in
    let seat = seat_of loop.p in
    let next : c.if-is_some.tally ≡ counted loop.tally t seat s =
    elim c.if-is_some.branch [
      | then-is_some w ↦ w.tally-is ∙ w.count.ensures
      | else-is_some w ↦ w.tally-is ∙ counted_none loop.tally t seat s (sym c.is_some.ensures ∙ w.if-is_some.false)
    ] in
    gathers_more (at_next e t) e.acks loop.p loop.tally loop.invariant t s c.if-is_some.tally (omega arith)
    (omega (arith, acks_length ws t.account))
    (ap (holds t) c.ack_from-s.ensures ∙ ack_holds ws t.account seat t)
    (ap is_some c.ack_from-s.ensures ∙ full_numbered t.number (ack_at e.acks loop.p))
    next

pub returns : goal.returns
returns c =
    let loop = c.loop-p in
    let t = c.args.t in
    let e = entry_in c.args.words.now t.account in
    let whole = gathers_all (at_next e t) e.acks loop.p loop.tally loop.invariant (omega (arith, acks_length c.args.words.now t.account)) in
    record { tally = whole; exactly = λ next. tally_exactly t e.acks loop.tally (tally_next e t loop.tally next whole) }
