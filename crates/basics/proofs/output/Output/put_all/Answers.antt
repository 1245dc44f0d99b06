-- The turn writes one byte, or the buffer is full.
use Rattle.std.proofs.Common.{◌+◌, [], ◌∷◌, get_or, drop, rules}
use Rattle.basics.specs.Outputs.{Appends}
use Rattle.std.proofs.lemmas.List.{drop_more}
use Rattle.basics.proofs.Writing.{pieces_more}
use Rattle.basics.proofs.output.Output.put_all.Goals as goal
use Rattle.basics.proofs.output.Output.put_all.Goals.{then-filled-self, else-filled-self}

pub loop-b-preserved : goal.loop-b-preserved
loop-b-preserved c =
    let bytes = c.args.bytes.now in
    let i = c.loop-b.b-index in
    let before = record c.loop-b.self { filled = c.loop-b.filled } in
    let after = record c.if-filled-self.self { filled = c.if-filled-self.filled } in
    let byte : Appends before (get_or bytes i 0 ∷ []) 1 after =
    elim c.if-filled-self.branch [ then-filled-self w ↦ search rules | else-filled-self w ↦ search rules ] in
    pieces_more (get_or bytes i 0 ∷ []) (drop (i + 1) bytes) (rw (drop_more bytes i 0 c.loop-b-test.true) at c.loop-b.invariant) byte
