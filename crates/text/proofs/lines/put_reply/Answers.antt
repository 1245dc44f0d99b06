-- The entry with its own length as the bound, a space, and the rest of the line.
use Rattle.std.proofs.Common.{arith}
use native.Mathlib.Nat.{le_refl}
use Rattle.model.specs.Replies.{values_of}
use Rattle.basics.proofs.Writing.{bounded, then, within}
use Rattle.text.proofs.Carrying.{carries, line}
use Rattle.text.proofs.lines.put_reply.Goals as goal

pub returns : goal.returns
returns c =
    let said = rw c.letter.ensures at c.put-2.ensures in
    let carrying = carries (values_of c.args.r) c.put_carried.ensures in
    let rest = line said carrying c.put-3.ensures in
    within (omega arith) (then (bounded c.put_decimal.ensures (le_refl _)) (then c.put.ensures rest))
