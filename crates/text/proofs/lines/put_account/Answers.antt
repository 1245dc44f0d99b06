-- A letter, three values, the first of them with its own length as the bound, and the end of the line.
use Rattle.std.proofs.Common.{arith, [], ◌∷◌}
use native.Mathlib.Nat.{le_refl}
use Rattle.basics.proofs.Writing.{within}
use Rattle.text.proofs.Carrying.{carries, carry, narrow, line}
use Rattle.text.proofs.lines.put_account.Goals as goal

pub returns : goal.returns
returns c =
    within
    (omega arith)
    (line
    c.put.ensures
    (carry
    (narrow _ c.put_value.ensures (le_refl _))
    (carry (carries (_ ∷ []) c.put_value-2.ensures) (carries (_ ∷ []) c.put_value-3.ensures)))
    c.put-2.ensures)
