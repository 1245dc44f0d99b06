-- A letter, two values, and the end of the line.
use Rattle.std.proofs.Common.{[], ◌∷◌}
use Rattle.text.proofs.Carrying.{carries, carry, line}
use Rattle.text.proofs.lines.put_refusal.Goals as goal

pub returns : goal.returns
returns c =
    line
    c.put.ensures
    (carry (carries (_ ∷ []) c.put_value.ensures) (carries (_ ∷ []) c.put_value-2.ensures))
    c.put-2.ensures
