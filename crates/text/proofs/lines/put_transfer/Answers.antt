-- The four values behind one another; an account has at most three digits.
use Rattle.std.proofs.Common.{arith, [], ◌∷◌}
use Rattle.text.proofs.Carrying.{carries, carry, narrow}
use Rattle.text.proofs.Decimals.{three_digits}
use Rattle.text.proofs.lines.put_transfer.Goals as goal

pub returns : goal.returns
returns c =
    let t = c.args.t in
    (carry
    (narrow t.account.0 c.put_value.ensures (three_digits _ (omega arith)))
    (carry
    (carries (t.number ∷ []) c.put_value-2.ensures)
    (carry
    (carries (t.value ∷ []) c.put_value-3.ensures)
    (narrow t.recipient.0 c.put_value-4.ensures (three_digits _ (omega arith)))))
    ).writes
