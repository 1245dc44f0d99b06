-- Below ten it is one digit; else the last digit is written behind those of the tenth part.
use Rattle.std.proofs.Common.{arith, sym}
use Rattle.basics.proofs.Writing.{bounded, instead, then, within}
use Rattle.text.proofs.Decimals.{one_digit, more_digits, ten_digits}
use Rattle.text.proofs.output.+put_decimal.Goals as goal

pub returns-then-n-lt10 : goal.returns-then-n-lt10
returns-then-n-lt10 t c = within (omega arith) (instead c.put.ensures (sym (one_digit _ c.if-n-lt10.true)))

pub returns-else-n-lt10 : goal.returns-else-n-lt10
returns-else-n-lt10 t c =
    let both = then c.put_decimal.ensures c.put-else-n-lt10.ensures in
    bounded (instead both (sym (more_digits _ c.if-n-lt10.false))) (ten_digits _ (omega arith))
