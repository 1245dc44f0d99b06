-- The account, the two numbers, the recipient.
use Rattle.std.proofs.Common.{arith}
use Rattle.writer.proofs.Numbers.{number_bytes_4}
use Rattle.writer.proofs.bodies.put_transfer.Goals as goal

pub returns : goal.returns
returns g c =
    let then = g.met.S.Sink.then in
    let number = rw (c.to_le_bytes.ensures, number_bytes_4) at c.put_all-2.ensures in
    let value = rw (c.to_le_bytes-2.ensures, number_bytes_4) at c.put_all-3.ensures in
    (then _ _ _ _ _ c.put_all.ensures (then _ _ _ _ _ number (then _ _ _ _ _ value c.put_all-4.ensures)), omega arith)
