-- Kind, seat, start and sum.
use Rattle.basics.proofs.Writing.{then}
use Rattle.writer.proofs.Numbers.{number_bytes_2, number_bytes_4}
use Rattle.writer.proofs.contents.put_entry.Goals as goal

pub returns : goal.returns
returns c =
    let start = rw (c.to_le_bytes.ensures, number_bytes_2) at c.put_all.ensures in
    let sum = rw (c.to_le_bytes-2.ensures, number_bytes_4) at c.put_all-2.ensures in
    then c.put.ensures (then c.put-2.ensures (then start sum))
