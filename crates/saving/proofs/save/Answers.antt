-- All that is summed, and then the sum.
use Rattle.std.proofs.Common.{ap, arith, length}
use Rattle.basics.proofs.Writing.{same_length}
use Rattle.writer.proofs.Numbers.{number_bytes_4}
use Rattle.saving.proofs.Filling.{all_saved}
use Rattle.saving.proofs.save.Goals as goal

pub sum_of-sum-requires : goal.sum_of-sum-requires
sum_of-sum-requires c =
    omega (arith, same_length c.put_summed.ensures.writes, ap length c.new-output.ensures.content.0)

pub returns : goal.returns
returns c =
    let empty = c.new-output.ensures.content in
    let last = rw (c.to_le_bytes.ensures, number_bytes_4) at c.put_all.ensures in
    all_saved c.args.words.now c.args.out.now (omega arith) (omega arith) empty c.put_summed.ensures c.sum_of-sum.ensures last
