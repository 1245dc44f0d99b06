-- Mark, format and words, one behind another.
use Rattle.std.proofs.Common.{arith}
use Rattle.basics.proofs.Writing.{bounded, then}
use Rattle.saving.proofs.RoundTrips.{summed_length}
use Rattle.saving.proofs.put_summed.Goals as goal

pub returns : goal.returns
returns c =
    let mark = rw c.to_le_bytes.ensures at c.put_all.ensures in
    let format = rw c.to_le_bytes-2.ensures at c.put_all-2.ensures in
    let size = summed_length c.args.words.now (omega arith) in
    bounded (then mark (then format c.put_words.ensures.0)) (omega (arith, size))
