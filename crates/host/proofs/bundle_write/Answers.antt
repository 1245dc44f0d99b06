-- The page that is written is the one that was read.
use Rattle.host.proofs.bundle_write.Goals as goal

pub returns : goal.returns
returns c =
    record {
      reply = c.write_records.result;
      wrote = rw c.opening_of.ensures at c.write_records.ensures;
      told = c.number_of_bundle.ensures;
    }
