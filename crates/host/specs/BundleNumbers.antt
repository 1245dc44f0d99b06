-- The check and the writer of bundles, each told as one number.
use Rattle.std.specs.Prelude.{ℕ, ◌+◌, ◌*◌, ◌≡◌, List, Ok, Err}
use Rattle.model.specs.Types.{BundleReply}
use Rattle.model.specs.Replies.{code_of}
use Rattle.model.specs.Bundles.{opening_of}
use Rattle.writer.specs.Promises.{WroteRecords}

-- how many entries a sound bundle has, which is at most 1,000, or how long a bundle is that is written, which is at
-- most 18,123 (`short` in what the writer promises); or the refusal and its entry: 65,536 times the code, and the entry
abbrev pub number_of_bundle : BundleReply → ℕ
number_of_bundle (Ok n) = n
number_of_bundle (Err e) = 65_536 * code_of e.refusal + e.entry

-- A page's bytes and records of messages: the number of a reply that is right, and the buffer after it.
pub record ToldWriting (page records before : List ℕ) (r : ℕ) (after : List ℕ) : Type 0 where
  pub reply : BundleReply
  pub wrote : WroteRecords (opening_of page) records before reply after
  pub told : r ≡ number_of_bundle reply
