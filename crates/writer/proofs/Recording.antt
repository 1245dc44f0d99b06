-- Records: the pieces that a list of records is cut into, and what the writer promises for each outcome.
use Rattle.std.specs.Prelude.{Option, Some, None, map, cond, Bool}
use Rattle.std.specs.List.{position, position_from}
use Rattle.std.proofs.lemmas.Iterator.Adapters.{position_from-zero}
use Rattle.std.specs.Simd.{first_chunks}
use Prim.Native.Nat.{ℕ, zero, suc, ◌+◌, ◌*◌, ◌%◌, ◌≤◌}
use native.Mathlib.Numerals.{add-one}
use native.Mathlib.Omega.{arith}
use borrow.Author.Tests.{le-ltb}
use mathlib.Core.Path.{◌≡◌, refl, ap, ◌∙◌}
use mathlib.Core.Bool.{true, false}
use lib.Dec.{eqb}
use mathlib.Core.List.{List, ◌∷◌}
use lib.ListN.{length, drop, take, length-map}
use lib.Seq.{drop-drop}
use Rattle.model.specs.declared.Opening.{Opening}
use Rattle.model.specs.declared.Message.{Message}
use Rattle.model.specs.Types.{BundleReply, refused_at}
use Rattle.model.specs.declared.Refusal.TheVariants.{BadContents, BadEnd}
use Rattle.model.specs.Basics.{first_where}
use Rattle.model.specs.Bundles.{wrong_page}
use Rattle.model.specs.Writing.{written, write_faults}
use Rattle.writer.specs.Promises.{WroteAll, WroteBundle, WroteList, WroteRecords}
use Rattle.writer.specs.RecordLists.{page_in, record_message, record_count, wrong_record, first_wrong, message_in, messages_from, messages_of, record_faults}
use Rattle.writer.proofs.Bundling.{wrote, refused}

-- a record that is wrong, by its bytes
abbrev pub wrong_bytes : List ℕ → Bool
wrong_bytes bytes = wrong_page 1 (page_in bytes)

module _ (records : List ℕ) where
  -- so many records from the i-th on
  abbrev pieces : ℕ → ℕ → List (List ℕ)
  pieces left i = first_chunks 12 left (drop (12 * i) records)

  next_pieces : (left i : ℕ) → first_chunks 12 left (drop 12 (drop (12 * i) records)) ≡ pieces left (suc i)
  next_pieces left i =
      let next : 12 * i + 12 ≡ 12 * suc i = omega arith in
      ap (first_chunks 12 left) (drop-drop 12 (12 * i) records ∙ ap (λ (at : ℕ). drop at records) next)

  -- the search through the pieces is that through the records
  wrong_from : (left i : ℕ) → position_from wrong_bytes i (pieces left i) ≡ first_where (wrong_record records) left i
  wrong_from zero i = refl
  wrong_from (suc left) i =
      ap (λ (o : Option ℕ). cond (wrong_record records i) (Some i) o)
      (ap (position_from wrong_bytes (i + 1)) (next_pieces left i) ∙ rw add-one (wrong_from left (suc i)))

  pub wrong_there : (bytes : List (List ℕ)) → bytes ≡ pieces (record_count records) 0 → position wrong_bytes bytes ≡ first_wrong records
  wrong_there bytes e = position_from-zero wrong_bytes bytes ∙ rw e (wrong_from (record_count records) 0)

  -- and their messages are those of the records, so many
  messages_from_lem : (left i : ℕ) → map record_message (pieces left i) ≡ messages_from left records i
  messages_from_lem zero i = refl
  messages_from_lem (suc left) i =
      ap (λ (ms : List Message). message_in records i ∷ ms)
      (ap (map record_message) (next_pieces left i) ∙ messages_from_lem left (suc i))

  pub messages_there : (bytes : List (List ℕ)) → bytes ≡ pieces (record_count records) 0 → map record_message bytes ≡ messages_of records
  messages_there bytes e = ap (map record_message) e ∙ messages_from_lem (record_count records) 0

  messages_count : (left i : ℕ) → length (messages_from left records i) ≡ left
  messages_count zero i = refl
  messages_count (suc left) i = ap suc (messages_count left (suc i))

-- the outcomes behind 18, in their order
module _ (records before : List ℕ) (few : record_count records ≤ 999) where
  module _ (bundle : List ℕ) where
    pub record_wrong : {i : ℕ} → first_wrong records ≡ Some i
        → WroteBundle (record_faults records bundle (length before)) bundle before (refused_at BadContents (i + 1)) before
    record_wrong {i} wrong = refused (rw (le-ltb 999 (record_count records) few, wrong, add-one i))

    pub last_wrong : first_wrong records ≡ None → eqb (length records % 12) 0 ≡ false
        → WroteBundle (record_faults records bundle (length before)) bundle before (refused_at BadEnd 0) before
    last_wrong right piece = refused (rw (le-ltb 999 (record_count records) few, right, piece))

  -- where no record is at fault, the writer is asked for their messages: only 19 is left
  pub records_written : (page : Opening) {messages : List Message} {r : BundleReply} {after : List ℕ} → first_wrong records ≡ None
      → eqb (length records % 12) 0 ≡ true → messages ≡ messages_of records
      → WroteAll page messages before r after → WroteRecords page records before r after
  records_written page {messages} {r} {after} right whole same list =
      let w : WroteAll page (messages_of records) before r after = rw same at list in
      let count = messages_count records (record_count records) 0 in
      let test = le-ltb 999 (record_count records) few in
      wrote (w.meets ∙ rw (count, test, right, whole)) w.buffer w.short

-- the first so many of an array, which are the messages of records, are written as their list
pub list_written : (page : Opening) (records : List (List ℕ)) (messages : List Message) {before after : List ℕ} {r : BundleReply}
    → take (length records) messages ≡ map record_message records
    → WroteList page messages (length records) before r after → WroteAll page (map record_message records) before r after
list_written page records messages {before} {after} {r} same list =
    let bundle = written page (map record_message records) in
    let w : WroteBundle (write_faults (length records) bundle (length before)) bundle before r after = rw same at list in
    rw (length-map records record_message) w
