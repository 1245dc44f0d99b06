-- What the writer promises.
use Rattle.std.specs.Prelude.{ℕ, suc, ◌+◌, ◌*◌, ◌≤◌, ◌≡◌, List, length, map, take, Ok}
use Rattle.model.specs.declared.Opening.{Opening}
use Rattle.model.specs.declared.Message.{Message}
use Rattle.model.specs.Types.{BundleReply}
use Rattle.model.specs.Replies.{values_of_bundle}
use Rattle.model.specs.Bundles.{body_length, Fault, fault_values}
use Rattle.model.specs.Writing.{message_page, contents_of, bodies_of, written, write_faults, write_reply, buffer_after}
use Rattle.bundle.specs.Promises.{longest}
use Rattle.writer.specs.RecordLists.{messages_of, record_faults}

-- A bundle that is to be written, and what may be at fault: the answer, the document's number and values of it, and the
-- buffer after it. A length that is replied is no longer than the longest bundle.
pub record WroteBundle (faults : List Fault) (bundle before : List ℕ) (r : BundleReply) (after : List ℕ) : Type 0 where
  pub meets : r ≡ write_reply faults bundle
  pub told : values_of_bundle r ≡ fault_values (length bundle) faults
  pub buffer : after ≡ buffer_after r bundle before
  pub short : (size : ℕ) → r ≡ Ok size → size ≤ longest

-- A list of messages.
abbrev pub WroteAll : Opening → List Message → List ℕ → BundleReply → List ℕ → Type 0
WroteAll page messages before r after =
    let bundle = written page messages in
    WroteBundle (write_faults (length messages) bundle (length before)) bundle before r after

-- The first `count` messages of a list.
abbrev pub WroteList : Opening → List Message → ℕ → List ℕ → BundleReply → List ℕ → Type 0
WroteList page messages count before r after =
    let bundle = written page (take count messages) in
    WroteBundle (write_faults count bundle (length before)) bundle before r after

-- The messages of records.
abbrev pub WroteRecords : Opening → List ℕ → List ℕ → BundleReply → List ℕ → Type 0
WroteRecords page records before r after =
    let bundle = written page (messages_of records) in
    WroteBundle (record_faults records bundle (length before)) bundle before r after

-- where the first message's body starts: behind m, the contents and the opening page's body
abbrev pub first_start : ℕ → ℕ
first_start count = 2 + 8 * suc count + body_length 0

-- the entries of the messages behind the opening page's, and their bodies behind its
abbrev pub entries_of : List Message → List ℕ
entries_of messages = contents_of (first_start (length messages)) (map message_page messages)

abbrev pub message_bodies : List Message → List ℕ
message_bodies messages = bodies_of (map message_page messages)
