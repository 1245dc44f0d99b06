-- Messages as a host gives them: fixed records of 12 bytes, kind (1), seat (1), body (10). Of a question's body the
-- account is read and the rest is not.
use Rattle.std.specs.Prelude.{ℕ, zero, suc, ◌*◌, ◌/◌, ◌%◌, Bool, not, List, [], ◌∷◌, eqb, length, get_or, take, drop, Option, Some, None}
use Rattle.model.specs.declared.Message.{Message}
use Rattle.model.specs.declared.Refusal.TheVariants.{BadContents, BadEnd}
use Rattle.model.specs.Basics.{first_where}
use Rattle.model.specs.Bundles.{Page, wrong_page, Fault, of_whole, message_of, message_or}
use Rattle.model.specs.Writing.{too_many, no_room}

-- how many whole records there are
abbrev pub record_count : List ℕ → ℕ
record_count records = length records / 12

-- the page of a record's 12 bytes
abbrev pub page_in : List ℕ → Page
page_in bytes =
    record {
      kind = get_or bytes 0 0;
      seat = get_or bytes 1 0;
      body = take 10 (drop 2 bytes);
    }

abbrev pub record_page : List ℕ → ℕ → Page
record_page records i = page_in (take 12 (drop (12 * i) records))

-- 14, of a record: its entry in the contents would be wrong behind entry 0
abbrev pub wrong_record : List ℕ → ℕ → Bool
wrong_record records i = wrong_page 1 (record_page records i)

-- record i has entry i + 1, behind the opening page's
abbrev pub behind_page : Option ℕ → Option ℕ
behind_page None = None
behind_page (Some i) = Some (suc i)

-- the lowest record that is wrong
abbrev pub first_wrong : List ℕ → Option ℕ
first_wrong records = first_where (wrong_record records) (record_count records) 0

-- 15, of records: the last one is not whole
abbrev pub bad_last : List ℕ → Bool
bad_last records = not (eqb (length records % 12) 0)

-- the message of a record's 12 bytes
abbrev pub record_message : List ℕ → Message
record_message bytes = message_or (message_of (page_in bytes))

abbrev pub message_in : List ℕ → ℕ → Message
message_in records i = message_or (message_of (record_page records i))

-- the messages of so many records from the i-th on
abbrev pub messages_from : ℕ → List ℕ → ℕ → List Message
messages_from zero records i = []
messages_from (suc left) records i = message_in records i ∷ messages_from left records (suc i)

abbrev pub messages_of : List ℕ → List Message
messages_of records = messages_from (record_count records) records 0

-- "18 is tried first"; then the codes rise: 14, 15, 19
abbrev pub record_faults : List ℕ → List ℕ → ℕ → List Fault
record_faults records bundle room =
    too_many (record_count records)
    ∷ (behind_page (first_wrong records), BadContents)
    ∷ (of_whole (bad_last records), BadEnd)
    ∷ no_room bundle room
    ∷ []
