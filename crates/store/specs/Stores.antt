-- What the stores promise, beside the model's definitions.
use Rattle.std.specs.Prelude.{ℕ, ◌+◌, ◌<◌, ◌≡◌, cond, ◌&&◌, List, leb, ltb, Some, None}
use Rattle.model.specs.declared.Seat.{Seat}
use Rattle.model.specs.declared.Transfer.{Transfer}
use Rattle.model.specs.Types.{Slot}
use Rattle.model.specs.Records.{with_entry, with_ack, with_pending, with_retained}
use Rattle.layout.specs.Layout.{Block, block, proposed_place, pending_value_place, pending_number_place, pending_recipient_place, ack_values_place, ack_recipients_place, retained_value_place, retained_number_place, retained_recipient_place, retained_proposed_place, up_to, ledger_in, entry_in}
use Rattle.layout.specs.Blocks.{put, Stores}

-- the block with 0 at the places from i up to n
abbrev pub cleared : Block → ℕ → ℕ → Block
cleared w i n j = cond (leb i j && ltb j n) 0 (w j)

-- the block with the words of another up to place n
abbrev pub copied : Block → Block → ℕ → Block
copied u w n j = cond (ltb j n) (u j) (w j)

-- a slip with another number
abbrev pub with_number : Transfer → ℕ → Transfer
with_number t n = record { account = t.account; number = n; value = t.value; recipient = t.recipient }

-- what stands in a place, told with a number: the words of an ack hold none
abbrev pub numbered : ℕ → Slot → Slot
numbered n None = None
numbered n (Some t) = Some (with_number t n)

-- The slip's value and recipient are in the seat's places. A place says that its slip is of its account and the next
-- number, and that it is there by a value other than 0: so the slip is recorded if its number is the next and it has a
-- value. (Every slip that is taken is so.)
pub record AckStored (before : List ℕ) (s : Seat) (t : Transfer) (after : List ℕ) : Type 0 where
  pub words : Stores before t.account.0 (put (put (block before t.account.0) (ack_values_place + s.0) t.value) (ack_recipients_place + s.0) t.recipient.0) after
  pub recorded : t.number ≡ (entry_in before t.account).current + 1 → 0 < t.value
      → ledger_in after ≡ with_entry (ledger_in before) t.account (with_ack (entry_in before t.account) s t)

-- The slip's value, number and recipient are in their places: it waits if it has a value.
pub record PendingStored (before : List ℕ) (t : Transfer) (after : List ℕ) : Type 0 where
  pub words : Stores before t.account.0 (put (put (put (block before t.account.0) pending_value_place t.value) pending_number_place t.number) pending_recipient_place t.recipient.0) after
  pub waits : 0 < t.value → ledger_in after ≡ with_entry (ledger_in before) t.account (with_pending (entry_in before t.account) t)

-- The slip's value, number and recipient are in the places of what is retained, with the word of the next number's
-- mark: it is retained if it has a value.
pub record RetainedStored (before : List ℕ) (t : Transfer) (after : List ℕ) : Type 0 where
  pub words : Stores before t.account.0 (put (put (put (put (block before t.account.0) retained_value_place t.value) retained_number_place t.number) retained_recipient_place t.recipient.0) retained_proposed_place (block before t.account.0 proposed_place)) after
  pub retained : 0 < t.value → ledger_in after ≡ with_entry (ledger_in before) t.account (with_retained (entry_in before t.account) t)

-- The group's numbers, read back as they are in their ranges; the entries are as they were.
pub record GroupStored (before : List ℕ) (n f k total : ℕ) (after : List ℕ) : Type 0 where
  pub group : ledger_in after ≡ record { seats = up_to 16 n; faults = up_to 16 f; accounts = up_to 32 k; total = total; entries = (ledger_in before).entries }
