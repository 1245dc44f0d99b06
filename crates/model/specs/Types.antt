-- The types of src/ with their constructors, by one name each; then the types of the ledger, which are definitions: no
-- code holds them, since the ledger lies as words, see crate layout.
use Rattle.std.specs.Prelude.{ℕ, Bool, List, Option, Some, None, Result, Ok, Err}
pub use Rattle.model.specs.declared.Seat.{Seat}
pub use Rattle.model.specs.declared.Account.{Account}
pub use Rattle.model.specs.declared.Transfer.{Transfer}
pub use Rattle.model.specs.declared.Opening.{Opening}
pub use Rattle.model.specs.declared.Refusal.{Refusal}
pub use Rattle.model.specs.declared.Refusal.TheVariants.{BadGroup, BadAccounts, SumTooLarge, UnknownSeat, OutOfRange, PastNumber, FutureNumber, AlreadyAccepted, AckRepeated, AckConflicting, InsufficientFunds, AlreadyAcked, BadHeader, BadContents, BadEnd, BadSum, ShortBuffer, TooManyMessages, NoRoom, SelfPayment, PagesDiffer}
pub use Rattle.model.specs.declared.Message.{Message}
pub use Rattle.model.specs.declared.Message.TheVariants.{Request, Circulated, Ack, Decision, Inquiry}
pub use Rattle.model.specs.declared.Reply.{Reply}
pub use Rattle.model.specs.declared.Reply.TheVariants.{Circulate, Acknowledge, Accept, Propose, Note, Balance, Refuse}
pub use Rattle.model.specs.declared.ContentsEntry.{ContentsEntry}
pub use Rattle.model.specs.declared.BundleError.{BundleError}
pub use Rattle.model.specs.declared.Which.{Which}
pub use Rattle.model.specs.declared.Which.TheVariants.{First, Second, Neither}
pub use Rattle.model.specs.declared.FoundPair.{FoundPair}
pub use Rattle.model.specs.declared.JoinError.{JoinError}

-- A place that may hold a transfer.
abbrev pub Slot : Type 0
Slot = Option Transfer

-- What an opening is answered: nothing more, or the refusal.
abbrev pub OpenReply : Type 0
OpenReply = Result (Unit {0}) Refusal

-- What the waiting list is answered: how many accounts were written, or the refusal.
abbrev pub ListReply : Type 0
ListReply = Result ℕ Refusal

-- What the check of a bundle is answered: how many entries it has; what the writer of bundles is: the bundle's length.
-- Or the refusal and the entry.
abbrev pub BundleReply : Type 0
BundleReply = Result ℕ BundleError

abbrev pub refused_at : Refusal → ℕ → BundleReply
refused_at r i = Err (record { refusal = r; entry = i })

-- What the evidence join is answered: a pair, if there is one; or the refusal.
abbrev pub Evidence : Type 0
Evidence = Result (Option FoundPair) JoinError

abbrev pub found_pair : Seat → ℕ → ℕ → Which → Evidence
found_pair s i j shown = Ok (Some (record { seat = s; first = i; second = j; shown = shown }))

abbrev pub no_pair : Evidence
no_pair = Ok None

abbrev pub join_refused : Refusal → Which → ℕ → Evidence
join_refused r of i = Err (record { refusal = r; bundle = of; entry = i })

-- One seat's place for an ack of the next number.
pub record AckSlot : Type 0 where
  pub slot : Slot

-- What the ledger holds for one account.
pub record Entry : Type 0 where
  pub balance : ℕ
  -- the last number that was applied (booked), 0 at opening
  pub current : ℕ
  -- this seat has acked the next number
  pub acked : Bool
  -- each seat's ack for the next number
  pub acks : List AckSlot
  -- a transfer was proposed (put forward) for the next number
  pub proposed : Bool
  -- the accepted transfer that waits, if any
  pub pending : Slot
  -- document 02, request 5: the latest accepted transfer, waiting or booked, if any is retained
  pub retained : Slot
  -- whether anything was proposed (put forward) for its number
  pub retained_proposed : Bool

-- Document 01: book. One seat's record.
pub record Ledger : Type 0 where
  -- n
  pub seats : ℕ
  -- f: how many seats may misbehave
  pub faults : ℕ
  -- k
  pub accounts : ℕ
  -- the opening sum
  pub total : ℕ
  pub entries : List Entry

-- What a call does: its reply, and the ledger after it.
pub record Outcome : Type 0 where
  pub reply : Reply
  pub next : Ledger
