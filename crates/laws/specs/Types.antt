-- The model's types, with their constructors, by one name each: those that model's src/ declares can be named through
-- no file of model itself.
pub use Rattle.model.specs.declared.Seat.{Seat}
pub use Rattle.model.specs.declared.Account.{Account}
pub use Rattle.model.specs.declared.Transfer.{Transfer}
pub use Rattle.model.specs.Types.{Slot, AckSlot, Entry, Ledger, Outcome, ListReply, Evidence}
pub use Rattle.model.specs.declared.Opening.{Opening}
pub use Rattle.model.specs.declared.Refusal.{Refusal}
pub use Rattle.model.specs.declared.Refusal.TheVariants.{UnknownSeat, OutOfRange, PastNumber, FutureNumber, AlreadyAccepted, AckRepeated, AckConflicting, InsufficientFunds, AlreadyAcked, ShortBuffer, SelfPayment}
pub use Rattle.model.specs.declared.Message.{Message}
pub use Rattle.model.specs.declared.Message.TheVariants.{Request, Circulated, Ack, Decision, Inquiry}
pub use Rattle.model.specs.declared.Reply.{Reply}
pub use Rattle.model.specs.declared.Reply.TheVariants.{Circulate, Acknowledge, Accept, Propose, Note, Balance, Refuse}
pub use Rattle.model.specs.declared.Which.{Which}
pub use Rattle.model.specs.declared.Which.TheVariants.{First, Second, Neither}
