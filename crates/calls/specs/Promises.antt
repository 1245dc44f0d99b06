-- What a message promises, by the model's `step`, of the ledger that the words are.
use Rattle.std.specs.Prelude.{ℕ, ◌+◌, ◌<◌, ◌≡◌, false, List}
use Rattle.model.specs.declared.Seat.{Seat}
use Rattle.model.specs.declared.Transfer.{Transfer}
use Rattle.model.specs.declared.Message.{Message}
use Rattle.model.specs.declared.Message.TheVariants.{Ack}
use Rattle.model.specs.declared.Refusal.{Refusal}
use Rattle.model.specs.declared.Reply.{Reply}
use Rattle.model.specs.declared.Reply.TheVariants.{Refuse}
use Rattle.model.specs.Types.{Outcome}
use Rattle.model.specs.Acks.{acks_for, enough}
use Rattle.model.specs.Replies.{letter_of, values_of}
use Rattle.model.specs.Calls.{tallied, waits, finished, late_in, step}
use Rattle.layout.specs.Layout.{ledger_in, entry_in}
use Rattle.tally.specs.declared.Tally.{Tally}
use Rattle.tally.specs.Results.{tally_of}

-- A message: the reply, with its letter and its values, and the ledger after it. "A refusal replies its code and
-- changes nothing": not one of the words. "Each enum answer has a definition that gives this paper's number and values
-- for each of its cases. The promises use that definition": `letter`, `values`.
pub record Answered (before : List ℕ) (m : Message) (r : Reply) (after : List ℕ) : Type 0 where
  pub reply : r ≡ (step (ledger_in before) m).reply
  pub letter : letter_of r ≡ letter_of (step (ledger_in before) m).reply
  pub values : values_of r ≡ values_of (step (ledger_in before) m).reply
  pub ledger : ledger_in after ≡ (step (ledger_in before) m).next
  pub kept : (code : Refusal) → r ≡ Refuse code → after ≡ before

-- An ack that brings no late P.
pub record NotLate (before : List ℕ) (s : Seat) (t : Transfer) (r : Reply) (after : List ℕ) : Type 0 where
  pub answered : late_in (ledger_in before) (Ack s t) ≡ false → Answered before (Ack s t) r after

-- What was taken: it is not refused any more.
pub record Taken (o : Outcome) (r : Reply) (after : List ℕ) : Type 0 where
  pub reply : r ≡ o.reply
  pub ledger : ledger_in after ≡ o.next
  pub not_refused : (code : Refusal) → r ≡ Refuse code → ⊥

-- The slip is of its account's next number, and has a value.
pub record Next (ws : List ℕ) (t : Transfer) : Type 0 where
  pub number : t.number ≡ (entry_in ws t.account).current + 1
  pub value : 0 < t.value

-- What follows from a slip's ack that is recorded, where the tally's seats are not enough.
pub record NotEnough (before : List ℕ) (t : Transfer) (y : Tally) (r : Reply) (after : List ℕ) : Type 0 where
  pub decided : Next before t → 0 < acks_for t (entry_in before t.account).acks → y ≡ tally_of t (entry_in before t.account).acks
      → enough (ledger_in before).seats (ledger_in before).faults y.equal ≡ false
      → Taken (finished (ledger_in before) t.account (tallied (ledger_in before) (entry_in before t.account) t)) r after

-- What follows from a slip that is accepted.
pub record Accepted (before : List ℕ) (t : Transfer) (r : Reply) (after : List ℕ) : Type 0 where
  pub settled : 0 < t.value → Taken (finished (ledger_in before) t.account (waits (entry_in before t.account) t)) r after
