-- Document 02, request 2, "Tied slips should be put forward alike", beside demand 3. The proofs are in
-- Proposals.antt of the crate agreement.
use Rattle.std.specs.Prelude.{◌≡◌, false}
use Rattle.laws.specs.Types.{Seat, Transfer, Ledger, Message, Propose}
use Rattle.runs.specs.Runs.{acks_with}
use Rattle.model.specs.Acks.{ack_at}
use Rattle.model.specs.Calls.{late_in, step}

-- the two ledgers, with the ack at hand recorded, have the same acks for the number: the same ack of each seat
abbrev pub SameAcks : Ledger → Message → Ledger → Message → Type 0
SameAcks l m k q = (s : Seat) → ack_at (acks_with l m) s.0 ≡ ack_at (acks_with k q) s.0

-- Two calls that are answered P by today's definitions, not late, at two seats or one, and whose ledgers have the
-- same acks, carry the same slip: in whatever order the acks arrived, and whatever else the ledgers hold. (A late P
-- carries what its seat accepted.)
abbrev pub PutForwardAlike : Type 0
PutForwardAlike =
    (l k : Ledger) (m q : Message) (t u : Transfer)
    → late_in l m ≡ false → late_in k q ≡ false → (step l m).reply ≡ Propose t → (step k q).reply ≡ Propose u → SameAcks l m k q → t ≡ u
