-- The running tally of one number, given by the model's definitions.
use Rattle.std.specs.Prelude.{ℕ, ◌+◌, ◌-◌, ◌<◌, ◌≡◌, Bool, cond, not, ◌&&◌, List, ◌++◌, map, leb, ltb, length, take, set, replicate, Some, None, is_some}
use Rattle.model.specs.declared.Seat.{Seat}
use Rattle.model.specs.declared.Account.{Account}
use Rattle.model.specs.declared.Transfer.{Transfer}
use Rattle.model.specs.Types.{Slot, AckSlot, Entry}
use Rattle.model.specs.Basics.{bit}
use Rattle.model.specs.Records.{seat_of}
use Rattle.model.specs.Acks.{holds, acks_for, acks_recorded, must_propose}
use Rattle.model.specs.Gathering.{gathered, ExactlyGathered}
use Rattle.layout.specs.Layout.{ledger_in, entry_in}
use Rattle.store.specs.Stores.{with_number}
use Rattle.tally.specs.declared.Tally.{Tally}
use Rattle.tally.specs.declared.Leader.{Leader}

-- the seats with these numbers in an array of 16, and zeros behind them
abbrev pub in_array : List ℕ → List Seat
in_array seats = map seat_of seats ++ replicate (16 - length seats) (seat_of 0)

-- the tally of the recorded acks, for one slip
abbrev pub tally_of : Transfer → List AckSlot → Tally
tally_of t acks = record { gathered = in_array (gathered t acks); equal = acks_for t acks; recorded = acks_recorded acks }

-- "The running tally of one number is brought up to date by each ack": with the ack in this seat's place, if any
abbrev pub counted : Tally → Transfer → Seat → Slot → Tally
counted y t p s =
    record {
      gathered = cond (holds t s) (set y.gathered y.equal p) y.gathered;
      equal = y.equal + bit (holds t s);
      recorded = y.recorded + bit (is_some s);
    }

-- a slip as if it were of its account's next number: the places of acks tell no other
abbrev pub at_next : Entry → Transfer → Transfer
at_next e t = with_number t (e.current + 1)

-- the numbers of the seats that a tally has gathered
abbrev pub seats_of : Tally → List ℕ
seats_of y = map (λ s. s.0) (take y.equal y.gathered)

-- What is gathered for a slip, told as one of its account's next number; where it is, "exactly those
-- seats, each once, lowest first".
pub record Gathers (ws : List ℕ) (t : Transfer) (y : Tally) : Type 0 where
  pub tally : y ≡ tally_of (at_next (entry_in ws t.account) t) (entry_in ws t.account).acks
  pub exactly : t.number ≡ (entry_in ws t.account).current + 1 → ExactlyGathered t (entry_in ws t.account).acks (seats_of y)

-- Whether a slip is to be put forward, told by a tally: at least n - f acks are recorded, fewer are equal
-- to the tally's slip than are recorded, and nothing was put forward. Of a tally for one of the recorded
-- slips this is the model's test.
pub record Decides (ws : List ℕ) (a : Account) (y : Tally) (r : Bool) : Type 0 where
  pub told : r ≡ (leb ((ledger_in ws).seats - (ledger_in ws).faults) y.recorded && ltb y.equal y.recorded && not (entry_in ws a).proposed)
  pub decided : (t : Transfer) → t.account ≡ a → t.number ≡ (entry_in ws a).current + 1 → y ≡ tally_of t (entry_in ws a).acks → 0 < y.equal
      → r ≡ must_propose (ledger_in ws).seats (ledger_in ws).faults y.recorded (entry_in ws a)

-- Of the leader so far and the slip in a place, if any, the one with more of the acks; on a tie the leader.
-- Slips are told with this number.
abbrev pub leader_of : List AckSlot → ℕ → Leader → Slot → Leader
leader_of acks number best None = best
leader_of acks number best (Some u) =
    cond (ltb best.acks (acks_for u acks)) (record { transfer = with_number u number; acks = acks_for u acks }) best
