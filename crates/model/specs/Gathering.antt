-- Document 02, request 4: the seats whose number is compared, {p ∈ Π | acks[t.sender][p] = t} in line 37
-- of Algorithm 1 in document 000.
use Rattle.std.specs.Prelude.{ℕ, ◌≡◌, Bool, List, length}
use Rattle.model.specs.Types.{Transfer, AckSlot}
use Rattle.model.specs.Basics.{all_where, ExactlyThose}
use Rattle.model.specs.Acks.{ack_at, holds, acks_for}

-- the seat's "ack equals the slip"
abbrev pub has_acked : Transfer → List AckSlot → ℕ → Bool
has_acked t acks p = holds t (ack_at acks p)

-- "go through the seats from 0 and gather those whose ack equals the slip": their numbers
unfoldable pub gathered : Transfer → List AckSlot → List ℕ
gathered t acks = all_where (has_acked t acks) (length acks) 0

-- "What is gathered is proved to be exactly those seats, each once, lowest first."
pub record ExactlyGathered (t : Transfer) (acks : List AckSlot) (seats : List ℕ) : Type 0 where
  pub those : ExactlyThose (has_acked t acks) seats
  -- "then compare": their number is the count of acks equal to the slip
  pub number : length seats ≡ acks_for t acks
