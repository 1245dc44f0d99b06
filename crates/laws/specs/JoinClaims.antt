-- Document 02, request 7: what is claimed of the join, for all bytes and every ruled slip. The proofs are in Joins.antt
-- of proofs/.
use Rattle.model.specs.Types.{join_refused, found_pair, no_pair}
use Rattle.std.specs.Prelude.{ℕ, ◌<◌, ◌≡◌, ◌⊎◌, List}
use Rattle.laws.specs.Types.{Seat, Transfer, Refusal, Which}
use Rattle.model.specs.Bundles.{page_at, transfer_of}
use Rattle.model.specs.Joins.{seats_of, seat_on, Pair, evidence, shown_body}

-- "The earliest entry in the first bundle wins, then the earliest in the second": entries k and l come before i and j
abbrev pub Before : ℕ → ℕ → ℕ → ℕ → Type 0
Before k l i j = (k < i) ⊎ ((k ≡ i) × (l < j))

-- there is no pair at all
abbrev pub Without : List ℕ → List ℕ → Type 0
Without first second = (i j : ℕ) → Pair first second i j → ⊥

-- some pair is found
abbrev pub FindsOne : List ℕ → List ℕ → Transfer → Type 0
FindsOne first second ruled =
    (seat : Seat) × (i : ℕ) × (j : ℕ) × (shown : Which) × (evidence first second ruled ≡ found_pair seat i j shown)

-- no check refuses the two
abbrev pub NotRefused : List ℕ → List ℕ → Transfer → Type 0
NotRefused first second ruled = (r : Refusal) (of : Which) (i : ℕ) → evidence first second ruled ≡ join_refused r of i → ⊥

-- What is found:
pub record Finds (first second : List ℕ) (ruled : Transfer) (seat : Seat) (i j : ℕ) (shown : Which) : Type 0 where
  -- a pair,
  pub pair : Pair first second i j
  -- and no pair comes before it
  pub first_of_all : (k l : ℕ) → Pair first second k l → Before k l i j → ⊥
  -- the seat is that of both acks, and below n
  pub in_first : seat ≡ seat_on (page_at first i)
  pub in_second : seat ≡ seat_on (page_at second j)
  pub below : seat.0 < seats_of first
  -- the body that is shown is never the ruled slip's
  pub not_ruled : transfer_of (shown_body first second (found_pair seat i j shown)) ≡ ruled → ⊥
  -- joined the other way round, one is found too, and so exactly then; it may be another one. Whatever slip was ruled
  pub turned : (other : Transfer) → FindsOne second first other

abbrev pub FoundRight : Type 0
FoundRight =
    (first second : List ℕ) (ruled : Transfer) (seat : Seat) (i j : ℕ) (shown : Which)
    → evidence first second ruled ≡ found_pair seat i j shown
    → Finds first second ruled seat i j shown

-- "If there is no such pair it says so": where it does, there is none; and where the two are not refused, it does
abbrev pub NoneExactly : Type 0
NoneExactly =
    (first second : List ℕ) (ruled : Transfer)
    → (evidence first second ruled ≡ no_pair → Without first second)
    × (NotRefused first second ruled → Without first second → evidence first second ruled ≡ no_pair)
