-- Document 01, "Ack": the running tally of one number, read off the acks that are recorded for it; and document 02,
-- request 2: the slip that is put forward.
use Rattle.std.specs.Prelude.{ℕ, ◌+◌, ◌*◌, ◌-◌, Bool, true, false, not, ◌&&◌, List, leb, ltb, length, get_or, Option, Some, None, is_some}
use Rattle.model.specs.Types.{Transfer, Slot, AckSlot, Entry}
use Rattle.model.specs.Basics.{count, any, every, first_where}
use Rattle.model.specs.Records.{account_of}
use Rattle.model.specs.Transfers.{equal, conflict}

-- a seat's place, by the seat's number; behind the last it is empty
abbrev pub ack_at : List AckSlot → ℕ → Slot
ack_at acks s = (get_or acks s (record { slot = None })).slot

-- the place holds a slip equal to this one
abbrev pub holds : Transfer → Slot → Bool
holds t None = false
holds t (Some u) = equal u t

-- the place holds a slip that conflicts with this one
abbrev pub conflicts : Transfer → Slot → Bool
conflicts t None = false
conflicts t (Some u) = conflict u t

-- the count of acks equal to this slip
abbrev pub acks_for : Transfer → List AckSlot → ℕ
acks_for t acks = count (λ a. holds t a.slot) acks

-- how many seats' acks are recorded
abbrev pub acks_recorded : List AckSlot → ℕ
acks_recorded acks = count (λ a. is_some a.slot) acks

-- "If twice the count of acks equal to this slip exceeds n + 3f"
abbrev pub enough : ℕ → ℕ → ℕ → Bool
enough n f acks = ltb (n + 3 * f) (2 * acks)

-- this place holds a slip that conflicts with one of the acks
abbrev pub conflicts_with_any : List AckSlot → Slot → Bool
conflicts_with_any acks None = false
conflicts_with_any acks (Some t) = any (λ a. conflicts t a.slot) acks

-- "two of them conflict"
abbrev pub two_conflict : List AckSlot → Bool
two_conflict acks = any (λ a. conflicts_with_any acks a.slot) acks

-- "if at least n - f seats' acks are recorded, two of them conflict, and nothing was put forward for this number". How
-- many are recorded is handed in, as the count is to `enough`: the tally has both
abbrev pub must_propose : ℕ → ℕ → ℕ → Entry → Bool
must_propose n f recorded e = leb (n - f) recorded && two_conflict e.acks && not e.proposed

-- the slip in this place, if any, has no more than c of the acks
abbrev pub no_more_than : ℕ → List AckSlot → Slot → Bool
no_more_than c acks None = true
no_more_than c acks (Some u) = leb (acks_for u acks) c

-- "a slip that has the most acks": no slip has more
unfoldable pub has_most : List AckSlot → Transfer → Bool
has_most acks t = every (λ a. no_more_than (acks_for t acks) acks a.slot) acks

-- the place holds a slip that has the most of the acks
abbrev pub holds_most : List AckSlot → Slot → Bool
holds_most acks None = false
holds_most acks (Some t) = has_most acks t

-- the slip in a place; in an empty one, a slip of zeros
abbrev pub slip_in : Slot → Transfer
slip_in None = record { account = account_of 0; number = 0; value = 0; recipient = account_of 0 }
slip_in (Some t) = t

-- the slip that a seat acked, if there is such a seat
abbrev pub slip_of : List AckSlot → Option ℕ → Transfer
slip_of acks None = slip_in None
slip_of acks (Some s) = slip_in (ack_at acks s)

-- "Among the slips with the most acks the one put forward is now the first by its lowest acknowledging seat": going
-- through the seats from 0, the slip of the first whose slip has the most acks
unfoldable pub most_acked : List AckSlot → Transfer
most_acked acks = slip_of acks (first_where (λ s. holds_most acks (ack_at acks s)) (length acks) 0)
