-- What the loop over the seats knows of its tally: it is that of the places before `i`, and at the end the whole one.
use Rattle.std.specs.Prelude.{Some, None, is_some}
use Prim.Native.Nat.{ℕ, suc, ◌+◌, ◌-◌, ◌≤◌, ◌<◌}
use native.Mathlib.Nat.{add-zero, zero-add}
use native.Mathlib.Numerals.{add-one}
use native.Mathlib.Omega.{arith}
use mathlib.Core.Path.{◌≡◌, refl, ap, sym, ◌∙◌}
use mathlib.Core.Bool.{Bool, true, false, cond}
use mathlib.Core.List.{List, [], ◌∷◌, ◌++◌, map, map-map, map-id, map-append, append-nil}
use lib.ListN.{length, take, set, replicate, length-map, length-append}
use lib.Seq.{set_at, take_at, append_snoc}
use Rattle.model.specs.declared.Seat.{Seat}
use Rattle.model.specs.declared.Transfer.{Transfer}
use Rattle.model.specs.Types.{Slot, AckSlot}
use Rattle.model.specs.Basics.{bit, all_where}
use Rattle.model.specs.Records.{seat_of}
use Rattle.model.specs.Acks.{ack_at, holds, acks_for}
use Rattle.model.specs.Gathering.{has_acked, gathered, ExactlyGathered}
use Rattle.laws.proofs.Sums.{impossible}
use Rattle.laws.proofs.Searches.{alone, all_more, all_few}
use Rattle.laws.proofs.Gathering.{gathered_number, gathered_exactly}
use Rattle.basics.proofs.Counting.{Counts, counts_more, counts_all}
use Rattle.tally.specs.declared.Tally.{Tally}
use Rattle.tally.specs.Results.{in_array, tally_of, counted, seats_of}

-- one seat more, if the test holds, behind those that stand in the array
array_more : (seats : List ℕ) (s : ℕ) (b : Bool) → length seats < 16
    → cond b (set (in_array seats) (length seats) (seat_of s)) (in_array seats) ≡ in_array (seats ++ alone b s)
array_more seats s false room = rw (append-nil seats)
array_more seats s true room =
    let zeros : 16 - length seats ≡ suc (15 - length seats) = omega arith in
    let longer : length (seats ++ (s ∷ [])) ≡ length seats + 1 = length-append seats (s ∷ []) in
    let left : 16 - length (seats ++ (s ∷ [])) ≡ 15 - length seats = omega (arith, longer) in
    rw (zeros, left, map-append seat_of seats (s ∷ []))
    (set_at (map seat_of seats) (seat_of 0) (replicate (15 - length seats) (seat_of 0)) (seat_of s) (length seats) (length-map seats seat_of)
    ∙ sym (append_snoc (map seat_of seats) (seat_of s) (replicate (15 - length seats) (seat_of 0))))

-- and their number
number_more : (seats : List ℕ) (s : ℕ) (b : Bool) → length seats + bit b ≡ length (seats ++ alone b s)
number_more seats s false = rw (append-nil seats) (add-zero (length seats))
number_more seats s true = sym (length-append seats (s ∷ []))

-- they are what stands in front in the array
array_front : (seats : List ℕ) → take (length seats) (in_array seats) ≡ map seat_of seats
array_front seats = take_at (map seat_of seats) (replicate (16 - length seats) (seat_of 0)) (length seats) (length-map seats seat_of)

-- so the seats of a slip's tally are those that are gathered,
pub tally_gathered : (t : Transfer) (acks : List AckSlot) → seats_of (tally_of t acks) ≡ gathered t acks
tally_gathered t acks =
    rw (← gathered_number t acks, array_front (gathered t acks), map-map (λ (p : Seat). p.0) seat_of (gathered t acks)) (map-id (gathered t acks))

-- which are exactly those whose ack equals the slip
pub tally_exactly : (t : Transfer) (acks : List AckSlot) (y : Tally) → y ≡ tally_of t acks → ExactlyGathered t acks (seats_of y)
tally_exactly t acks y is = rw (is, tally_gathered t acks) (gathered_exactly t acks)

-- a place with no ack leaves the tally as it is
pub counted_none : (y : Tally) (u : Transfer) (p : Seat) (s : Slot) → is_some s ≡ false → y ≡ counted y u p s
counted_none y u p None e = rw (add-zero y.equal, add-zero y.recorded)
counted_none y u p (Some v) e = impossible (cc)

module _ (t : Transfer) (acks : List AckSlot) where
  -- the seats before i whose ack equals the slip
  abbrev before : ℕ → List ℕ
  before i = all_where (has_acked t acks) i 0

  -- y is the tally of the seats before i
  pub record SoFar (i : ℕ) (y : Tally) : Type 0 where
    pub seats : y.gathered ≡ in_array (before i)
    pub number : y.equal ≡ length (before i)
    pub recorded : Counts (λ a. is_some a.slot) acks i y.recorded

  before_more : (i : ℕ) → before (i + 1) ≡ before i ++ alone (has_acked t acks i) i
  before_more i = rw (add-one i) (rw (zero-add i) at (all_more (has_acked t acks) i 0))

  module _ (i : ℕ) (y : Tally) (so_far : SoFar i y) where
    pub gathers_few : (y.equal ≤ i) × (y.recorded ≤ i)
    gathers_few = (omega (arith, so_far.number, all_few (has_acked t acks) i 0), so_far.recorded.few)

    pub gathers_more : (u : Transfer) (s : Slot) (next : Tally) → i < 16 → i < length acks → holds u s ≡ holds t (ack_at acks i)
        → is_some s ≡ is_some (ack_at acks i) → next ≡ counted y u (seat_of i) s → SoFar (i + 1) next
    gathers_more u s next below inside held full is =
        rw (is, held, full)
        (record {
          seats =
              rw (so_far.seats, so_far.number, before_more i)
              (array_more (before i) i (has_acked t acks i) (omega (arith, all_few (has_acked t acks) i 0)));
          number = rw (so_far.number, before_more i) (number_more (before i) i (has_acked t acks i));
          recorded = counts_more (record { slot = None }) inside so_far.recorded;
        })

    pub gathers_all : i ≡ length acks → y ≡ tally_of t acks
    unfolding gathered
    gathers_all all =
        let seats : in_array (gathered t acks) ≡ y.gathered = sym (so_far.seats ∙ ap (λ (n : ℕ). in_array (before n)) all) in
        let number : acks_for t acks ≡ y.equal = sym (so_far.number ∙ ap (λ (n : ℕ). length (before n)) all ∙ gathered_number t acks) in
        rw (seats, number, ← counts_all (omega (arith, all)) so_far.recorded)
