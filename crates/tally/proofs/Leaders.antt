-- What is known of the leader, seat by seat: at the end it is the slip that is put forward.
use Rattle.std.specs.Prelude.{Some, None}
use Prim.Native.Nat.{ℕ, zero, suc, ◌+◌, ◌≤◌, ◌<◌}
use native.Mathlib.Nat.{add-zero, zero-add}
use native.Mathlib.Decide.{dec_lt}
use native.Mathlib.Omega.{arith}
use mathlib.Core.Path.{◌≡◌, refl, ap, sym, ◌∙◌}
use mathlib.Core.Bool.{true}
use mathlib.Core.List.{List, map}
use Rattle.std.specs.List.{fold, range_with_len}
use lib.ListN.{length, get_or-eq_default}
use borrow.Author.Count.{below_more}
use borrow.Author.Tests.{lt-ltb, le-ltb, le-leb}
use Rattle.model.specs.declared.Seat.{Seat}
use Rattle.model.specs.declared.Transfer.{Transfer}
use Rattle.model.specs.Types.{Slot, AckSlot}
use Rattle.model.specs.Basics.{bit}
use Rattle.model.specs.Records.{seat_of}
use Rattle.model.specs.Acks.{ack_at, holds, acks_for, no_more_than, has_most, slip_in, most_acked}
use Rattle.laws.proofs.Sums.{impossible, sum_at_least}
use Rattle.laws.proofs.Equality.{equal_refl}
use Rattle.laws.proofs.Tallies.{inside, most_sound}
use Rattle.laws.proofs.Proposals.{FirstOfMost, only_first, none_recorded}
use Rattle.basics.proofs.Counting.{every_at}
use Rattle.store.specs.Stores.{with_number}
use Rattle.tally.specs.declared.Leader.{Leader}
use Rattle.tally.specs.Results.{leader_of}

module _ (acks : List AckSlot) (number : ℕ) where
  -- a slip as a leader; and the leader before the first seat
  abbrev leading : Transfer → Leader
  leading v = record { transfer = with_number v number; acks = acks_for v acks }

  abbrev pub no_leader : Leader
  no_leader = record { transfer = with_number (slip_in None) number; acks = 0 }

  -- none of the seats before i acked a slip with more than c acks
  abbrev NoMore : ℕ → ℕ → Type 0
  NoMore c i = (k : ℕ) (u : Transfer) → k < i → ack_at acks k ≡ Some u → acks_for u acks ≤ c

  no_more_next : {c i : ℕ} → NoMore c i → ((u : Transfer) → ack_at acks i ≡ Some u → acks_for u acks ≤ c) → NoMore c (i + 1)
  no_more_next {c} {i} earlier here k u below = below_more (λ j. ack_at acks j ≡ Some u → acks_for u acks ≤ c) i (λ j. earlier j u) (here u) k below

  -- a place has one slip
  one_slip : {c : ℕ} (i : ℕ) (u : Transfer) → ack_at acks i ≡ Some u → acks_for u acks ≤ c → (w : Transfer) → ack_at acks i ≡ Some w → acks_for w acks ≤ c
  one_slip i u at few w full = let same : w ≡ u = cc (at, full) in rw same few

  -- The leader of the seats before i: nobody, where none of them acked; or the first by its seat of the slips
  -- with the most acks among theirs.
  pub data Led (i : ℕ) (best : Leader) : Type 0 where
    nobody : ((k : ℕ) → k < i → ack_at acks k ≡ None) → best ≡ no_leader → Led i best
    leads : (seat : ℕ) (v : Transfer) → ack_at acks seat ≡ Some v → best ≡ leading v → NoMore (acks_for v acks) i
        → ((k : ℕ) (u : Transfer) → k < seat → ack_at acks k ≡ Some u → acks_for u acks < acks_for v acks)
        → Led i best

  pub led_none : Led 0 no_leader
  led_none = nobody (λ k below. absurd (omega arith)) refl

  -- a slip that a seat acked has an ack
  some_acks : (i : ℕ) (u : Transfer) → ack_at acks i ≡ Some u → 1 ≤ acks_for u acks
  some_acks i u at =
      let here : bit (holds u (ack_at acks i)) ≡ 1 = rw at (ap bit (equal_refl u)) in
      omega (arith, here, sum_at_least (λ a. bit (holds u a.slot)) acks i (record { slot = None }) (inside acks i u at))

  module _ {i : ℕ} {best : Leader} where
    pub led_more : Led i best → Led (i + 1) (leader_of acks number best (ack_at acks i))
    led_more led = go (ack_at acks i) refl led
      where
        go : (p : Slot) → ack_at acks i ≡ p → Led i best → Led (i + 1) (leader_of acks number best p)
        go None at (nobody none is) = nobody (below_more (λ k. ack_at acks k ≡ None) i none at) is
        go None at (leads seat v acked is most first) =
            leads seat v acked is (no_more_next most (λ u full. impossible (cc (at, full)))) first
        go (Some u) at (nobody none is) =
            rw (is, lt-ltb 0 (acks_for u acks) (some_acks i u at))
            (leads i u at refl
            (no_more_next (λ k w below full. impossible (cc (none k below, full))) (one_slip i u at (omega arith)))
            (λ k w below full. impossible (cc (none k below, full))))
        go (Some u) at (leads seat v acked is most first) = more (dec_lt (acks_for v acks) (acks_for u acks))
          where
            more : Dec (acks_for v acks < acks_for u acks) → Led (i + 1) (leader_of acks number best (Some u))
            more (yes above) =
                rw (is, lt-ltb (acks_for v acks) (acks_for u acks) above)
                (leads i u at refl
                (no_more_next (λ k w below full. omega (arith, most k w below full)) (one_slip i u at (omega arith)))
                (λ k w below full. omega (arith, most k w below full)))
            more (no not_above) =
                rw (is, le-ltb (acks_for v acks) (acks_for u acks) (omega arith))
                (leads seat v acked refl (no_more_next most (one_slip i u at (omega arith))) first)

    -- after the last seat it is the slip that is put forward
    pub led_all : length acks ≤ i → Led i best → best.transfer ≡ with_number (most_acked acks) number
    unfolding has_most
    led_all all (nobody none is) =
        ap (λ (l : Leader). l.transfer) is
        ∙ ap (λ (t : Transfer). with_number t number) (sym (none_recorded acks (λ k. go k (dec_lt k i))))
      where
        go : (k : ℕ) → Dec (k < i) → ack_at acks k ≡ None
        go k (yes below) = none k below
        go k (no above) = ap (λ (a : AckSlot). a.slot) (get_or-eq_default acks (record { slot = None }) {n = k} (omega arith))
    led_all all (leads seat v acked is most first) =
        ap (λ (l : Leader). l.transfer) is ∙ ap (λ (t : Transfer). with_number t number) (sym (only_first acks v lowest))
      where
        no_more : (k : ℕ) (p : Slot) → ack_at acks k ≡ p → k < i → no_more_than (acks_for v acks) acks p ≡ true
        no_more k None at below = refl
        no_more k (Some u) at below = le-leb (acks_for u acks) (acks_for v acks) (most k u below at)

        lowest : FirstOfMost acks v
        lowest =
            record {
              most =
                  every_at (λ a. no_more_than (acks_for v acks) acks a.slot) acks (record { slot = None })
                  (λ k below. no_more k (ack_at acks k) refl (omega arith));
              seat = seat;
              acked = acked;
              lowest = λ u k at has. not_lower u k at (most_sound acks u has v) (dec_lt k seat);
            }
          where
            not_lower : (u : Transfer) (k : ℕ) → ack_at acks k ≡ Some u → acks_for v acks ≤ acks_for u acks → Dec (k < seat) → seat ≤ k
            not_lower u k at no_fewer (yes below) = absurd (omega (arith, first k u below at))
            not_lower u k at no_fewer (no above) = omega arith

  -- going through the n seats from i on
  abbrev pub next : Leader → Seat → Leader
  next best s = leader_of acks number best (ack_at acks s.0)

  led_through : (n i : ℕ) (best : Leader) → Led i best → Led (i + n) (fold next best (map seat_of (range_with_len i n)))
  led_through zero i best led = rw (add-zero i) led
  led_through (suc n) i best led =
      let later : i + suc n ≡ i + 1 + n = omega arith in
      rw later (led_through n (i + 1) (next best (seat_of i)) (led_more led))

  -- so the leader of all seats is the slip that is put forward
  pub led_last : (n : ℕ) → length acks ≤ n → (fold next no_leader (map seat_of (range_with_len 0 n))).transfer ≡ with_number (most_acked acks) number
  led_last n all = led_all all (rw (zero-add n) at (led_through n 0 no_leader led_none))
