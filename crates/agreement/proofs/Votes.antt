-- The acks that K and P rest on, as votes of the seats: how they are counted, and that two tallies of one
-- number agree off the bad seats.
use Rattle.std.specs.Prelude.{Some, None, is_some}
use Prim.Native.Nat.{ℕ, ◌+◌, ◌*◌, ◌≤◌, ◌<◌}
use native.Mathlib.Omega.{arith}
use mathlib.Core.Path.{◌≡◌, refl, ap, sym, ◌∙◌}
use mathlib.Core.Bool.{Bool, true, false}
use lib.ListN.{length}
use borrow.Author.Tests.{lt-ltb}
use Rattle.laws.specs.Types.{Seat, Account, Transfer, Slot, AckSlot, Entry, Ledger, Opening, Message}
use Rattle.runs.specs.Runs.{Opens, count_below, FewBad, honest, Run, Obeys}
use Rattle.agreement.proofs.Quorums.{count_places, count_more, two_quorums, quorum_most}
use Rattle.agreement.proofs.Soundness.{group, Sound, accepted_entry, recorded_stands}
use Rattle.agreement.proofs.StepLaws.{Recording, Proposes, proposes_for}
use Rattle.agreement.proofs.Acked.{FromSenders, acked_by_once}
use Rattle.model.specs.Basics.{count}
use Rattle.model.specs.Records.{seat_of}
use Rattle.model.specs.Acks.{holds, acks_for}
use Rattle.model.specs.Refusals.{ack_from}
use Rattle.laws.proofs.Steps.{entry_with_ack}

-- the vote of each seat in an entry
abbrev pub vote : Entry → ℕ → Slot
vote x i = ack_from x (seat_of i)

-- The acks of one account and number: one place per seat, filled only for seats of the group, and
-- honest seats' acks are their own.
pub record Tally (o : Opening) (bad : Seat → Bool) (run : Run) (a : Account) (m : ℕ) (x : Entry) : Type 0 where
  pub size : length x.acks ≡ 16
  pub stands : (s : Seat) (u : Transfer) → ack_from x s ≡ Some u → (s.0 < o.seats) × (u.account ≡ a) × (u.number ≡ m)
  pub from : FromSenders o bad run x

module _ (o : Opening) (bad : Seat → Bool) (run : Run) (opens : Opens o) where
  same_tally : (a b : Account) (m k : ℕ) (x : Entry) → a ≡ b → m ≡ k → Tally o bad run a m x → Tally o bad run b k x
  same_tally a b m k x account number tally = rw (← account, ← number) tally

  -- what K and P rest on is such a tally
  pub tally_of_lem : (l : Ledger) (s : Seat) (t : Transfer) → Sound o l → Recording l s t → FromSenders o bad run (entry_with_ack l s t)
      → Tally o bad run t.account t.number (entry_with_ack l s t)
  tally_of_lem l s t ok new from =
      let entry = accepted_entry o l s t (group o opens) ok new.eligible new.recordable in
      record {
        size = entry.acks_size;
        stands = recorded_stands o l s t (group o opens) ok new.eligible new.recordable;
        from = from;
      }

  -- counting the acks is counting the votes of the n seats
  module _ (a : Account) (m : ℕ) (x : Entry) (tally : Tally o bad run a m x) where
    unheard : (test : Slot → Bool) → test None ≡ false → (i : ℕ) → o.seats ≤ i → test (vote x i) ≡ false
    unheard test none i above = go (vote x i) refl
      where
        go : (s : Slot) → vote x i ≡ s → test s ≡ false
        go None h = none
        go (Some u) h = absurd (omega (arith, (tally.stands (seat_of i) u h).0))

    pub votes_counted : (test : Slot → Bool) → test None ≡ false
        → count (λ (k : AckSlot). test k.slot) x.acks ≡ count_below (λ i. test (vote x i)) o.seats
    votes_counted test none =
        sym (count_places (λ (k : AckSlot). test k.slot) x.acks (record { slot = None }))
        ∙ (ap (count_below (λ i. test (vote x i))) tally.size
        ∙ count_more (λ i. test (vote x i)) o.seats 16 (group o opens).seats_fit (unheard test none))

  -- two tallies of one account and number agree off the bad seats
  pub votes_agree : Obeys o run → (a : Account) (m : ℕ) (x y : Entry) → Tally o bad run a m x → Tally o bad run a m y
      → (i : ℕ) (t u : Transfer) → i < o.seats → bad (seat_of i) ≡ false → vote x i ≡ Some t → vote y i ≡ Some u → t ≡ u
  votes_agree obeys a m x y first second i t u below fair ht hu =
      let honestly : honest o bad (seat_of i) ≡ true = rw (lt-ltb i o.seats below, fair) in
      let one = first.stands (seat_of i) t ht in
      let two = second.stands (seat_of i) u hu in
      acked_by_once o opens run obeys (seat_of i) t u (first.from (seat_of i) t ht honestly) (second.from (seat_of i) u hu honestly)
      (one.1 ∙ sym two.1) (one.2 ∙ sym two.2)

-- More than (n + 3f)/2 votes for a slip.
pub record Quorum (o : Opening) (bad : Seat → Bool) (run : Run) (t : Transfer) : Type 0 where
  pub entry : Entry
  pub tally : Tally o bad run t.account t.number entry
  pub many : o.seats + 3 * o.faults < 2 * count_below (λ i. holds t (vote entry i)) o.seats

-- At least n - f votes, of which no slip has more than this one.
pub record Majority (o : Opening) (bad : Seat → Bool) (run : Run) (u : Transfer) : Type 0 where
  pub entry : Entry
  pub tally : Tally o bad run u.account u.number entry
  pub recorded : o.seats ≤ count_below (λ i. is_some (vote entry i)) o.seats + o.faults
  pub most : (t : Transfer) → count_below (λ i. holds t (vote entry i)) o.seats ≤ count_below (λ i. holds u (vote entry i)) o.seats

module _ (o : Opening) (bad : Seat → Bool) (run : Run) (opens : Opens o) (few : FewBad o bad) (obeys : Obeys o run) where
  -- two slips with quorums for one account and number are equal
  pub quorums_agree : (t u : Transfer) → Quorum o bad run t → Quorum o bad run u → t.account ≡ u.account → t.number ≡ u.number → t ≡ u
  quorums_agree t u first second account number =
      let one = same_tally o bad run opens _ _ _ _ first.entry account number first.tally in
      two_quorums (λ i. bad (seat_of i)) o.seats o.faults (vote first.entry) (vote second.entry) few
      (votes_agree o bad run opens obeys u.account u.number first.entry second.entry one second.tally)
      t u first.many second.many

  -- a slip with a quorum is the one that is put forward
  pub quorum_proposed : (t u : Transfer) → Quorum o bad run t → Majority o bad run u → t.account ≡ u.account → t.number ≡ u.number → t ≡ u
  quorum_proposed t u first second account number =
      let one = same_tally o bad run opens _ _ _ _ first.entry account number first.tally in
      quorum_most (λ i. bad (seat_of i)) o.seats o.faults (vote first.entry) (vote second.entry) few
      (votes_agree o bad run opens obeys u.account u.number first.entry second.entry one second.tally)
      t u first.many second.recorded (second.most t)

-- K rests on a quorum, and P on a majority
module _ (o : Opening) (bad : Seat → Bool) (run : Run) (opens : Opens o) (l : Ledger) (ok : Sound o l) where
  pub accept_quorum : (s : Seat) (t : Transfer) → Recording l s t → FromSenders o bad run (entry_with_ack l s t)
      → l.seats + 3 * l.faults < 2 * acks_for t (entry_with_ack l s t).acks → Quorum o bad run t
  accept_quorum s t new from many =
      let tally = tally_of_lem o bad run opens l s t ok new from in
      let counted = votes_counted o bad run opens t.account t.number (entry_with_ack l s t) tally (holds t) refl in
      record { entry = entry_with_ack l s t; tally = tally; many = omega (arith, rw (ok.seats_same, ok.faults_same) at many) }

  pub propose_majority : {next : Ledger} (m : Message) (u : Transfer) (p : Proposes l m u next) → FromSenders o bad run (entry_with_ack l p.sender p.slip)
      → Majority o bad run u
  propose_majority m u p from =
      let found = proposes_for o l m u (group o opens) ok p in
      record {
        entry = x;
        tally = same_tally o bad run opens _ _ _ _ x (sym found.0) (sym found.1) tally;
        recorded = omega (arith, counted is_some refl, rw (ok.seats_same, ok.faults_same) at p.recorded);
        most = λ v. omega (arith, counted (holds v) refl, counted (holds u) refl, p.most v);
      }
    where
      t : Transfer
      t = p.slip

      x : Entry
      x = entry_with_ack l p.sender t

      tally : Tally o bad run t.account t.number x
      tally = tally_of_lem o bad run opens l p.sender t ok p.records from

      counted : (test : Slot → Bool) → test None ≡ false
          → count (λ (k : AckSlot). test k.slot) x.acks ≡ count_below (λ i. test (vote x i)) o.seats
      counted = votes_counted o bad run opens t.account t.number x tally
