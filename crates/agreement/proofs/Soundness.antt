-- What is sound in a ledger: sizes, sums, and what its stored slips are. What a call stores keeps it so.
use Rattle.std.specs.Prelude.{Some, None}
use Prim.Native.Nat.{ℕ, zero, suc, ◌+◌, ◌*◌, ◌≤◌, ◌<◌}
use native.Mathlib.Omega.{arith}
use mathlib.Core.Path.{◌≡◌, refl, ap, sym, ◌∙◌}
use mathlib.Core.Logic.{◌≢◌, ◌⊎◌, inl, inr}
use mathlib.Core.Bool.{Bool, true, false}
use native.Mathlib.Decide.{ℕ_discrete}
use lib.ListN.{length, get_or, replicate, length-set, get_or-map, length-map}
use lib.Seq.{get_or-set_same, get_or-set_other}
use borrow.Author.Tests.{ltb-true, eq-eqb}
use Rattle.laws.specs.Types.{Seat, Account, Transfer, Slot, AckSlot, Entry, Ledger, Opening}
use Rattle.runs.specs.Runs.{Opens}
use Rattle.model.specs.Basics.{bit, sum_of}
use Rattle.model.specs.Records.{seat_of, account_of, no_acks, fresh_entry, fresh_ledger, with_ack, with_pending, with_retained, with_none_retained, sum_balances, with_entries, with_entry, entry_of}
use Rattle.model.specs.Transfers.{same_number, equal}
use Rattle.model.specs.Acks.{holds, conflicts, acks_for, enough}
use Rattle.model.specs.Refusals.{out_of_range, waits_already, ack_from}
use Rattle.model.specs.Settling.{settle}
use Rattle.model.specs.Switches.{Rules, first_rules, since_request3, since_request5, retains_from, switched}
use Rattle.laws.proofs.Sums.{impossible, sum_set, sum_set_same, sum_same_each}
use Rattle.laws.proofs.Equality.{equal_sound, equal_refl, Conflict, conflict_complete}
use Rattle.laws.proofs.Access.{no_acks_length, set_each, set_entry_length}
use Rattle.laws.proofs.Booking.{SameButBalance, Cleared}
use Rattle.laws.proofs.Settles.{Bounded, NextWaits, settle_each, settle_sum, settle_length}
use Rattle.laws.proofs.Opened.{Group, opened_group}
use Rattle.laws.proofs.Witnesses.{fresh_sum}
use Rattle.laws.proofs.Switching.{takes_over, switched_entry, switched_keeps, switched_group, switched_length}
use Rattle.laws.proofs.Steps.{Eligible, Recordable, entry_with_ack, waiting_under, accepted_in}

-- the group of an opening page that a run is about
pub group : (o : Opening) → Opens o → Group o
group o opens = opened_group o opens.not_refused

-- what is retained is of this account, and waits or has been booked
abbrev pub RetainedStands : Account → Entry → Type 0
RetainedStands a e = (t : Transfer) → e.retained ≡ Some t → (t.account ≡ a) × ((e.pending ≡ Some t) ⊎ (t.number ≤ e.current))

-- An account's entry: its acks and its waiting slip are of this account and of the next number, acks are from seats of
-- the group, a slip with enough recorded acks is the one that waits, and what is retained stands.
pub record SoundEntry (o : Opening) (a : Account) (e : Entry) : Type 0 where
  pub acks_size : length e.acks ≡ 16
  pub acks_stand : (s : Seat) (t : Transfer) → ack_from e s ≡ Some t → (s.0 < o.seats) × (t.account ≡ a) × (t.number ≡ e.current + 1)
  pub pending_stands : (t : Transfer) → e.pending ≡ Some t
      → (t.account ≡ a) × (t.number ≡ e.current + 1) × (t.account.0 < o.accounts) × (t.recipient.0 < o.accounts)
  pub decided : (t : Transfer) → enough o.seats o.faults (acks_for t e.acks) ≡ true → e.pending ≡ Some t
  pub retained_stands : RetainedStands a e

pub record Sound (o : Opening) (l : Ledger) : Type 0 where
  pub seats_same : l.seats ≡ o.seats
  pub faults_same : l.faults ≡ o.faults
  pub accounts_same : l.accounts ≡ o.accounts
  pub total_same : l.total ≡ sum_of (λ b. b) o.balances
  pub size : length l.entries ≡ 32
  pub sum_same : sum_balances l.entries ≡ sum_of (λ b. b) o.balances
  pub each : (a : Account) → SoundEntry o a (entry_of l a)

-- no ack is recorded
pub no_acks_lem : (s : Seat) → (get_or no_acks s.0 (record { slot = None })).slot ≡ None
unfolding no_acks
no_acks_lem s = ap (λ (a : AckSlot). a.slot) (all_same (record { slot = None }) 16 s.0)
  where
    all_same : (x : AckSlot) (n i : ℕ) → get_or (replicate n x) i x ≡ x
    all_same x zero i = refl
    all_same x (suc n) zero = refl
    all_same x (suc n) (suc i) = all_same x n i

no_acks_for : (t : Transfer) → acks_for t no_acks ≡ 0
unfolding no_acks
no_acks_for t = refl

module _ (o : Opening) where
  none_enough : (t : Transfer) → enough o.seats o.faults (acks_for t no_acks) ≡ true → ⊥
  none_enough t h =
      let few = ltb-true (o.seats + 3 * o.faults) (2 * acks_for t no_acks) h in
      omega (arith, no_acks_for t)

  -- an entry in which nothing is recorded and nothing waits
  quiet : (a : Account) (e : Entry) → e.acks ≡ no_acks → e.pending ≡ None → RetainedStands a e → SoundEntry o a e
  quiet a e acks pending retained =
      record {
        acks_size = rw acks no_acks_length;
        acks_stand = λ s t h. impossible (cc (rw acks at h, no_acks_lem s));
        pending_stands = λ t h. impossible (cc);
        decided = λ t h. absurd (none_enough t (rw acks at h));
        retained_stands = retained;
      }

  -- what stays where acks, current and the waiting slip stay, with something else retained
  retained_sound : (a : Account) (e e' : Entry) → e'.acks ≡ e.acks → e'.current ≡ e.current → e'.pending ≡ e.pending
      → RetainedStands a e' → SoundEntry o a e → SoundEntry o a e'
  retained_sound a e e' acks current pending retained ok =
      record {
        acks_size = rw acks ok.acks_size;
        acks_stand = λ s t h. rw current (ok.acks_stand s t (rw acks at h));
        pending_stands = λ t h. rw current (ok.pending_stands t (rw pending at h));
        decided = λ t h. rw pending (ok.decided t (rw acks at h));
        retained_stands = retained;
      }

  -- and where the retained slip stays too
  pub marked_sound : (a : Account) (e e' : Entry) → e'.acks ≡ e.acks → e'.current ≡ e.current → e'.pending ≡ e.pending → e'.retained ≡ e.retained
      → SoundEntry o a e → SoundEntry o a e'
  marked_sound a e e' acks current pending retained ok =
      retained_sound a e e' acks current pending (λ t h. rw (current, pending) (ok.retained_stands t (sym retained ∙ h))) ok

  kept_sound : (a : Account) (e e' : Entry) → SameButBalance e e' → SoundEntry o a e → SoundEntry o a e'
  kept_sound a e e' same =
      marked_sound a e e' (ap (λ (x : Entry). x.acks) same) (ap (λ (x : Entry). x.current) same) (ap (λ (x : Entry). x.pending) same)
      (ap (λ (x : Entry). x.retained) same)

  booked_sound : (a : Account) (e e' : Entry) (t : Transfer) → e.pending ≡ Some t → Cleared t e e' → SoundEntry o a e → SoundEntry o a e'
  booked_sound a e e' t waits clear ok = quiet a e' clear.no_acks_lem clear.none_pending stands
    where
      past : (u : Transfer) → (e.pending ≡ Some u) ⊎ (u.number ≤ e.current) → u.number ≤ e'.current
      past u (inl this) = let same : t ≡ u = cc in omega (arith, clear.current_is, ap (λ (x : Transfer). x.number) same)
      past u (inr before) = omega (arith, clear.current_is, (ok.pending_stands t waits).1)

      stands : RetainedStands a e'
      stands u h = let was = ok.retained_stands u (sym clear.retained_same ∙ h) in (was.0, inr (past u was.1))

  -- an account for which a call brings an eligible slip has nothing that waits
  idle : (a : Account) (e : Entry) (t : Transfer) → SoundEntry o a e → t.account ≡ a → t.number ≡ e.current + 1
      → waits_already e.pending t ≡ false → e.pending ≡ None
  idle a e t ok account next free = go e.pending refl free
    where
      go : (p : Slot) → e.pending ≡ p → waits_already p t ≡ false → p ≡ None
      go None h free = refl
      go (Some u) h free =
          let stands = ok.pending_stands u h in
          let same : same_number u t ≡ true =
          rw (eq-eqb u.account.0 t.account.0 (ap (λ (b : Account). b.0) (stands.0 ∙ sym account)))
          (eq-eqb u.number t.number (omega (arith, stands.1))) in
          impossible (cc)

  -- and has no ack recorded from a seat whose ack neither 9 nor 10 refuses
  unrecorded : (a : Account) (e : Entry) (s : Seat) (t : Transfer) → SoundEntry o a e → t.account ≡ a → t.number ≡ e.current + 1
      → holds t (ack_from e s) ≡ false → conflicts t (ack_from e s) ≡ false → ack_from e s ≡ None
  unrecorded a e s t ok account next differs agrees = go (ack_from e s) refl differs agrees
    where
      go : (p : Slot) → ack_from e s ≡ p → holds t p ≡ false → conflicts t p ≡ false → p ≡ None
      go None h differs agrees = refl
      go (Some u) h differs agrees =
          let stands = ok.acks_stand s u h in
          let both : Conflict u t =
          record {
            account = stands.1 ∙ sym account;
            number = stands.2 ∙ sym next;
            differ = λ same. impossible (cc (differs, equal_refl t, same));
          } in
          impossible (cc (agrees, conflict_complete u t both))

  -- where nothing waits, what is retained has been booked
  pub booked_retained : (a : Account) (e : Entry) → SoundEntry o a e → e.pending ≡ None → (u : Transfer) → e.retained ≡ Some u → u.number ≤ e.current
  booked_retained a e ok empty u held = go (ok.retained_stands u held).1
    where
      go : (e.pending ≡ Some u) ⊎ (u.number ≤ e.current) → u.number ≤ e.current
      go (inl waits) = impossible (cc)
      go (inr past) = past

  -- so it stands where a slip is accepted too
  past_retained : (a : Account) (e : Entry) (t : Transfer) → SoundEntry o a e → e.pending ≡ None → RetainedStands a (with_pending e t)
  past_retained a e t ok empty u h = ((ok.retained_stands u h).0, inr (booked_retained a e ok empty u h))

  -- one more ack is recorded
  module _ (a : Account) (e : Entry) (s : Seat) (t : Transfer)
      (fits : o.seats ≤ 16) (ok : SoundEntry o a e) (account : t.account ≡ a) (next : t.number ≡ e.current + 1)
      (known : s.0 < o.seats) (free : ack_from e s ≡ None)
    where
      inside : s.0 < length e.acks
      inside = omega (arith, ok.acks_size)

      -- it is read back, and the others stay
      ack_read : (z : Seat) (u : Transfer) → ack_from (with_ack e s t) z ≡ Some u → ((z ≡ s) × (u ≡ t)) ⊎ (ack_from e z ≡ Some u)
      ack_read z u h = go (ℕ_discrete z.0 s.0)
        where
          none_yet : AckSlot
          none_yet = record { slot = None }

          go : Dec (z.0 ≡ s.0) → ((z ≡ s) × (u ≡ t)) ⊎ (ack_from e z ≡ Some u)
          go (yes same) =
              let at : z ≡ s = ap seat_of same in
              let new = get_or-set_same e.acks s.0 (record { slot = Some t }) none_yet inside in
              let read : Some t ≡ Some u = sym (ap (λ (x : AckSlot). x.slot) new) ∙ (rw same at h) in
              inl (at, cc)
          go (no other) =
              let old = get_or-set_other e.acks s.0 z.0 (record { slot = Some t }) none_yet other in
              inr (sym (ap (λ (x : AckSlot). x.slot) old) ∙ h)

      ack_new : ack_from (with_ack e s t) s ≡ Some t
      ack_new =
          ap (λ (x : AckSlot). x.slot) (get_or-set_same e.acks s.0 (record { slot = Some t }) (record { slot = None }) inside)

      ack_kept : (z : Seat) (u : Transfer) → ack_from e z ≡ Some u → ack_from (with_ack e s t) z ≡ Some u
      ack_kept z u h =
          let other : z.0 ≢ s.0 = λ same. let at : z ≡ s = ap seat_of same in impossible (cc (h, free)) in
          let old = get_or-set_other e.acks s.0 z.0 (record { slot = Some t }) (record { slot = None }) other in
          ap (λ (x : AckSlot). x.slot) old ∙ h

      -- the count of its slip rises by one, and no other
      ack_counted : (u : Transfer) → acks_for u (with_ack e s t).acks ≡ acks_for u e.acks + bit (equal t u)
      ack_counted u =
          let change = sum_set (λ x. bit (holds u x.slot)) e.acks s.0 (record { slot = Some t }) (record { slot = None }) inside in
          let before : bit (holds u (ack_from e s)) ≡ 0 = rw free in
          omega arith

      stand : (z : Seat) (u : Transfer) → ack_from (with_ack e s t) z ≡ Some u → (z.0 < o.seats) × (u.account ≡ a) × (u.number ≡ e.current + 1)
      stand z u h = go (ack_read z u h)
        where
          go : ((z ≡ s) × (u ≡ t)) ⊎ (ack_from e z ≡ Some u) → (z.0 < o.seats) × (u.account ≡ a) × (u.number ≡ e.current + 1)
          go (inl new) = rw (new.0, new.1) (known, account, next)
          go (inr old) = ok.acks_stand z u old

      -- where nothing waits, only its slip can have enough acks
      only_this : e.pending ≡ None → (u : Transfer) → enough o.seats o.faults (acks_for u (with_ack e s t).acks) ≡ true → u ≡ t
      only_this empty u h = go (equal t u) refl
        where
          go : (b : Bool) → equal t u ≡ b → u ≡ t
          go true same = sym (equal_sound t u same)
          go false other =
              let count : acks_for u (with_ack e s t).acks ≡ acks_for u e.acks = ack_counted u ∙ rw other (omega arith) in
              impossible (cc (ok.decided u (rw count at h), empty))

      noted_sound : e.pending ≡ None → enough o.seats o.faults (acks_for t (with_ack e s t).acks) ≡ false → SoundEntry o a (with_ack e s t)
      noted_sound empty few =
          record {
            acks_size = rw length-set ok.acks_size;
            acks_stand = stand;
            pending_stands = λ u h. impossible (cc);
            decided = λ u h. impossible (let same : u ≡ t = only_this empty u h in cc (few));
            retained_stands = ok.retained_stands;
          }

      accepted_sound : e.pending ≡ None → t.account.0 < o.accounts → t.recipient.0 < o.accounts → SoundEntry o a (with_pending (with_ack e s t) t)
      accepted_sound empty payer recipient =
          record {
            acks_size = rw length-set ok.acks_size;
            acks_stand = stand;
            pending_stands = λ u h. let same : t ≡ u = cc in rw (← same) (account, next, payer, recipient);
            decided = λ u h. ap Some (sym (only_this empty u h));
            retained_stands = past_retained a e t ok empty;
          }

  -- a ruling's slip waits
  ruled_sound : (a : Account) (e : Entry) (t : Transfer) → SoundEntry o a e → t.account ≡ a → t.number ≡ e.current + 1
      → e.pending ≡ None → t.account.0 < o.accounts → t.recipient.0 < o.accounts → SoundEntry o a (with_pending e t)
  ruled_sound a e t ok account next empty payer recipient =
      record {
        acks_size = ok.acks_size;
        acks_stand = ok.acks_stand;
        pending_stands = λ u h. let same : t ≡ u = cc in rw (← same) (account, next, payer, recipient);
        decided = λ u h. impossible (cc (ok.decided u h, empty));
        retained_stands = past_retained a e t ok empty;
      }

-- the bounds under which settling is in plain numbers
pub bounded : (o : Opening) (l : Ledger) → Group o → Sound o l → Bounded l.entries
bounded o l g ok =
    record {
      sum_fits = rw ok.sum_same g.sum_fits;
      recipients = λ a t h. omega (arith, ((ok.each a).pending_stands t h).3, ok.size, g.accounts_fit);
    }

-- and each waiting slip has its account's next number
pub next_waits : (o : Opening) (l : Ledger) → Sound o l → NextWaits l.entries
next_waits o l ok a t h = ((ok.each a).pending_stands t h).1

-- an opened ledger has fresh entries with the page's balances
pub opened_entry : (o : Opening) (a : Account) → entry_of (fresh_ledger o) a ≡ fresh_entry (get_or o.balances a.0 0)
opened_entry o a = get_or-map fresh_entry o.balances a.0 0

-- and is sound
pub opened_sound : (o : Opening) → Opens o → Sound o (fresh_ledger o)
opened_sound o opens =
    record {
      seats_same = refl;
      faults_same = refl;
      accounts_same = refl;
      total_same = refl;
      size = length-map o.balances fresh_entry ∙ opens.full_page;
      sum_same = fresh_sum o.balances;
      each = λ a. rw (opened_entry o a) (quiet o a (fresh_entry (get_or o.balances a.0 0)) refl refl (λ t h. impossible (cc)));
    }

-- a switch keeps a ledger sound: what it retains waits
takes_over_sound : (o : Opening) (a : Account) (v : Rules) (e : Entry) → SoundEntry o a e → SoundEntry o a (takes_over v e)
takes_over_sound o a first_rules e ok = ok
takes_over_sound o a since_request3 e ok = go e.pending refl
  where
    go : (p : Slot) → e.pending ≡ p → SoundEntry o a (retains_from p e)
    go None is = retained_sound o a e (with_none_retained e) refl refl refl (λ t h. impossible (cc)) ok
    go (Some t) is =
        retained_sound o a e (with_retained e t) refl refl refl
        (λ u h. let same : t ≡ u = cc in rw (← same) ((ok.pending_stands t is).0, inl is)) ok
takes_over_sound o a since_request5 e ok = ok

pub switched_sound : (o : Opening) (l : Ledger) (v : Rules) → Sound o l → Sound o (switched v l)
switched_sound o l v ok =
    let same = switched_group v l in
    let balances =
    sum_same_each (λ e. e.balance) (switched v l).entries l.entries (fresh_entry 0) (switched_length v l)
    (λ i. ap (λ (e : Entry). e.balance) (switched_keeps v l (account_of i))) in
    record {
      seats_same = same.seats_same ∙ ok.seats_same;
      faults_same = same.faults_same ∙ ok.faults_same;
      accounts_same = same.accounts_same ∙ ok.accounts_same;
      total_same = same.total_same ∙ ok.total_same;
      size = switched_length v l ∙ ok.size;
      sum_same = balances ∙ ok.sum_same;
      each = λ a. rw (switched_entry v l a) (takes_over_sound o a v (entry_of l a) (ok.each a));
    }

module _ (o : Opening) (l : Ledger) (g : Group o) (ok : Sound o l) where
  -- a sound entry with the same balance is stored
  pub stored : (a : Account) (e : Entry) → SoundEntry o a e → e.balance ≡ (entry_of l a).balance → Sound o (with_entry l a e)
  stored a e new same =
      record {
        seats_same = ok.seats_same;
        faults_same = ok.faults_same;
        accounts_same = ok.accounts_same;
        total_same = ok.total_same;
        size = set_entry_length l.entries a e ∙ ok.size;
        sum_same = sum_set_same (λ x. x.balance) l.entries a.0 e (fresh_entry 0) same ∙ ok.sum_same;
        each = set_each (SoundEntry o) l.entries a e new ok.each;
      }

  -- and the waiting slips are settled
  settled_sound : Sound o (with_entries l (settle l.entries).entries)
  settled_sound =
      record {
        seats_same = ok.seats_same;
        faults_same = ok.faults_same;
        accounts_same = ok.accounts_same;
        total_same = ok.total_same;
        size = settle_length l.entries ∙ ok.size;
        sum_same = (settle_sum l.entries (bounded o l g ok)).0 ∙ ok.sum_same;
        each = settle_each (SoundEntry o) (kept_sound o) (booked_sound o) l.entries ok.each;
      }

-- sound ledgers of one page have the same range
pub same_range : (o : Opening) (l k : Ledger) (t : Transfer) → Sound o l → Sound o k → out_of_range l t ≡ out_of_range k t
same_range o l k t ok too = rw (ok.accounts_same, ok.total_same, too.accounts_same, too.total_same)

-- what holds of an eligible slip in a sound ledger
pub record Admitted (o : Opening) (l : Ledger) (t : Transfer) : Type 0 where
  pub none_waits : (entry_of l t.account).pending ≡ None
  pub payer_known : t.account.0 < o.accounts
  pub recipient_known : t.recipient.0 < o.accounts
  pub inside : t.account.0 < length l.entries

pub admitted : (o : Opening) (l : Ledger) (t : Transfer) → Group o → Sound o l → Eligible l t → Admitted o l t
admitted o l t g ok fit =
    record {
      none_waits = idle o t.account (entry_of l t.account) t (ok.each t.account) refl fit.is_next fit.not_waiting;
      payer_known = rw (← ok.accounts_same) fit.account_known;
      recipient_known = rw (← ok.accounts_same) fit.recipient_known;
      inside = omega (arith, ok.size, ok.accounts_same, fit.account_known, g.accounts_fit);
    }

-- what holds of an ack that is recorded in a sound ledger
module _ (o : Opening) (l : Ledger) (s : Seat) (t : Transfer) (g : Group o) (ok : Sound o l) (fit : Eligible l t) (new : Recordable l s t) where
  abbrev old : Entry
  old = entry_of l t.account

  known_seat : s.0 < o.seats
  known_seat = rw (← ok.seats_same) new.seat_known

  free_place : ack_from old s ≡ None
  free_place = unrecorded o t.account old s t (ok.each t.account) refl fit.is_next new.not_equal new.not_conflicting

  pub recorded_read : (z : Seat) (u : Transfer) → ack_from (entry_with_ack l s t) z ≡ Some u → ((z ≡ s) × (u ≡ t)) ⊎ (ack_from (entry_of l t.account) z ≡ Some u)
  recorded_read = ack_read o t.account old s t g.seats_fit (ok.each t.account) refl fit.is_next known_seat free_place

  pub recorded_new : ack_from (entry_with_ack l s t) s ≡ Some t
  recorded_new = ack_new o t.account old s t g.seats_fit (ok.each t.account) refl fit.is_next known_seat free_place

  pub recorded_kept : (z : Seat) (u : Transfer) → ack_from (entry_of l t.account) z ≡ Some u → ack_from (entry_with_ack l s t) z ≡ Some u
  recorded_kept = ack_kept o t.account old s t g.seats_fit (ok.each t.account) refl fit.is_next known_seat free_place

  pub recorded_counted : (u : Transfer) → acks_for u (entry_with_ack l s t).acks ≡ acks_for u (entry_of l t.account).acks + bit (equal t u)
  recorded_counted = ack_counted o t.account old s t g.seats_fit (ok.each t.account) refl fit.is_next known_seat free_place

  -- the account's entry with it is sound where it makes not enough; and in any case with its slip accepted
  pub noted_entry : enough l.seats l.faults (acks_for t (entry_with_ack l s t).acks) ≡ false → SoundEntry o t.account (entry_with_ack l s t)
  noted_entry few =
      noted_sound o t.account old s t g.seats_fit (ok.each t.account) refl fit.is_next known_seat free_place
      (admitted o l t g ok fit).none_waits (rw (ok.seats_same, ok.faults_same) at few)

  pub accepted_entry : SoundEntry o t.account (with_pending (entry_with_ack l s t) t)
  accepted_entry =
      let found = admitted o l t g ok fit in
      accepted_sound o t.account old s t g.seats_fit (ok.each t.account) refl fit.is_next known_seat free_place
      found.none_waits found.payer_known found.recipient_known

  -- and every ack in it is from one of the n seats, and of the slip's account and number
  pub recorded_stands : (z : Seat) (u : Transfer) → ack_from (entry_with_ack l s t) z ≡ Some u
      → (z.0 < o.seats) × (u.account ≡ t.account) × (u.number ≡ t.number)
  recorded_stands z u h =
      let stands = accepted_entry.acks_stand z u h in
      (stands.0, stands.1, stands.2 ∙ sym fit.is_next)

-- and the entry with a ruling's slip
pub ruled_entry : (o : Opening) (l : Ledger) (t : Transfer) → Group o → Sound o l → Eligible l t
    → SoundEntry o t.account (with_pending (entry_of l t.account) t)
ruled_entry o l t g ok fit =
    let found = admitted o l t g ok fit in
    ruled_sound o t.account (entry_of l t.account) t (ok.each t.account) refl fit.is_next found.none_waits
    found.payer_known found.recipient_known

-- the same with what the rules retain
pub retain_sound : (o : Opening) (v : Rules) (e : Entry) (t : Transfer) → SoundEntry o t.account (with_pending e t)
    → SoundEntry o t.account (waiting_under v e t)
retain_sound o first_rules e t ok = ok
retain_sound o since_request3 e t ok = ok
retain_sound o since_request5 e t ok =
    retained_sound o t.account (with_pending e t) (waiting_under since_request5 e t) refl refl refl
    (λ u h. let same : t ≡ u = cc in rw (← same) (refl, inl refl)) ok

-- a slip that is accepted waits, and then the waiting slips are settled
pub waits_sound : (o : Opening) (l : Ledger) (t : Transfer) (e : Entry) → Group o → Sound o l
    → e.balance ≡ (entry_of l t.account).balance → SoundEntry o t.account (with_pending e t)
    → Sound o (with_entry l t.account (with_pending e t))
waits_sound o l t e g ok same new = stored o l g ok t.account (with_pending e t) new same

pub accept_sound : (o : Opening) (l : Ledger) (t : Transfer) (e : Entry) → Group o → Sound o l
    → e.balance ≡ (entry_of l t.account).balance → SoundEntry o t.account (with_pending e t)
    → Sound o (with_entries l (accepted_in l e t).entries)
accept_sound o l t e g ok same new =
    settled_sound o (with_entry l t.account (with_pending e t)) g (waits_sound o l t e g ok same new)
