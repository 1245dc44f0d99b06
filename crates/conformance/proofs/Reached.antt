-- Every ledger that a run reaches can be told by its places: what stands in it passed the rules, so it has
-- a value and a known recipient.
use Rattle.std.proofs.lemmas.Bool.{or_parts}
use Rattle.std.specs.Prelude.{Some}
use Prim.Native.Nat.{◌<◌}
use native.Mathlib.Omega.{arith}
use mathlib.Core.Path.{◌≡◌, refl, ap, sym, ◌∙◌}
use mathlib.Core.Logic.{◌⊎◌, inl, inr}
use mathlib.Core.Bool.{◌||◌}
use mathlib.Core.List.{List}
use lib.Dec.{eqb, ltb}
use borrow.Author.Tests.{eqb-false}
use Rattle.laws.specs.Types.{Seat, Account, Transfer, AckSlot, Entry, Ledger, Opening, Message, Reply}
use Rattle.runs.specs.Runs.{Opens, Run, ledger_at, Obeys}
use Rattle.agreement.proofs.Soundness.{group, SoundEntry, Sound, no_acks_lem, opened_entry, recorded_read}
use Rattle.agreement.proofs.StepLaws.{Puts, puts_mark, puts_ack, puts_proposal, puts_accepted, puts_ruled, puts_late, each_entry}
use Rattle.agreement.proofs.Reachable.{sound, everywhere}
use Rattle.model.specs.Records.{with_balance, entry_of}
use Rattle.model.specs.Acks.{ack_at}
use Rattle.model.specs.Switches.{Rules}
use Rattle.model.specs.Refusals.{ack_from, unknown_account}
use Rattle.laws.proofs.Sums.{impossible}
use Rattle.laws.proofs.Opened.{Group}
use Rattle.laws.proofs.Booking.{SameButBalance, Cleared}
use Rattle.laws.proofs.Switching.{takes_over, switched_entry, takes_over_keeps, takes_over_from}
use Rattle.laws.proofs.Steps.{Eligible, Recordable, entry_with_ack, retain_keeps, retained_or, waiting_under, Happens}
use Rattle.layout.specs.Words.{EntryTold, LedgerTold}

-- a slip that moves something, to a recipient whose number is a byte
abbrev Moves : Transfer → Type 0
Moves t = (0 < t.value) × (t.recipient.0 < 256)

-- each slip that stands in an entry does
record AllMove (e : Entry) : Type 0 where
  pub acks : (s : Seat) (t : Transfer) → ack_from e s ≡ Some t → Moves t
  pub pending : (t : Transfer) → e.pending ≡ Some t → Moves t
  pub retained : (t : Transfer) → e.retained ≡ Some t → Moves t

-- and where the acks, what waits and what is retained stay
same_move : (e e' : Entry) → e'.acks ≡ e.acks → e'.pending ≡ e.pending → e'.retained ≡ e.retained → AllMove e → AllMove e'
same_move e e' acks pending retained all =
    record {
      acks = λ s t h. all.acks s t (ap (λ (x : List AckSlot). ack_at x s.0) (sym acks) ∙ h);
      pending = λ t h. all.pending t (sym pending ∙ h);
      retained = λ t h. all.retained t (sym retained ∙ h);
    }

module _ (o : Opening) (opens : Opens o) where
  -- so does a slip that rule 5 did not refuse
  eligible_moves : (l : Ledger) (t : Transfer) → Sound o l → Eligible l t → Moves t
  eligible_moves l t ok fit =
      let accounts = unknown_account l t.account || unknown_account l t.recipient in
      let below = or_parts (accounts || eqb t.number 0 || eqb t.value 0) (ltb l.total t.value) fit.in_range in
      let value = or_parts (accounts || eqb t.number 0) (eqb t.value 0) below.0 in
      (omega (arith, eqb-false t.value 0 value.1), omega (arith, fit.recipient_known, ok.accounts_same, (group o opens).accounts_fit))

  module _ (l : Ledger) (ok : Sound o l) (old : (a : Account) → AllMove (entry_of l a)) where
    recorded_move : (s : Seat) (t : Transfer) → Eligible l t → Recordable l s t → AllMove (entry_with_ack l s t)
    recorded_move s t fit new =
        record { acks = λ z u h. go z u (recorded_read o l s t (group o opens) ok fit new z u h); pending = (old t.account).pending; retained = (old t.account).retained }
      where
        go : (z : Seat) (u : Transfer) → ((z ≡ s) × (u ≡ t)) ⊎ (ack_from (entry_of l t.account) z ≡ Some u) → Moves u
        go z u (inl this) = rw this.1 (eligible_moves l t ok fit)
        go z u (inr before) = (old t.account).acks z u before

    waiting_moves : (v : Rules) (e : Entry) (t : Transfer) → Eligible l t → AllMove e → AllMove (waiting_under v e t)
    waiting_moves v e t fit all =
        record {
          acks = λ s u h. all.acks s u (ap (λ (x : Entry). ack_from x s) (sym (retain_keeps v e t)) ∙ h);
          pending = λ u h. this u (let same : t ≡ u = cc in same);
          retained = λ u h. go u (retained_or v e t u h);
        }
      where
        this : (u : Transfer) → t ≡ u → Moves u
        this u same = rw (← same) (eligible_moves l t ok fit)

        go : (u : Transfer) → (e.retained ≡ Some u) ⊎ (t ≡ u) → Moves u
        go u (inl before) = all.retained u before
        go u (inr same) = this u same

    -- one call keeps it
    step_moves : (v : Rules) (m : Message) (r : Reply) (next : Ledger) → Happens v l m r next → (a : Account) → AllMove (entry_of next a)
    step_moves v m r next h = each_entry o l next m r (group o opens) ok (λ a e. AllMove e) on_balance on_booked old puts h
      where
        on_balance : (a : Account) (e e' : Entry) → SameButBalance e e' → AllMove e → AllMove e'
        on_balance a e e' same all = rw same (same_move e (with_balance e e'.balance) refl refl refl all)

        on_booked : (a : Account) (e e' : Entry) (t : Transfer) → SoundEntry o a e → e.pending ≡ Some t → Cleared t e e' → AllMove e → AllMove e'
        on_booked a e e' t stands waits clear all =
            record {
              acks = λ s u h. impossible (cc (rw clear.no_acks_lem at h, no_acks_lem s));
              pending = λ u h. impossible (cc (clear.none_pending, h));
              retained = λ u h. all.retained u (sym clear.retained_same ∙ h);
            }

        puts : (t : Transfer) (x : Entry) → Puts v l m r t x → AllMove x
        puts t x (puts_mark e f fit is) = rw is (same_move (entry_of l t.account) _ refl refl refl (old t.account))
        puts t x (puts_ack s e fit new is) = rw is (recorded_move s t fit new)
        puts t x (puts_proposal s w e f fit new for is) =
            rw is (same_move (entry_with_ack l s t) _ refl refl refl (recorded_move s t fit new))
        puts t x (puts_accepted s c e f fit new full is) = rw is (waiting_moves v (entry_with_ack l s t) t fit (recorded_move s t fit new))
        puts t x (puts_ruled c e f fit is) = rw is (waiting_moves v (entry_of l t.account) t fit (old t.account))
        puts t x (puts_late s u since e f join is) = rw is (same_move (entry_of l t.account) _ refl refl refl (old t.account))

  module _ (s : Seat) where
    -- at every place of a run
    all_move : (run : Run) → Obeys o run → (a : Account) → AllMove (entry_of (ledger_at o s run) a)
    all_move =
        everywhere o opens s (λ v l. (a : Account) → AllMove (entry_of l a))
        (λ v l ok old a. rw (switched_entry v l a) (taken_moves v (entry_of l a) (old a)))
        (λ v l next m q ok h old. step_moves l ok old v m q next h)
        (λ v a.
        rw (opened_entry o a)
        (record { acks = λ z t h. impossible (cc (h, no_acks_lem z)); pending = λ t h. impossible (cc); retained = λ t h. impossible (cc) }))
      where
        taken_moves : (v : Rules) (e : Entry) → AllMove e → AllMove (takes_over v e)
        taken_moves v e all =
            record {
              acks = λ z t h. all.acks z t (ap (λ (x : Entry). ack_from x z) (sym (takes_over_keeps v e)) ∙ h);
              pending = λ t h. all.pending t (ap (λ (x : Entry). x.pending) (sym (takes_over_keeps v e)) ∙ h);
              retained = λ t h. go t (takes_over_from v e t h);
            }
          where
            go : (t : Transfer) → (e.retained ≡ Some t) ⊎ (e.pending ≡ Some t) → Moves t
            go t (inl before) = all.retained t before
            go t (inr waits) = all.pending t waits

    pub reached_told : (run : Run) → Obeys o run → LedgerTold (ledger_at o s run)
    reached_told run obeys =
        record {
          seats_fit = rw ok.seats_same g.seats_fit;
          faults_fit = rw ok.faults_same (omega (arith, g.seats_fit, g.few_faults));
          accounts_fit = rw ok.accounts_same g.accounts_fit;
          size = ok.size;
          each = told;
        }
      where
        g : Group o
        g = group o opens

        ok : Sound o (ledger_at o s run)
        ok = sound o opens s run obeys

        told : (a : Account) → EntryTold a (entry_of (ledger_at o s run) a)
        told a =
            let sizes = ok.each a in
            let moves = all_move run obeys a in
            record {
              acks_size = sizes.acks_size;
              acks = λ z t h.
                  let stands = sizes.acks_stand z t h in
                  let moved = moves.acks z t h in
                  record { account = stands.1; number = stands.2; value = moved.0; recipient = moved.1 };
              pending = λ t h.
                  let moved = moves.pending t h in
                  record { account = (sizes.pending_stands t h).0; number = refl; value = moved.0; recipient = moved.1 };
              retained = λ t h.
                  let moved = moves.retained t h in
                  record { account = (sizes.retained_stands t h).0; number = refl; value = moved.0; recipient = moved.1 };
            }
