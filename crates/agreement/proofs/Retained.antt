-- What a seat retains, and what it puts forward: under the rules since request 5 the latest accepted slip, before them
-- nothing; and at most one slip, one time, for an account and number.
use Rattle.std.proofs.lemmas.Bool.{and_parts}
use Rattle.std.specs.Prelude.{Some, None}
use Prim.Native.Nat.{ℕ, ◌+◌, ◌≤◌, ◌<◌}
use native.Mathlib.Omega.{arith}
use mathlib.Core.Path.{◌≡◌, refl, ap, sym, subst, ◌∙◌}
use mathlib.Core.Logic.{◌⊎◌, inl, inr}
use mathlib.Core.Bool.{true}
use lib.ListN.{length}
use Rattle.laws.specs.Types.{Seat, Account, Transfer, Slot, Entry, Ledger, Opening, Message, Reply, Propose}
use Rattle.runs.specs.Runs.{Opens, Call, message, waiting_list, switch, Event, Run, ◌▹◌, Within, at_end, sooner, same_seat, rules_at, ledger_at, Obeys, accepted, proposed, passes}
use Rattle.runs.proofs.Found.{happened_found}
use Rattle.runs.specs.Facts.{puts_for, proposed_for}
use Rattle.agreement.proofs.Places.{before, within_trans, Order, same_event, earlier, later, order, happened_holds, happened_later, obeys_before, seat_is, seat_self, rules_after_lem, ledger_after_lem}
use Rattle.agreement.proofs.Deeds.{accepting_call, passes_is}
use Rattle.agreement.proofs.Proposals.{carried}
use Rattle.agreement.proofs.Soundness.{opened_entry, group, SoundEntry, booked_retained, Sound, admitted}
use Rattle.agreement.proofs.StepLaws.{Puts, puts_mark, puts_ack, puts_proposal, puts_accepted, puts_ruled, puts_late, each_entry, just_retained, Proposes, ProposesLate, answer_propose, proposes_for}
use Rattle.agreement.proofs.Reachable.{sound, run_induction, stays, everywhere, past_calls, happened_at, put_forward}
use Rattle.model.specs.Basics.{bit}
use Rattle.model.specs.Records.{with_balance, with_proposed, with_retained_proposed, entry_of}
use Rattle.model.specs.Settling.{is_waiting}
use Rattle.model.specs.Switches.{Rules, first_rules, since_request3, since_request5, rank, next_rules, retains_from, switched}
use Rattle.model.specs.Transfers.{same_number}
use Rattle.laws.proofs.Sums.{impossible, same_test}
use Rattle.laws.proofs.Equality.{same_number_lem, number_same, conflict_sound}
use Rattle.laws.proofs.Access.{with_entry_same}
use Rattle.laws.proofs.Booking.{SameButBalance, Cleared}
use Rattle.laws.proofs.Opened.{Group}
use Rattle.laws.proofs.Switching.{takes_over, switched_entry}
use Rattle.laws.proofs.Steps.{Eligible, entry_with_ack, waiting_under, Happens}

-- a slip of the next number, where nothing waits, is not retained
none_next : (o : Opening) (l : Ledger) (t u : Transfer) → Group o → Sound o l → Eligible l t → (entry_of l t.account).retained ≡ Some u
    → u.number ≡ t.number → ⊥
none_next o l t u g ok fit held number =
    omega (
      arith,
      fit.is_next,
      booked_retained o t.account (entry_of l t.account) (ok.each t.account) (admitted o l t g ok fit).none_waits u held,
    )

-- What an entry retains under a set of rules: something since request 5 alone, and then what waits, if anything
-- does, or else what was booked last.
pub record Latest (v : Rules) (e : Entry) : Type 0 where
  pub slip : (t : Transfer) → e.retained ≡ Some t
      → (v ≡ since_request5) × ((e.pending ≡ Some t) ⊎ ((e.pending ≡ None) × (t.number ≡ e.current)))
  pub waiting : v ≡ since_request5 → (t : Transfer) → e.pending ≡ Some t → e.retained ≡ Some t
  pub mark : e.retained_proposed ≡ true → v ≡ since_request5

-- where a slip is accepted
accepted_latest : (v : Rules) (e : Entry) (t : Transfer) → Latest v e → Latest v (waiting_under v e t)
accepted_latest first_rules e t old =
    record { slip = λ u h. impossible (let not_yet = (old.slip u h).0 in cc); waiting = λ since u h. impossible (cc); mark = old.mark }
accepted_latest since_request3 e t old =
    record { slip = λ u h. impossible (let not_yet = (old.slip u h).0 in cc); waiting = λ since u h. impossible (cc); mark = old.mark }
accepted_latest since_request5 e t old = record { slip = λ u h. (refl, inl h); waiting = λ since u h. h; mark = λ h. refl }

-- at a switch
taken_latest : (v : Rules) (e : Entry) → Latest v e → Latest (next_rules v) (takes_over v e)
taken_latest first_rules e old =
    record {
      slip = λ t h. impossible (let not_yet = (old.slip t h).0 in cc);
      waiting = λ since t h. impossible (cc);
      mark = λ h. impossible (let not_yet = old.mark h in cc);
    }
taken_latest since_request3 e old =
    record { slip = λ t h. go t e.pending refl h; waiting = λ since t h. waits t e.pending refl h; mark = λ h. refl }
  where
    waits : (t : Transfer) (p : Slot) → e.pending ≡ p → (retains_from p e).pending ≡ Some t → (retains_from p e).retained ≡ Some t
    waits t None is h = impossible (cc)
    waits t (Some u) is h = sym is ∙ h

    go : (t : Transfer) (p : Slot) → e.pending ≡ p → (retains_from p e).retained ≡ Some t
        → (since_request5 ≡ since_request5)
        × (((retains_from p e).pending ≡ Some t) ⊎ (((retains_from p e).pending ≡ None) × (t.number ≡ (retains_from p e).current)))
    go t None is h = impossible (cc)
    go t (Some u) is h = (refl, inl (is ∙ h))
taken_latest since_request5 e old = old

step_latest : (v : Rules) (o : Opening) (l next : Ledger) (m : Message) (r : Reply) → Group o → Sound o l → Happens v l m r next
    → ((a : Account) → Latest v (entry_of l a)) → (a : Account) → Latest v (entry_of next a)
step_latest v o l next m r g ok h old =
    each_entry o l next m r g ok (λ a x. Latest v x) (λ a e e' same was. rw same (as_before e (with_balance e e'.balance) refl refl refl refl was))
    booked old puts h
  where
    -- of an entry with the same current number, waiting slip, retained slip and mark
    as_before : (e e' : Entry) → e'.current ≡ e.current → e'.pending ≡ e.pending → e'.retained ≡ e.retained → e'.retained_proposed ≡ e.retained_proposed
        → Latest v e → Latest v e'
    as_before e e' current pending retained mark was =
        record {
          slip = λ t this. rw (pending, current) (was.slip t (sym retained ∙ this));
          waiting = λ since t this. retained ∙ was.waiting since t (sym pending ∙ this);
          mark = λ this. was.mark (sym mark ∙ this);
        }

    booked : (a : Account) (e e' : Entry) (t : Transfer) → SoundEntry o a e → e.pending ≡ Some t → Cleared t e e' → Latest v e → Latest v e'
    booked a e e' t stands waits clear was =
        record {
          slip = λ u this. let found = was.slip u (sym clear.retained_same ∙ this) in (found.0, inr (clear.none_pending, number u found.1));
          waiting = λ since u this. impossible (cc (this, clear.none_pending));
          mark = λ this. was.mark (sym clear.late_same ∙ this);
        }
      where
        number : (u : Transfer) → (e.pending ≡ Some u) ⊎ ((e.pending ≡ None) × (u.number ≡ e.current)) → u.number ≡ e'.current
        number u (inl that) = let same : t ≡ u = cc in ap (λ (x : Transfer). x.number) (sym same) ∙ sym clear.current_is
        number u (inr missing) = impossible (cc (missing.0, waits))

    puts : (t : Transfer) (x : Entry) → Puts v l m r t x → Latest v x
    puts t x (puts_mark e f fit is) = rw is (as_before (entry_of l t.account) _ refl refl refl refl (old t.account))
    puts t x (puts_ack s e fit new is) = rw is (as_before (entry_of l t.account) _ refl refl refl refl (old t.account))
    puts t x (puts_proposal s w e f fit new for is) = rw is (as_before (entry_of l t.account) _ refl refl refl refl (old t.account))
    puts t x (puts_accepted s c e f fit new full is) =
        rw is (accepted_latest v (entry_with_ack l s t) t (as_before (entry_of l t.account) _ refl refl refl refl (old t.account)))
    puts t x (puts_ruled c e f fit is) = rw is (accepted_latest v (entry_of l t.account) t (old t.account))
    puts t x (puts_late s u since e f join is) = rw is (record { slip = (old t.account).slip; waiting = (old t.account).waiting; mark = λ this. since })

module _ (o : Opening) (opens : Opens o) (s : Seat) where
  -- at every place of a run
  pub latest : (r : Run) → Obeys o r → (a : Account) → Latest (rules_at s r) (entry_of (ledger_at o s r) a)
  latest =
      everywhere o opens s (λ v l. (a : Account) → Latest v (entry_of l a))
      (λ v l ok old a. rw (switched_entry v l a) (taken_latest v (entry_of l a) (old a)))
      (λ v l next m q ok h old. step_latest v o l next m q (group o opens) ok h old)
      (λ v a. rw (opened_entry o a) (record { slip = λ t h. impossible (cc); waiting = λ since t h. impossible (cc); mark = λ h. impossible (cc) }))

-- The slip is the latest that was accepted under the rules since request 5, and is
-- retained; or a later one was accepted.
abbrev Retains : Transfer → Entry → Type 0
Retains t e = (t.number < e.current + bit (is_waiting e)) ⊎ (e.retained ≡ Some t)

retains_step : (v : Rules) (o : Opening) (l next : Ledger) (m : Message) (r : Reply) (t : Transfer) → Group o → Sound o l → v ≡ since_request5 → Happens v l m r next
    → (a : Account) → Retains t (entry_of l a) → Retains t (entry_of next a)
retains_step v o l next m r t g ok since =
    each_entry o l next m r g ok (λ a x. Retains t (entry_of l a) → Retains t x)
    (λ a e e' same was old. on_balance e e' same (was old))
    (λ a e e' u stands waits clear was old. on_booked a e e' u stands waits clear (was old))
    (λ a old. old) puts
  where
    on_balance : (e e' : Entry) → SameButBalance e e' → Retains t e → Retains t e'
    on_balance e e' same old = rw same old

    on_booked : (a : Account) (e e' : Entry) (u : Transfer) → SoundEntry o a e → e.pending ≡ Some u → Cleared u e e' → Retains t e → Retains t e'
    on_booked a e e' u stands waits clear (inl past) =
        let waited : bit (is_waiting e) ≡ 1 = rw waits in
        inl (omega (arith, clear.current_is, (stands.pending_stands u waits).1))
    on_booked a e e' u stands waits clear (inr held) = inr (clear.retained_same ∙ held)

    -- a slip of the next number is accepted
    accepts_next : (u : Transfer) (x : Entry) → Eligible l u → x.current ≡ (entry_of l u.account).current → x.pending ≡ (entry_of l u.account).pending
        → x.retained ≡ (entry_of l u.account).retained
        → Retains t (entry_of l u.account) → Retains t (waiting_under v x u)
    accepts_next u x fit current pending retained old = rw since (go old)
      where
        go : Retains t (entry_of l u.account) → Retains t (waiting_under since_request5 x u)
        go (inl past) =
            let none : bit (is_waiting (entry_of l u.account)) ≡ 0 = rw (admitted o l u g ok fit).none_waits in
            inl (omega arith)
        go (inr held) =
            let e = entry_of l u.account in
            let past = booked_retained o u.account e (ok.each u.account) (admitted o l u g ok fit).none_waits t held in
            inl (omega arith)

    puts : (u : Transfer) (x : Entry) → Puts v l m r u x → Retains t (entry_of l u.account) → Retains t x
    puts u x (puts_mark e f fit is) = rw is (λ old. old)
    puts u x (puts_ack z e fit new is) = rw is (λ old. old)
    puts u x (puts_proposal z w e f fit new for is) = rw is (λ old. old)
    puts u x (puts_accepted z c e f fit new full is) = rw is (accepts_next u (entry_with_ack l z u) fit refl refl refl)
    puts u x (puts_ruled c e f fit is) = rw is (accepts_next u (entry_of l u.account) fit refl refl refl)
    puts u x (puts_late z w late e f join is) = rw is (λ old. old)

-- the rules from request 5 on are the newest
pub since_5 : (v : Rules) → rank since_request5 ≤ rank v → v ≡ since_request5
since_5 first_rules h = absurd (omega arith)
since_5 since_request3 h = absurd (omega arith)
since_5 since_request5 h = refl

module _ (o : Opening) (opens : Opens o) (run : Run) (obeys : Obeys o run) where
  -- for as long as it is the latest
  pub retains_latest : (p q : Run) (e : Event) (t : Transfer) → Within (p ▹ e) q → Within q run
      → accepted e.call ≡ Some t → rank since_request5 ≤ rank (rules_at e.at p)
      → t.number ≡ (entry_of (ledger_at o e.at q) t.account).current + bit (is_waiting (entry_of (ledger_at o e.at q) t.account))
      → (entry_of (ledger_at o e.at q) t.account).retained ≡ Some t
  retains_latest p q e t w v is above number = end (stays o opens s P switches steps (obeys_before o obeys v) w at_first).1
    where
      s : Seat
      s = e.at

      P : Rules → Ledger → Type 0
      P v l = (v ≡ since_request5) × Retains t (entry_of l t.account)

      switches : (v : Rules) (l : Ledger) → Sound o l → P v l → P (next_rules v) (switched v l)
      switches v l ok old = subst (λ (x : Rules). P (next_rules x) (switched x l)) (sym old.0) (refl, old.1)

      steps : (v : Rules) (l next : Ledger) (m : Message) (q : Reply) → Sound o l → Happens v l m q next → P v l → P v next
      steps v l next m q ok h old = (old.0, retains_step v o l next m q t (group o opens) ok old.0 h t.account old.1)

      since : rules_at s p ≡ since_request5
      since = since_5 (rules_at s p) above

      at_first : P (rules_at s (p ▹ e)) (ledger_at o s (p ▹ e))
      at_first =
          let call = accepting_call e.call t is in
          let happens = happened_at o call.0 call.1 (obeys_before o obeys v) w call.2 in
          let ok = sound o opens s p (obeys_before o obeys (within_trans (before w) v)) in (
            rules_after_lem s p e call.0 call.1 refl call.2 ∙ since,
            inr
                (rw (ledger_after_lem o s p e call.0 call.1 refl call.2)
                (just_retained (rules_at s p) o (ledger_at o s p) _ call.0 call.1 t (group o opens) ok since (sym (ap accepted call.2) ∙ is) happens)),
          )

      end : Retains t (entry_of (ledger_at o s q) t.account) → (entry_of (ledger_at o s q) t.account).retained ≡ Some t
      end (inl later_one) = absurd (omega arith)
      end (inr held) = held

-- the next number's mark is set, or, since request 5, the number is retained
abbrev MarkedOrRetained : ℕ → Rules → Entry → Type 0
MarkedOrRetained number v e =
    (e.proposed ≡ true) ⊎ ((v ≡ since_request5) × (u : Transfer) × (e.retained ≡ Some u) × (u.number ≡ number))

-- A number is used up in an entry, under a set of rules: something was put forward for it, so nothing is any
-- more. It is not above the next; if it is the next, its mark is set, or, since request 5, it is retained; and if
-- it is retained, that mark is set.
pub record UsedUp (number : ℕ) (v : Rules) (e : Entry) : Type 0 where
  pub not_above : number ≤ e.current + 1
  pub next_marked : number ≡ e.current + 1 → MarkedOrRetained number v e
  pub late_marked : (u : Transfer) → e.retained ≡ Some u → u.number ≡ number → e.retained_proposed ≡ true

-- an entry of the same number with the same or more marks
still_used : (number : ℕ) (v : Rules) (e e' : Entry) → e'.current ≡ e.current → (e.proposed ≡ true → e'.proposed ≡ true) → e'.retained ≡ e.retained
    → (e.retained_proposed ≡ true → e'.retained_proposed ≡ true) → UsedUp number v e → UsedUp number v e'
still_used number v e e' current marked retained late old =
    record {
      not_above = omega (arith, old.not_above);
      next_marked = λ next. go (old.next_marked (omega arith));
      late_marked = λ u h this. late (old.late_marked u (sym retained ∙ h) this);
    }
  where
    go : MarkedOrRetained number v e → MarkedOrRetained number v e'
    go (inl is) = inl (marked is)
    go (inr (since, u, held, this)) = inr (since, u, retained ∙ held, this)

-- a slip of the next number is accepted, where only a number that has been booked is
-- retained: it is retained with its mark
accepted_used : (number : ℕ) (v : Rules) (e : Entry) (t : Transfer) → t.number ≡ e.current + 1
    → ((u : Transfer) → e.retained ≡ Some u → u.number ≡ t.number → ⊥) → UsedUp number v e → UsedUp number v (waiting_under v e t)
accepted_used number first_rules e t next none_held old = still_used number first_rules e (waiting_under first_rules e t) refl (λ h. h) refl (λ h. h) old
accepted_used number since_request3 e t next none_held old = still_used number since_request3 e (waiting_under since_request3 e t) refl (λ h. h) refl (λ h. h) old
accepted_used number since_request5 e t next none_held old =
    record {
      not_above = old.not_above;
      next_marked = λ this. inl (marked this (old.next_marked this));
      late_marked = λ u h this.
          let slip : t ≡ u = cc in
          let is : number ≡ e.current + 1 = omega (arith, ap (λ (x : Transfer). x.number) slip) in
          marked is (old.next_marked is);
    }
  where
    marked : number ≡ e.current + 1 → MarkedOrRetained number since_request5 e → e.proposed ≡ true
    marked is (inl yes_marked) = yes_marked
    marked is (inr (since, u, held, this)) = absurd (none_held u held (omega arith))

-- at a switch what waits is retained with its mark
taken_used : (number : ℕ) (o : Opening) (a : Account) (v : Rules) (e : Entry) → SoundEntry o a e → UsedUp number v e → UsedUp number (next_rules v) (takes_over v e)
taken_used number o a first_rules e ok old =
    record { not_above = old.not_above; next_marked = λ next. go (old.next_marked next); late_marked = old.late_marked }
  where
    go : MarkedOrRetained number first_rules e → MarkedOrRetained number since_request3 e
    go (inl is) = inl is
    go (inr (since, u, held, this)) = impossible (cc)
taken_used number o a since_request3 e ok old = go e.pending refl
  where
    marked : number ≡ e.current + 1 → e.proposed ≡ true
    marked next = pick (old.next_marked next)
      where
        pick : MarkedOrRetained number since_request3 e → e.proposed ≡ true
        pick (inl is) = is
        pick (inr (since, u, held, this)) = impossible (cc)

    go : (p : Slot) → e.pending ≡ p → UsedUp number since_request5 (retains_from p e)
    go None is =
        record { not_above = old.not_above; next_marked = λ next. inl (marked next); late_marked = λ u h this. impossible (cc) }
    go (Some t) is =
        record {
          not_above = old.not_above;
          next_marked = λ next. inl (marked next);
          late_marked = λ u h this.
              let slip : t ≡ u = cc in
              marked (omega (arith, (ok.pending_stands t is).1, ap (λ (x : Transfer). x.number) slip));
        }
taken_used number o a since_request5 e ok old = old

-- a call keeps it
used_step : (v : Rules) (number : ℕ) (o : Opening) (l next : Ledger) (m : Message) (r : Reply) → Group o → Sound o l → Happens v l m r next
    → (a : Account) → UsedUp number v (entry_of l a) → UsedUp number v (entry_of next a)
used_step v number o l next m r g ok =
    each_entry o l next m r g ok (λ a x. UsedUp number v (entry_of l a) → UsedUp number v x)
    (λ a e e' same was old. rw same (still_used number v e (with_balance e e'.balance) refl (λ h. h) refl (λ h. h) (was old)))
    (λ a e e' t stands waits clear was old. on_booked a e e' t stands waits clear (was old))
    (λ a old. old) puts
  where
    on_booked : (a : Account) (e e' : Entry) (t : Transfer) → SoundEntry o a e → e.pending ≡ Some t → Cleared t e e' → UsedUp number v e → UsedUp number v e'
    on_booked a e e' t stands waits clear old =
        let current : e'.current ≡ e.current + 1 = clear.current_is ∙ (stands.pending_stands t waits).1 in
        record {
          not_above = omega (arith, old.not_above);
          next_marked = λ next. absurd (omega (arith, old.not_above));
          late_marked = λ u h this. clear.late_same ∙ old.late_marked u (sym clear.retained_same ∙ h) this;
        }

    puts : (t : Transfer) (x : Entry) → Puts v l m r t x → UsedUp number v (entry_of l t.account) → UsedUp number v x
    puts t x (puts_mark e f fit is) = rw is (still_used number v (entry_of l t.account) _ refl (λ h. h) refl (λ h. h))
    puts t x (puts_ack s e fit new is) = rw is (still_used number v (entry_of l t.account) _ refl (λ h. h) refl (λ h. h))
    puts t x (puts_proposal s w e f fit new for is) = rw is (still_used number v (entry_of l t.account) _ refl (λ h. refl) refl (λ h. h))
    puts t x (puts_accepted s c e f fit new full is) =
        rw is
        (λ old.
        accepted_used number v (entry_with_ack l s t) t fit.is_next (λ u. none_next o l t u g ok fit)
        (still_used number v (entry_of l t.account) (entry_with_ack l s t) refl (λ h. h) refl (λ h. h) old))
    puts t x (puts_ruled c e f fit is) =
        rw is (accepted_used number v (entry_of l t.account) t fit.is_next (λ u. none_next o l t u g ok fit))
    puts t x (puts_late s u since e f join is) = rw is (still_used number v (entry_of l t.account) _ refl (λ h. h) refl (λ h. refl))

module _ (o : Opening) (opens : Opens o) where
  abbrev Spent : Call → Rules → Ledger → Type 0
  Spent c v l = (u : Transfer) → proposed c ≡ Some u → UsedUp u.number v (entry_of l u.account)

  -- the call that puts something forward uses its number up
  now_used : (v : Rules) (l next : Ledger) (m : Message) (q : Reply) → Sound o l → Happens v l m q next → Spent (message m q) v next
  now_used v l next m q ok h u is = go (answer_propose l next m q u (carried q u is) h)
    where
      go : Proposes l m u next ⊎ ProposesLate v l m u next → UsedUp u.number v (entry_of next u.account)
      go (inl found) =
          let t = found.slip in
          let fit = found.records.eligible in
          let same = proposes_for o l m u (group o opens) ok found in
          let entry =
          ap (λ (x : Ledger). entry_of x t.account) found.marks
          ∙ with_entry_same l t.account (with_proposed (entry_with_ack l found.sender t)) (admitted o l t (group o opens) ok fit).inside in
          rw (same.0, entry)
          (record {
            not_above = omega (arith, same.1, fit.is_next);
            next_marked = λ next. inl refl;
            late_marked = λ w held this. absurd (none_next o l t w (group o opens) ok fit held (this ∙ same.1));
          })
      go (inr late) =
          let t = late.slip in
          let clash = conflict_sound u t late.joins.conflicting in
          let inside : t.account.0 < length l.entries = omega (arith, late.joins.account_known, ok.accounts_same, ok.size, (group o opens).accounts_fit) in
          let entry = ap (λ (x : Ledger). entry_of x t.account) late.marks ∙ with_entry_same l t.account (with_retained_proposed (entry_of l t.account)) inside in
          rw (clash.account, entry)
          (record {
            not_above = number ((ok.each t.account).retained_stands u late.joins.is_retained).1;
            next_marked = λ next. inr (late.since, u, late.joins.is_retained, refl);
            late_marked = λ w held this. refl;
          })
        where
          number : ((entry_of l late.slip.account).pending ≡ Some u) ⊎ (u.number ≤ (entry_of l late.slip.account).current)
              → u.number ≤ (entry_of l late.slip.account).current + 1
          number (inl waits) = omega (arith, ((ok.each late.slip.account).pending_stands u waits).1)
          number (inr past) = omega arith

  -- so it is at every later place
  pub spent : (s : Seat) (r : Run) → Obeys o r → (p : Run) (e : Event) → Within (p ▹ e) r → e.at ≡ s → Spent e.call (rules_at s r) (ledger_at o s r)
  spent s =
      past_calls o opens s Spent (λ v l b a q u is. impossible (cc)) (λ v l u is. impossible (cc)) now_used
      (λ c v l ok old u is. rw (switched_entry v l u.account) (taken_used u.number o u.account v (entry_of l u.account) (ok.each u.account) (old u is)))
      (λ c v l next m q ok h old u is. used_step v u.number o l next m q (group o opens) ok h u.account (old u is))

  module _ (run : Run) (obeys : Obeys o run) where
    -- and nothing more is put forward for it
    none_more : (p q : Run) (e d : Event) (t u : Transfer) → Within (q ▹ d) run → Within (p ▹ e) q → e.at ≡ d.at
        → proposed e.call ≡ Some t → proposed d.call ≡ Some u → t.account ≡ u.account → t.number ≡ u.number → ⊥
    none_more p q e d t u w first seat ist isu account number =
        go (put_forward o u obeys w isu).3
      where
        here : Obeys o q
        here = obeys_before o obeys (before w)

        l : Ledger
        l = ledger_at o d.at q

        ok : Sound o l
        ok = sound o opens d.at q here

        used : UsedUp u.number (rules_at d.at q) (entry_of l u.account)
        used = rw (← account, ← number) (spent d.at q here p e first seat t ist)

        go : {m : Message} {next : Ledger} → Proposes l m u next ⊎ ProposesLate (rules_at d.at q) l m u next → ⊥
        go {m} (inl found) = pick (there.next_marked (same.1 ∙ fit.is_next))
          where
            fit : Eligible l found.slip
            fit = found.records.eligible

            same : (u.account ≡ found.slip.account) × (u.number ≡ found.slip.number)
            same = proposes_for o l m u (group o opens) ok found

            there : UsedUp u.number (rules_at d.at q) (entry_of l found.slip.account)
            there = rw (← same.0) used

            pick : MarkedOrRetained u.number (rules_at d.at q) (entry_of l found.slip.account) → ⊥
            pick (inl marked) = impossible (cc (marked, found.nothing_proposed))
            pick (inr (since, x, held, this)) = none_next o l found.slip x (group o opens) ok fit held (this ∙ same.1)
        go (inr late) =
            let clash = conflict_sound u late.slip late.joins.conflicting in
            let there : UsedUp u.number (rules_at d.at q) (entry_of l late.slip.account) = rw (← clash.account) used in
            impossible (cc (there.late_marked u late.joins.is_retained refl, late.joins.nothing_proposed))

    -- at most one slip, and at most one time
    pub proposed_once : (p q : Run) (e d : Event) (t u : Transfer) → Within (p ▹ e) run → Within (q ▹ d) run → e.at ≡ d.at
        → proposed e.call ≡ Some t → proposed d.call ≡ Some u → t.account ≡ u.account → t.number ≡ u.number
        → (t ≡ u) × (p ≡ q) × (e ≡ d)
    proposed_once p q e d t u w v seat ist isu account number = go (order run w v)
      where
        go : Order p q e d → (t ≡ u) × (p ≡ q) × (e ≡ d)
        go (same_event place event) =
            let both : Some t ≡ Some u = sym ist ∙ (ap (λ (x : Event). proposed x.call) event ∙ isu) in
            (cc, place, event)
        go (earlier first) = absurd (none_more p q e d t u v first seat ist isu account number)
        go (later first) = absurd (none_more q p d e u t w first (sym seat) isu ist (sym account) (sym number))

-- Why a mark is set: a call at the seat put something forward for its number.
module _ (o : Opening) (opens : Opens o) (s : Seat) where
  record Marked (r : Run) (a : Account) (e : Entry) : Type 0 where
    pub next_why : e.proposed ≡ true → (t : Transfer) → t.account ≡ a → t.number ≡ e.current + 1 → proposed_for s t r ≡ true
    pub retained_why : (t : Transfer) → e.retained ≡ Some t → e.retained_proposed ≡ true → proposed_for s t r ≡ true

  -- the same marks of the same numbers, at the same place or later
  marks_stay : (r r' : Run) (a : Account) (e e' : Entry) → Within r r' → e'.current ≡ e.current → e'.proposed ≡ e.proposed → e'.retained ≡ e.retained
      → e'.retained_proposed ≡ e.retained_proposed → Marked r a e → Marked r' a e'
  marks_stay r r' a e e' w current proposed_same retained late why =
      record {
        next_why = λ h t account number.
            happened_later (puts_for s t) w (why.next_why (sym proposed_same ∙ h) t account (number ∙ ap (λ m. m + 1) current));
        retained_why = λ t held h. happened_later (puts_for s t) w (why.retained_why t (sym retained ∙ held) (sym late ∙ h));
      }

  -- a slip of the next number is accepted, and retained with its mark
  accepted_marked : (r : Run) (v : Rules) (e : Entry) (t : Transfer) → t.number ≡ e.current + 1 → Marked r t.account e → Marked r t.account (waiting_under v e t)
  accepted_marked r first_rules e t next why = marks_stay r r t.account e (waiting_under first_rules e t) at_end refl refl refl refl why
  accepted_marked r since_request3 e t next why = marks_stay r r t.account e (waiting_under since_request3 e t) at_end refl refl refl refl why
  accepted_marked r since_request5 e t next why =
      record {
        next_why = why.next_why;
        retained_why = λ u held h. let same : t ≡ u = cc in rw (← same) (why.next_why h t refl next);
      }

  -- at a switch what waits is retained with its mark
  taken_marked : (r : Run) (v : Rules) (a : Account) (e : Entry) → SoundEntry o a e → Marked r a e → Marked r a (takes_over v e)
  taken_marked r first_rules a e ok why = why
  taken_marked r since_request3 a e ok why = go e.pending refl
    where
      go : (p : Slot) → e.pending ≡ p → Marked r a (retains_from p e)
      go None is = record { next_why = why.next_why; retained_why = λ t held h. impossible (cc) }
      go (Some t) is =
          let stands = ok.pending_stands t is in
          record {
            next_why = why.next_why;
            retained_why = λ u held h. let same : t ≡ u = cc in rw (← same) (why.next_why h t stands.0 stands.1);
          }
  taken_marked r since_request5 a e ok why = why

  step_marked : (v : Rules) (r : Run) (m : Message) (q : Reply) (l next : Ledger) → Sound o l → Happens v l m q next
      → ((a : Account) → Marked r a (entry_of l a)) → (a : Account) → Marked (r ▹ record { at = s; call = message m q }) a (entry_of next a)
  step_marked v r m q l next ok h old =
      each_entry o l next m q (group o opens) ok (Marked now)
      (λ a e e' same was. rw same (marks_stay now now a e (with_balance e e'.balance) at_end refl refl refl refl was))
      (λ a e e' t stands waits clear was.
      record {
        next_why = λ this. impossible (cc (this, clear.not_proposed));
        retained_why = λ u held this. was.retained_why u (sym clear.retained_same ∙ held) (sym clear.late_same ∙ this);
      })
      later_on puts h
    where
      now : Run
      now = r ▹ record { at = s; call = message m q }

      later_on : (a : Account) → Marked now a (entry_of l a)
      later_on a = marks_stay r now a (entry_of l a) (entry_of l a) (sooner at_end) refl refl refl refl (old a)

      -- this call puts u forward, for t's number
      this_call : (u t : Transfer) → q ≡ Propose u → t.account ≡ u.account → t.number ≡ u.number → proposed_for s t now ≡ true
      this_call u t is account number =
          happened_holds (puts_for s t) {p = r} {r = now} {e = record { at = s; call = message m q }} at_end
          (rw (seat_self s, is, same_number_lem t u account number))

      as_it_was_lem : (a : Account) (x : Entry) → x.current ≡ (entry_of l a).current → x.proposed ≡ (entry_of l a).proposed → x.retained ≡ (entry_of l a).retained
          → x.retained_proposed ≡ (entry_of l a).retained_proposed → Marked now a x
      as_it_was_lem a x current mark retained late = marks_stay now now a (entry_of l a) x at_end current mark retained late (later_on a)

      puts : (t : Transfer) (x : Entry) → Puts v l m q t x → Marked now t.account x
      puts t x (puts_mark e f fit is) = rw is (as_it_was_lem t.account _ refl refl refl refl)
      puts t x (puts_ack z e fit new is) = rw is (as_it_was_lem t.account _ refl refl refl refl)
      puts t x (puts_proposal z u e f fit new for is) =
          rw is
          (record {
            next_why = λ this w account number. this_call u w f (account ∙ sym for.0) (number ∙ sym (for.1 ∙ fit.is_next));
            retained_why = (later_on t.account).retained_why;
          })
      puts t x (puts_accepted z c e f fit new full is) =
          rw is (accepted_marked now v (entry_with_ack l z t) t fit.is_next (as_it_was_lem t.account (entry_with_ack l z t) refl refl refl refl))
      puts t x (puts_ruled c e f fit is) = rw is (accepted_marked now v (entry_of l t.account) t fit.is_next (later_on t.account))
      puts t x (puts_late z u since e f join is) =
          rw is
          (record {
            next_why = (later_on t.account).next_why;
            retained_why = λ w held this. let same : u ≡ w = cc (held, join.is_retained) in subst (λ x. proposed_for s x now ≡ true) same (this_call u u f refl refl);
          })

  -- at every place of a run
  marked : (r : Run) → Obeys o r → (a : Account) → Marked r a (entry_of (ledger_at o s r) a)
  marked =
      run_induction o opens s (λ r v l. (a : Account) → Marked r a (entry_of l a))
      (λ from a. rw (opened_entry o a) (record { next_why = λ h. impossible (cc); retained_why = λ t held h. impossible (cc) }))
      (λ r e v l other old a. marks_stay r (r ▹ e) a (entry_of l a) (entry_of l a) (sooner at_end) refl refl refl refl (old a))
      (λ r b c q v l old a. marks_stay r (r ▹ record { at = s; call = waiting_list b q c }) a (entry_of l a) (entry_of l a) (sooner at_end) refl refl refl refl (old a))
      (λ r v l ok old a.
      rw (switched_entry v l a)
      (marks_stay r (r ▹ record { at = s; call = switch }) a (takes_over v (entry_of l a)) (takes_over v (entry_of l a)) (sooner at_end) refl refl refl refl
      (taken_marked r v a (entry_of l a) (ok.each a) (old a))))
      (λ r v m q l next ok h old. step_marked v r m q l next ok h old)

  -- something with a slip's account and number was put forward, so that number is used up
  was_for : (r : Run) → Obeys o r → (t : Transfer) → proposed_for s t r ≡ true → UsedUp t.number (rules_at s r) (entry_of (ledger_at o s r) t.account)
  was_for r obeys t h =
      let found = happened_found (puts_for s t) r h in
      let parts = and_parts (same_seat found.1.at s) (passes (same_number t) (proposed found.1.call)) found.3 in
      let slip = passes_is (same_number t) (proposed found.1.call) parts.1 in
      let alike = number_same t slip.0 slip.2 in
      moved slip.0 alike.0 alike.1
      (spent o opens s r obeys found.0 found.1 found.2 (seat_is found.1.at s parts.0) slip.0 slip.1)
    where
      moved : (u : Transfer) → t.account ≡ u.account → t.number ≡ u.number
          → UsedUp u.number (rules_at s r) (entry_of (ledger_at o s r) u.account) → UsedUp t.number (rules_at s r) (entry_of (ledger_at o s r) t.account)
      moved u account number used = rw (account, number) used

  pub retained_marked : (r : Run) → Obeys o r → (a : Account) (t : Transfer) → (entry_of (ledger_at o s r) a).retained ≡ Some t
      → (entry_of (ledger_at o s r) a).retained_proposed ≡ proposed_for s t r
  retained_marked r obeys a t held = same_test _ _ ((marked r obeys a).retained_why t held) back
    where
      back : proposed_for s t r ≡ true → (entry_of (ledger_at o s r) a).retained_proposed ≡ true
      back h =
          let own = (((sound o opens s r obeys).each a).retained_stands t held).0 in
          let used : UsedUp t.number (rules_at s r) (entry_of (ledger_at o s r) a) = rw (← own) (was_for r obeys t h) in
          used.late_marked t held refl

  pub next_marked : (r : Run) → Obeys o r → (t : Transfer) → t.number ≡ (entry_of (ledger_at o s r) t.account).current + 1
      → (entry_of (ledger_at o s r) t.account).pending ≡ None → (entry_of (ledger_at o s r) t.account).proposed ≡ proposed_for s t r
  next_marked r obeys t next none_waits = same_test _ _ (λ h. (marked r obeys t.account).next_why h t refl next) back
    where
      e : Entry
      e = entry_of (ledger_at o s r) t.account

      pick : MarkedOrRetained t.number (rules_at s r) e → e.proposed ≡ true
      pick (inl is_set) = is_set
      pick (inr (since, x, held, same)) =
          absurd (omega (arith, booked_retained o t.account e ((sound o opens s r obeys).each t.account) none_waits x held))

      back : proposed_for s t r ≡ true → e.proposed ≡ true
      back h = pick ((was_for r obeys t h).next_marked next)
