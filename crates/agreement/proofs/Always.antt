-- What holds of every run that obeys the definitions, premises or not: the statement is `Always` in Facts.antt of the
-- crate runs.
use Rattle.std.proofs.lemmas.Bool.{and_parts}
use Rattle.std.specs.Prelude.{Some, None}
use Prim.Native.Nat.{◌+◌, ◌≤◌, ◌<◌}
use native.Mathlib.Omega.{arith}
use mathlib.Core.Path.{◌≡◌, refl, ap, sym, ◌∙◌}
use mathlib.Core.Logic.{◌⊎◌, inl, inr}
use mathlib.Core.Bool.{Bool, true, false, ◌&&◌, ◌||◌, or-true}
use lib.ListN.{length}
use borrow.Author.Tests.{leb-false}
use Rattle.laws.specs.Types.{Seat, Account, Transfer, Slot, Entry, Ledger, Opening, Message, Request, Circulated, Ack, Decision, Inquiry, Reply, Circulate, Acknowledge, Accept, Propose, Note, Balance, Refuse}
use Rattle.runs.specs.Runs.{Opens, Call, message, waiting_list, switch, Event, Run, ◌▹◌, Within, same_seat, rules_at, ledger_at, Conforms, Obeys, is_accept, accepted, proposed, ruled, passes, at_end}
use Rattle.runs.proofs.Found.{happened_found, that_slip}
use Rattle.runs.specs.Facts.{answered_k, count_of, must_accept, accepted_by, taken, ruled_for, Always}
use Rattle.agreement.proofs.Places.{before, Order, same_event, earlier, later, order, happened_holds, obeys_before, obeys_at, ledger_after_lem}
use Rattle.agreement.proofs.Proposals.{happens_in_run}
use Rattle.agreement.proofs.Deeds.{accepting_call, deed_found}
use Rattle.agreement.proofs.Soundness.{opened_entry, next_waits, group, SoundEntry, Sound}
use Rattle.agreement.proofs.Reachable.{sound, stays, everywhere, past_calls, happened_at, put_forward}
use Rattle.agreement.proofs.Accounts.{behind, accounts_sum}
use Rattle.agreement.proofs.StepLaws.{step_sound, SameState, switched_state, Proposes, ProposesLate, proposes_for, answer_exactly, late_in_place, BookedOrWaits, none_eligible, current_rises, stays_settled, just_settled, Turn, keeps, accepts, turn}
use Rattle.agreement.proofs.Slated.{slated}
use Rattle.agreement.proofs.Reasons.{all_reasons, decided_accepted}
use Rattle.agreement.proofs.Acked.{acked_once}
use Rattle.agreement.proofs.Retained.{latest, since_5, retains_latest, proposed_once, retained_marked, next_marked}
use Rattle.model.specs.Records.{account_of, fresh_entry, with_pending, sum_currents, RetainsNothing, set_entry, with_entry, entry_of}
use Rattle.model.specs.Transfers.{equal}
use Rattle.model.specs.Acks.{holds, acks_for, enough}
use Rattle.model.specs.Basics.{bit}
use Rattle.model.specs.Settling.{is_waiting, affordable, settle}
use Rattle.model.specs.Switches.{Rules, since_request5, rank, switched, step_under}
use Rattle.laws.proofs.Sums.{impossible, same_test, sum_set_same, sum_same_each}
use Rattle.laws.proofs.Equality.{equal_sound, equal_refl}
use Rattle.laws.proofs.Opened.{Group}
use Rattle.laws.proofs.Steps.{Happens}
use Rattle.laws.proofs.Settles.{none_affordable, settle_done, settle_currents}

-- a call accepts exactly if it must
call_accepts : (o : Opening) (v : Rules) (l : Ledger) (c : Call) → Group o → Sound o l → Conforms v l c → answered_k c ≡ must_accept v l c
call_accepts o v l (message m r) g ok h = answer_exactly v o l _ m r g ok (happens_in_run v l m r h)
call_accepts o v l (waiting_list b q a) g ok h = refl
call_accepts o v l switch g ok h = refl

-- a ruling that is not refused accepts its slip
ruling_accepts : (c : Call) (v : Rules) (l : Ledger) (t : Transfer) → answered_k c ≡ must_accept v l c → ruled c ≡ Some t → taken c ≡ true → accepted c ≡ Some t
ruling_accepts (message (Request u) r) v l t exactly is ok = impossible (cc)
ruling_accepts (message (Circulated u) r) v l t exactly is ok = impossible (cc)
ruling_accepts (message (Ack s u) r) v l t exactly is ok = impossible (cc)
ruling_accepts (message (Decision u) r) v l t exactly is ok = rw (exactly, ok) is
ruling_accepts (message (Inquiry a) r) v l t exactly is ok = impossible (cc)
ruling_accepts (waiting_list b q a) v l t exactly is ok = impossible (cc)
ruling_accepts switch v l t exactly is ok = impossible (cc)

-- a reply that is not K has no count
no_count : (r : Reply) → is_accept r ≡ false → count_of r ≡ 0
no_count Circulate h = refl
no_count Acknowledge h = refl
no_count (Accept c) h = impossible (cc)
no_count (Propose t) h = refl
no_count Note h = refl
no_count (Balance b) h = refl
no_count (Refuse q) h = refl

-- K's count is the rise in the sum of current numbers, and no other reply comes with one
turn_count : (o : Opening) (l next : Ledger) (m : Message) (r : Reply) → Sound o l → Sound o next → Turn o l m r next
    → sum_currents next.entries ≡ sum_currents l.entries + count_of r
turn_count o l next m r ok then_ok (keeps same none_accepted not_k) =
    let size : length next.entries ≡ length l.entries = then_ok.size ∙ sym ok.size in
    let sums = sum_same_each (λ e. e.current) next.entries l.entries (fresh_entry 0) size (λ i. (same (account_of i)).1) in
    omega (arith, no_count r not_k)
turn_count o l next m r ok then_ok (accepts t this done) =
    let joined = set_entry l.entries t.account (with_pending done.entry t) in
    let before = sum_set_same (λ e. e.current) l.entries t.account.0 (with_pending done.entry t) (fresh_entry 0) done.same_current in
    let settled = settle_currents joined (next_waits o (with_entry l t.account (with_pending done.entry t)) done.waits_soundly) in
    rw (done.entries_are, done.replied) (omega (arith, settled))

-- no waiting slip is covered after a call, if none was before
turn_uncovered : (o : Opening) (l next : Ledger) (m : Message) (r : Reply) → Turn o l m r next
    → ((a : Account) → affordable (entry_of l a) ≡ false) → (a : Account) → affordable (entry_of next a) ≡ false
turn_uncovered o l next m r (keeps same none_accepted not_k) old a = rw ((same a).0, (same a).2) (old a)
turn_uncovered o l next m r (accepts t this done) old a =
    let joined = set_entry l.entries t.account (with_pending done.entry t) in
    rw done.entries_are (none_affordable (settle joined).entries (settle_done joined) a)

uncovered : (o : Opening) → Opens o → (s : Seat) (r : Run) → Obeys o r → (a : Account) → affordable (entry_of (ledger_at o s r) a) ≡ false
uncovered o opens s =
    everywhere o opens s (λ v l. (a : Account) → affordable (entry_of l a) ≡ false)
    (λ v l ok old a. let same = switched_state v l a in rw (same.0, same.2) (old a))
    (λ v l next m q ok h old. turn_uncovered o l next m q (turn o l next m q (group o opens) ok h) old)
    (λ v a. rw (opened_entry o a) refl)

-- Which slips were accepted at a seat, and which wait there.
module _ (o : Opening) (opens : Opens o) (s : Seat) where
  -- every accepted slip has been booked, or waits
  abbrev SettledCall : Call → Ledger → Type 0
  SettledCall c l = (t : Transfer) → accepted c ≡ Some t → BookedOrWaits t (entry_of l t.account)

  all_settled : (r : Run) → Obeys o r → (p : Run) (e : Event) → Within (p ▹ e) r → e.at ≡ s → SettledCall e.call (ledger_at o s r)
  all_settled =
      past_calls o opens s (λ c v l. SettledCall c l) (λ v l b a q t is. impossible (cc)) (λ v l t is. impossible (cc))
      (λ v l next m q ok h. just_settled o l next m q (group o opens) ok h)
      (λ c v l ok old t this. same_settled t (entry_of l t.account) (entry_of (switched v l) t.account) (switched_state v l t.account) (old t this))
      (λ c v l next m q ok h old t this. stays_settled o l next m q (group o opens) ok h t t.account (old t this))
    where
      same_settled : (t : Transfer) (e e' : Entry) → SameState e e' → BookedOrWaits t e → BookedOrWaits t e'
      same_settled t e e' same (inl past) = inl (omega (arith, same.1))
      same_settled t e e' same (inr waits) = inr (same.2 ∙ waits)

  -- so a later call accepts no slip of its number
  accepts_no_more : (p q : Run) (e d : Event) (t u : Transfer) → Obeys o (q ▹ d) → Within (p ▹ e) q → e.at ≡ s → d.at ≡ s
      → accepted e.call ≡ Some t → accepted d.call ≡ Some u → t.account ≡ u.account → t.number ≡ u.number → ⊥
  accepts_no_more p q e d t u obeys w there here is this account number = go (turn o l _ call.0 call.1 (group o opens) ok happens)
    where
      l : Ledger
      l = ledger_at o s q

      ok : Sound o l
      ok = sound o opens s q obeys.0

      call : (m : Message) × (r : Reply) × (d.call ≡ message m r)
      call = accepting_call d.call u this

      happens : Happens (rules_at s q) l call.0 call.1 (step_under (rules_at s q) l call.0).next
      happens = rw here at (happened_at o call.0 call.1 obeys at_end call.2)

      go : {next : Ledger} → Turn o l call.0 call.1 next → ⊥
      go (keeps same none_accepted not_k) = impossible (cc (none_accepted, ap accepted call.2, this))
      go (accepts w' that done) =
          let slip : u ≡ w' = cc (that, ap accepted call.2, this) in
          settled_clash (all_settled q obeys.0 p e w there t is) done.fits.none_waits slip done.is_next
        where
          settled_clash : BookedOrWaits t (entry_of l t.account) → (entry_of l w'.account).pending ≡ None → u ≡ w'
              → w'.number ≡ (entry_of l w'.account).current + 1 → ⊥
          settled_clash (inl past) none_waits slip next =
              omega (arith, number, ap (λ (x : Transfer). x.number) slip, ap (λ (a : Account). (entry_of l a).current) (account ∙ ap (λ (x : Transfer). x.account) slip))
          settled_clash (inr waits) none_waits slip next =
              impossible (cc (waits, none_waits, ap (λ (a : Account). (entry_of l a).pending) (account ∙ ap (λ (x : Transfer). x.account) slip)))

  -- a seat accepts at most one slip for an account and number
  accepted_once : (run p q : Run) (e d : Event) (t u : Transfer) → Obeys o run → Within (p ▹ e) run → Within (q ▹ d) run → e.at ≡ s → d.at ≡ s
      → accepted e.call ≡ Some t → accepted d.call ≡ Some u → t.account ≡ u.account → t.number ≡ u.number → t ≡ u
  accepted_once run p q e d t u obeys w v there here is this account number = go (order run w v)
    where
      go : Order p q e d → t ≡ u
      go (same_event place event) = let both : Some t ≡ Some u = sym is ∙ (ap (λ (x : Event). accepted x.call) event ∙ this) in cc
      go (earlier first) = absurd (accepts_no_more p q e d t u (obeys_before o obeys v) first there here is this account number)
      go (later first) = absurd (accepts_no_more q p d e u t (obeys_before o obeys w) first here there this is (sym account) (sym number))

  -- after it, only the accepted slip is put forward for its number, late: what another P carries is of an
  -- eligible slip's account and number
  only_accepted : (p q : Run) (e : Event) (c : Call) (t u : Transfer) → Obeys o (q ▹ record { at = s; call = c }) → Within (p ▹ e) q → e.at ≡ s
      → accepted e.call ≡ Some t → proposed c ≡ Some u → t.account ≡ u.account → t.number ≡ u.number
      → (t ≡ u) × (rank since_request5 ≤ rank (rules_at s q))
  only_accepted p q e c t u obeys w there is puts account number =
      go (put_forward o {e = record { at = s; call = c }} u obeys at_end puts).3
    where
      l : Ledger
      l = ledger_at o s q

      ok : Sound o l
      ok = sound o opens s q obeys.0

      go : {m : Message} {next : Ledger} → Proposes l m u next ⊎ ProposesLate (rules_at s q) l m u next
          → (t ≡ u) × (rank since_request5 ≤ rank (rules_at s q))
      go {m} (inl found) =
          let same = proposes_for o l m u (group o opens) ok found in
          absurd
          (none_eligible o l t found.slip (group o opens) ok (all_settled q obeys.0 p e w there t is)
          (account ∙ same.0) (number ∙ same.1) found.records.eligible)
      go (inr late) =
          let reason = (all_reasons o opens s q obeys.0 late.slip.account).why_retained u late.joins.is_retained in
          let found = deed_found accepted s u q reason in
          let same = accepted_once q p found.0 e found.1 t u obeys.0 w found.2 there found.3 is found.4 account number in
          (same, rw late.since (omega arith))

  -- what is retained is of its account, was accepted, and is the latest
  latest_accepted : (r : Run) → Obeys o r → (a : Account) (t : Transfer) → (entry_of (ledger_at o s r) a).retained ≡ Some t
      → (t.account ≡ a) × (accepted_by s t r ≡ true)
      × (t.number ≡ (entry_of (ledger_at o s r) a).current + bit (is_waiting (entry_of (ledger_at o s r) a)))
  latest_accepted r obeys a t held =
      ((stands.retained_stands t held).0, (all_reasons o opens s r obeys a).why_retained t held, number ((latest o opens s r obeys a).slip t held).1)
    where
      e : Entry
      e = entry_of (ledger_at o s r) a

      stands : SoundEntry o a e
      stands = (sound o opens s r obeys).each a

      number : (e.pending ≡ Some t) ⊎ ((e.pending ≡ None) × (t.number ≡ e.current)) → t.number ≡ e.current + bit (is_waiting e)
      number (inl waits) = rw waits (stands.pending_stands t waits).1
      number (inr missing) = rw missing.0 (omega (arith, missing.1))

  -- before request 5 nothing is
  nothing_before : (r : Run) → Obeys o r → (a : Account) → rank (rules_at s r) < rank since_request5 → RetainsNothing (entry_of (ledger_at o s r) a)
  nothing_before r obeys a before_it =
      (go (entry_of (ledger_at o s r) a).retained refl, unmarked (entry_of (ledger_at o s r) a).retained_proposed refl)
    where
      go : (p : Slot) → (entry_of (ledger_at o s r) a).retained ≡ p → p ≡ None
      go None is = refl
      go (Some t) is = absurd (omega (arith, ap rank ((latest o opens s r obeys a).slip t is).0))

      unmarked : (b : Bool) → (entry_of (ledger_at o s r) a).retained_proposed ≡ b → b ≡ false
      unmarked true is = absurd (omega (arith, ap rank ((latest o opens s r obeys a).mark is)))
      unmarked false is = refl

  -- a slip of the next number that was accepted waits
  accepted_waits : (r : Run) → Obeys o r → (t : Transfer) → t.number ≡ (entry_of (ledger_at o s r) t.account).current + 1
      → accepted_by s t r ≡ true → (entry_of (ledger_at o s r) t.account).pending ≡ Some t
  accepted_waits r obeys t next h =
      let found = deed_found accepted s t r h in
      go (all_settled r obeys found.0 found.1 found.2 found.3 t found.4)
    where
      go : BookedOrWaits t (entry_of (ledger_at o s r) t.account) → (entry_of (ledger_at o s r) t.account).pending ≡ Some t
      go (inl past) = absurd (omega arith)
      go (inr waits) = waits

  -- a slip that a ruling named which was not refused was accepted
  ruled_accepted : (r : Run) → Obeys o r → (t : Transfer) → ruled_for s t r ≡ true → accepted_by s t r ≡ true
  ruled_accepted r obeys t h =
      let found = happened_found (λ e. same_seat e.at s && (passes (equal t) (ruled e.call) && taken e.call)) r h in
      let e = found.1 in
      let parts = and_parts (same_seat e.at s) _ found.3 in
      let both_parts = and_parts (passes (equal t) (ruled e.call)) (taken e.call) parts.1 in
      let slip = that_slip t (ruled e.call) both_parts.0 in
      let place = obeys_before o obeys (before found.2) in
      let l = ledger_at o e.at found.0 in
      let exactly = call_accepts o (rules_at e.at found.0) l e.call (group o opens) (sound o opens e.at found.0 place) (obeys_at o obeys found.2) in
      let accepts_it = ruling_accepts e.call (rules_at e.at found.0) l t exactly slip both_parts.1 in
      happened_holds (λ e. same_seat e.at s && passes (equal t) (accepted e.call)) found.2 (rw (parts.0, accepts_it, equal_refl t))

  accepted_iff : (r : Run) → Obeys o r → (t : Transfer) → t.number ≡ (entry_of (ledger_at o s r) t.account).current + 1
      → accepted_by s t r ≡ enough o.seats o.faults (acks_for t (entry_of (ledger_at o s r) t.account).acks) || ruled_for s t r
  accepted_iff r obeys t next = same_test _ _ forth back
    where
      full : Bool
      full = enough o.seats o.faults (acks_for t (entry_of (ledger_at o s r) t.account).acks)

      forth : accepted_by s t r ≡ true → full || ruled_for s t r ≡ true
      forth h = go ((all_reasons o opens s r obeys t.account).why_waits t (accepted_waits r obeys t next h)).by_what
        where
          go : (full ≡ true) ⊎ (ruled_for s t r ≡ true) → full || ruled_for s t r ≡ true
          go (inl is) = rw is
          go (inr is) = rw is (or-true full)

      back : full || ruled_for s t r ≡ true → accepted_by s t r ≡ true
      back h = go full refl h
        where
          go : (b : Bool) → full ≡ b → b || ruled_for s t r ≡ true → accepted_by s t r ≡ true
          go true is h = decided_accepted o opens s r obeys t is
          go false is h = ruled_accepted r obeys t h

  waits_iff : (r : Run) → Obeys o r → (t : Transfer) → t.number ≡ (entry_of (ledger_at o s r) t.account).current + 1
      → accepted_by s t r ≡ holds t (entry_of (ledger_at o s r) t.account).pending
  waits_iff r obeys t next =
      same_test _ _ (λ h. rw (accepted_waits r obeys t next h) (equal_refl t)) (λ h. back (entry_of (ledger_at o s r) t.account).pending refl h)
    where
      back : (x : Slot) → (entry_of (ledger_at o s r) t.account).pending ≡ x → holds t x ≡ true → accepted_by s t r ≡ true
      back None is h = impossible (cc)
      back (Some u) is h =
          ((all_reasons o opens s r obeys t.account).why_waits t (is ∙ ap Some (equal_sound u t h))).was_accepted

  -- current numbers never fall
  never_falls : (a : Account) {p q : Run} → Obeys o q → Within p q → (entry_of (ledger_at o s p) a).current ≤ (entry_of (ledger_at o s q) a).current
  never_falls a {p} {q} obeys w =
      stays o opens s (λ v l. (entry_of (ledger_at o s p) a).current ≤ (entry_of l a).current)
      (λ v l ok old. omega (arith, (switched_state v l a).1))
      (λ v l next m q ok h old. omega (arith, current_rises o l next m q (group o opens) ok h a))
      obeys w (omega arith)

-- the same, in a run
run_count : (o : Opening) (run p : Run) (e : Event) (m : Message) (r : Reply) → Opens o → Obeys o run → Within (p ▹ e) run → e.call ≡ message m r
    → sum_currents (ledger_at o e.at (p ▹ e)).entries ≡ sum_currents (ledger_at o e.at p).entries + count_of r
run_count o run p e m r opens obeys w is =
    let l = ledger_at o e.at p in
    let ok = sound o opens e.at p (obeys_before o obeys (before w)) in
    let h = happened_at o m r obeys w is in
    rw (ledger_after_lem o e.at p e m r refl is)
    (turn_count o l _ m r ok (step_sound o l _ m r (group o opens) ok h) (turn o l _ m r (group o opens) ok h))

pub always : Always
always o run opens obeys =
    record {
      sums = λ p s w.
          let ok = sound o opens s p (obeys_before o obeys w) in
          (ok.sum_same, rw ok.sum_same (group o opens).sum_fits);
      behind = λ p s a w. behind o opens s p (obeys_before o obeys w) a;
      accounts_sum = λ p s w. accounts_sum o opens s p (obeys_before o obeys w);
      plain = λ p s a w.
          let match = slated o opens s p (obeys_before o obeys w) in
          (match.balance_is a, match.count_is a);
      currents_rise = λ p q s a w v. never_falls o opens s a (obeys_before o obeys v) w;
      count_is_rise = λ p e m r w is. run_count o run p e m r opens obeys w is;
      acked_once = acked_once o opens run obeys;
      only_accepted_proposed = λ p q e d t u w v same. only_accepted o opens d.at p q e d.call t u (obeys_before o obeys v) w same;
      proposed_once = proposed_once o opens run obeys;
      retained_stands = λ p s a t w. latest_accepted o opens s p (obeys_before o obeys w) a t;
      retained_marked = λ p s a t w. retained_marked o opens s p (obeys_before o obeys w) a t;
      next_marked = λ p s t w. next_marked o opens s p (obeys_before o obeys w) t;
      latest_retained = retains_latest o opens run obeys;
      waiting_retained = λ p s a t w above.
          (latest o opens s p (obeys_before o obeys w) a).waiting (since_5 (rules_at s p) above) t;
      in_place = λ p s m w.
          let here = obeys_before o obeys w in
          late_in_place o (rules_at s p) (ledger_at o s p) m (sound o opens s p here);
      none_retained = λ p s a w. nothing_before o opens s p (obeys_before o obeys w) a;
      accepts_exactly = λ p e w.
          call_accepts o (rules_at e.at p) (ledger_at o e.at p) e.call (group o opens)
          (sound o opens e.at p (obeys_before o obeys (before w))) (obeys_at o obeys w);
      accepted_exactly = λ p s t w next. accepted_iff o opens s p (obeys_before o obeys w) t next;
      booked_accepted = λ p s a m w. (all_reasons o opens s p (obeys_before o obeys w) a).why_booked m;
      waits_exactly = λ p s t w next. waits_iff o opens s p (obeys_before o obeys w) t next;
      waits_for_funds = λ p s a t w waits.
          let l = ledger_at o s p in
          leb-false t.value (entry_of l a).balance (rw waits at (uncovered o opens s p (obeys_before o obeys w) a));
      acks_stand = λ p s i a t w. ((sound o opens s p (obeys_before o obeys w)).each a).acks_stand i t;
      pending_stands = λ p s a t w. ((sound o opens s p (obeys_before o obeys w)).each a).pending_stands t;
    }
