-- Why a slip waits at a seat, or is retained, and why a number was booked: a call there accepted it.
use Rattle.std.specs.Prelude.{Some}
use Prim.Native.Nat.{ℕ, ◌≤◌}
use native.Mathlib.Decide.{ℕ_discrete}
use native.Mathlib.Omega.{arith}
use mathlib.Core.Path.{◌≡◌, refl, ap, sym, subst, ◌∙◌}
use mathlib.Core.Logic.{◌⊎◌, inl, inr}
use mathlib.Core.Bool.{Bool, true, ◌&&◌}
use Rattle.laws.specs.Types.{Seat, Account, Transfer, Entry, Ledger, Opening, Message, Decision, Reply, Accept}
use Rattle.runs.specs.Runs.{Opens, message, waiting_list, switch, Event, Run, ◌▹◌, Within, at_end, sooner, same_seat, ledger_at, Obeys, accepted, ruled, passes}
use Rattle.runs.specs.Facts.{accepted_by, taken, ruled_for}
use Rattle.agreement.proofs.Places.{happened_holds, happened_later, seat_self}
use Rattle.agreement.proofs.Soundness.{opened_entry, group, SoundEntry, Sound, admitted}
use Rattle.agreement.proofs.Reachable.{sound, run_induction}
use Rattle.agreement.proofs.StepLaws.{Puts, puts_mark, puts_ack, puts_proposal, puts_accepted, puts_ruled, puts_late, each_entry}
use Rattle.model.specs.Records.{with_retained_proposed, entry_of}
use Rattle.model.specs.Switches.{Rules}
use Rattle.model.specs.Transfers.{equal}
use Rattle.model.specs.Acks.{acks_for, enough}
use Rattle.laws.proofs.Sums.{impossible}
use Rattle.laws.proofs.Equality.{equal_refl}
use Rattle.laws.proofs.Booking.{Cleared}
use Rattle.laws.proofs.Switching.{takes_over, switched_entry, takes_over_keeps, takes_over_from}
use Rattle.laws.proofs.Steps.{Eligible, entry_with_ack, retain_under, retain_keeps, retained_or, Happens}

module _ (o : Opening) (opens : Opens o) (s : Seat) where
  abbrev is_accepted : Transfer → Event → Bool
  is_accepted t e = same_seat e.at s && passes (equal t) (accepted e.call)

  abbrev is_ruled : Transfer → Event → Bool
  is_ruled t e = same_seat e.at s && (passes (equal t) (ruled e.call) && taken e.call)

  -- a slip that waits was accepted, and has enough acks or a ruling named it
  pub record Reason (r : Run) (e : Entry) (t : Transfer) : Type 0 where
    pub was_accepted : accepted_by s t r ≡ true
    pub by_what : (enough o.seats o.faults (acks_for t e.acks) ≡ true) ⊎ (ruled_for s t r ≡ true)

  -- a slip with this account and number was accepted
  abbrev pub WasAccepted : Run → Account → ℕ → Type 0
  WasAccepted r a m = (t : Transfer) × (t.account ≡ a) × (t.number ≡ m) × (accepted_by s t r ≡ true)

  -- and so of whatever waits in an account's entry, of each number up to its current one, and of what it retains
  pub record Reasons (r : Run) (a : Account) (e : Entry) : Type 0 where
    pub why_waits : (t : Transfer) → e.pending ≡ Some t → Reason r e t
    pub why_booked : (m : ℕ) → 1 ≤ m → m ≤ e.current → WasAccepted r a m
    pub why_retained : (t : Transfer) → e.retained ≡ Some t → accepted_by s t r ≡ true

  -- reasons stay reasons where acks, current and the waiting slip stay, and there is one for what is
  -- retained, at the same place or later
  reasons_stay : (r r' : Run) (a : Account) (e e' : Entry) → Within r r'
      → e'.acks ≡ e.acks → e'.current ≡ e.current → e'.pending ≡ e.pending
      → ((t : Transfer) → e'.retained ≡ Some t → accepted_by s t r ≡ true) → Reasons r a e → Reasons r' a e'
  reasons_stay r r' a e e' w acks current pending retained why =
      record {
        why_waits = λ t waits. stays t (why.why_waits t (sym pending ∙ waits));
        why_booked = λ m from to.
            let was = why.why_booked m from (omega arith) in
            (was.0, was.1, was.2, happened_later (is_accepted was.0) w was.3);
        why_retained = λ t h. happened_later (is_accepted t) {p = r} {r = r'} w (retained t h);
      }
    where
      stays : (t : Transfer) → Reason r e t → Reason r' e' t
      stays t why = record { was_accepted = happened_later (is_accepted t) w why.was_accepted; by_what = go why.by_what }
        where
          go : (enough o.seats o.faults (acks_for t e.acks) ≡ true) ⊎ (ruled_for s t r ≡ true)
              → (enough o.seats o.faults (acks_for t e'.acks) ≡ true) ⊎ (ruled_for s t r' ≡ true)
          go (inl full) = inl (rw acks full)
          go (inr ruling) = inr (happened_later (is_ruled t) {p = r} {r = r'} w ruling)

  -- where its waiting slip is booked, its number has a reason too
  booked_reasons : (r : Run) (a : Account) (e e' : Entry) (t : Transfer) → SoundEntry o a e → e.pending ≡ Some t → Cleared t e e'
      → Reasons r a e → Reasons r a e'
  booked_reasons r a e e' t stands waits clear why =
      record {
        why_waits = λ u this. impossible (cc (clear.none_pending, this));
        why_booked = λ m from to. go m from to (ℕ_discrete m t.number);
        why_retained = λ u h. why.why_retained u (sym clear.retained_same ∙ h);
      }
    where
      go : (m : ℕ) → 1 ≤ m → m ≤ e'.current → Dec (m ≡ t.number) → WasAccepted r a m
      go m from to (yes this) = (t, (stands.pending_stands t waits).0, sym this, (why.why_waits t waits).was_accepted)
      go m from to (no other) = why.why_booked m from (omega (arith, clear.current_is, (stands.pending_stands t waits).1))

  -- this call accepts t
  module _ (r : Run) (m : Message) (q : Reply) where
    now : Run
    now = r ▹ record { at = s; call = message m q }

    now_accepted : (t : Transfer) → accepted (message m q) ≡ Some t → accepted_by s t now ≡ true
    unfolding now
    now_accepted t is =
        happened_holds (is_accepted t) {p = r} {r = r ▹ record { at = s; call = message m q }} {e = record { at = s; call = message m q }} at_end
        (rw (seat_self s, is, equal_refl t))

    now_ruled : (t : Transfer) (c : ℕ) → m ≡ Decision t → q ≡ Accept c → ruled_for s t now ≡ true
    unfolding now
    now_ruled t c kind reply =
        happened_holds (is_ruled t) {p = r} {r = r ▹ record { at = s; call = message m q }} {e = record { at = s; call = message m q }} at_end
        (rw (seat_self s, kind, reply, equal_refl t))

    step_reasons : {v : Rules} (l next : Ledger) → Sound o l → Happens v l m q next
        → ((a : Account) → Reasons r a (entry_of l a))
        → (a : Account) → Reasons (r ▹ record { at = s; call = message m q }) a (entry_of next a)
    unfolding now
    step_reasons {v} l next ok h old =
        each_entry o l next m q (group o opens) ok (Reasons now)
        (λ a e e' same was.
        reasons_stay now now a e e' at_end (ap (λ (x : Entry). x.acks) same) (ap (λ (x : Entry). x.current) same)
        (ap (λ (x : Entry). x.pending) same) (λ t h. was.why_retained t (ap (λ (x : Entry). x.retained) (sym same) ∙ h)) was)
        (booked_reasons now) later puts h
      where
        later : (a : Account) → Reasons now a (entry_of l a)
        later a = reasons_stay r now a (entry_of l a) (entry_of l a) (sooner at_end) refl refl refl (old a).why_retained (old a)

        -- an entry that a call puts has the same current number
        known : (t : Transfer) (x : Entry) → x.current ≡ (entry_of l t.account).current
            → ((u : Transfer) → x.retained ≡ Some u → ((entry_of l t.account).retained ≡ Some u) ⊎ (accepted_by s u now ≡ true))
            → ((u : Transfer) → x.pending ≡ Some u → Reason now x u) → Reasons now t.account x
        known t x same retains waits =
            record {
              why_waits = waits;
              why_booked = λ k from to. (later t.account).why_booked k from (omega arith);
              why_retained = λ u h. go u (retains u h);
            }
          where
            go : (u : Transfer) → ((entry_of l t.account).retained ≡ Some u) ⊎ (accepted_by s u now ≡ true) → accepted_by s u now ≡ true
            go u (inl before) = (later t.account).why_retained u before
            go u (inr this) = this

        -- what the rules retain where t is accepted is what was retained, or t
        newly : (e : Entry) (t : Transfer) → accepted (message m q) ≡ Some t
            → (u : Transfer) → (retain_under v e t).retained ≡ Some u → (e.retained ≡ Some u) ⊎ (accepted_by s u now ≡ true)
        newly e t is u h = go (retained_or v e t u h)
          where
            go : (e.retained ≡ Some u) ⊎ (t ≡ u) → (e.retained ≡ Some u) ⊎ (accepted_by s u now ≡ true)
            go (inl before) = inl before
            go (inr this) = inr (subst (λ w. accepted_by s w now ≡ true) this (now_accepted t is))

        -- and where it accepts nothing, nothing waits in it
        idle_still : (t : Transfer) (x : Entry) → Eligible l t → x.current ≡ (entry_of l t.account).current
            → x.pending ≡ (entry_of l t.account).pending → x.retained ≡ (entry_of l t.account).retained → Reasons now t.account x
        idle_still t x fit current pending retained =
            known t x current (λ u h. inl (sym retained ∙ h)) (λ u waits. impossible (cc (admitted o l t (group o opens) ok fit).none_waits))

        puts : (t : Transfer) (x : Entry) → Puts v l m q t x → Reasons now t.account x
        puts t x (puts_mark e f fit is) = idle_still t x fit (rw is refl) (rw is refl) (rw is refl)
        puts t x (puts_ack z e fit new is) = idle_still t x fit (rw is refl) (rw is refl) (rw is refl)
        puts t x (puts_proposal z w e f fit new for is) = idle_still t x fit (rw is refl) (rw is refl) (rw is refl)
        puts t x (puts_accepted z c e f fit new full is) =
            let acks = ap (λ (y : Entry). y.acks) (retain_keeps v (entry_with_ack l z t) t) in
            known t x (rw is (ap (λ (y : Entry). y.current) (retain_keeps v (entry_with_ack l z t) t)))
            (λ u h. newly (entry_with_ack l z t) t (rw (e, f)) u (sym (ap (λ (y : Entry). y.retained) is) ∙ h))
            (λ u waits.
            let this : t ≡ u = cc (waits, ap (λ (y : Entry). y.pending) is) in
            rw (← this, is)
            (record {
              was_accepted = now_accepted t (rw (e, f));
              by_what = inl (rw (← ok.seats_same, ← ok.faults_same, acks) full);
            }))
        puts t x (puts_late z w since e f join is) =
            rw is
            (reasons_stay now now t.account (entry_of l t.account) (with_retained_proposed (entry_of l t.account)) at_end refl refl refl
            (later t.account).why_retained (later t.account))
        puts t x (puts_ruled c e f fit is) =
            known t x (rw is (ap (λ (y : Entry). y.current) (retain_keeps v (entry_of l t.account) t)))
            (λ u h. newly (entry_of l t.account) t (rw (e, f)) u (sym (ap (λ (y : Entry). y.retained) is) ∙ h))
            (λ u waits.
            let this : t ≡ u = cc (waits, ap (λ (y : Entry). y.pending) is) in
            rw (← this) (record { was_accepted = now_accepted t (rw (e, f)); by_what = inr (now_ruled t c e f) }))

  -- at every place of a run that obeys
  pub all_reasons : (r : Run) → Obeys o r → (a : Account) → Reasons r a (entry_of (ledger_at o s r) a)
  all_reasons =
      run_induction o opens s (λ r v l. (a : Account) → Reasons r a (entry_of l a))
      (λ from a.
      rw (opened_entry o a)
      (record { why_waits = λ t waits. impossible (cc); why_booked = λ m from to. absurd (omega arith); why_retained = λ t h. impossible (cc) }))
      (λ r e v l other old a. still r e a (entry_of l a) (old a))
      (λ r b a q v l old c. still r (record { at = s; call = waiting_list b q a }) c (entry_of l c) (old c))
      (λ r v l ok old c. rw (switched_entry v l c) (taken_over_lem r v c (entry_of l c) (old c)))
      (λ r v m q l next ok h old. step_reasons r m q l next ok h old)
    where
      still : (r : Run) (e : Event) (a : Account) (x : Entry) → Reasons r a x → Reasons (r ▹ e) a x
      still r e a x old = reasons_stay r (r ▹ e) a x x (sooner at_end) refl refl refl old.why_retained old

      -- what a seat takes over at a switch waits
      taken_over_lem : (r : Run) (v : Rules) (a : Account) (x : Entry) → Reasons r a x → Reasons (r ▹ record { at = s; call = switch }) a (takes_over v x)
      taken_over_lem r v a x old =
          let same = takes_over_keeps v x in
          reasons_stay r (r ▹ record { at = s; call = switch }) a x (takes_over v x) (sooner at_end) (ap (λ (y : Entry). y.acks) same)
          (ap (λ (y : Entry). y.current) same) (ap (λ (y : Entry). y.pending) same) (λ t h. go t (takes_over_from v x t h)) old
        where
          go : (t : Transfer) → (x.retained ≡ Some t) ⊎ (x.pending ≡ Some t) → accepted_by s t r ≡ true
          go t (inl before) = old.why_retained t before
          go t (inr waits) = (old.why_waits t waits).was_accepted

  -- a slip with enough recorded acks was accepted
  pub decided_accepted : (r : Run) → Obeys o r → (t : Transfer)
      → enough o.seats o.faults (acks_for t (entry_of (ledger_at o s r) t.account).acks) ≡ true
      → accepted_by s t r ≡ true
  decided_accepted r obeys t full =
      ((all_reasons r obeys t.account).why_waits t (((sound o opens s r obeys).each t.account).decided t full)).was_accepted
