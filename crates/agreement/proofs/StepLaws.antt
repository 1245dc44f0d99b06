-- The laws of a step that the proofs about runs use, and all of them: what a call puts into an account's entry
-- (`each_entry`), what it does to balances, current numbers and waiting slips (`turn`), and what its reply means
-- (`answer_acknowledge` and so on). Later definitions of a step prove these again, and the rest stays.
use Rattle.std.proofs.lemmas.Bool.{and_parts, not-true}
use Rattle.std.specs.Prelude.{Some, None}
use Prim.Native.Nat.{◌-◌, ◌*◌, ◌<◌, ◌≤◌, ℕ, ◌+◌}
use native.Mathlib.Omega.{arith}
use mathlib.Core.List.{List}
use mathlib.Core.Path.{◌≡◌, refl, ap, sym, subst, ◌∙◌}
use mathlib.Core.Logic.{◌⊎◌, inl, inr}
use mathlib.Core.Bool.{Bool, true, false, not, ◌&&◌}
use lib.Dec.{leb}
use borrow.Author.Tests.{leb-true, ltb-true, le-leb, lt-leb, le-ltb}
use lib.ListN.{length}
use Rattle.laws.specs.Types.{Seat, Account, Transfer, Slot, Entry, Ledger, Opening, Refusal, Message, Request, Circulated, Ack, Decision, Inquiry, Reply, Acknowledge, Accept, Propose, Balance, Refuse}
use Rattle.model.specs.declared.Refusal.TheVariants.{PastNumber, FutureNumber, AlreadyAccepted}
use Rattle.runs.specs.Runs.{is_refusal, message, is_accept, accepted}
use Rattle.runs.specs.Facts.{must_accept}
use Rattle.laws.proofs.Opened.{Group}
use Rattle.agreement.proofs.Soundness.{recorded_new, recorded_kept, recorded_counted, recorded_stands, SoundEntry, booked_retained, Sound, Admitted, admitted, marked_sound, stored, noted_entry, accepted_entry, ruled_entry, retain_sound, waits_sound, accept_sound}
use Rattle.model.specs.Records.{seat_of, with_acked, with_proposed, with_pending, with_retained, with_retained_proposed, entry_at, set_entry, with_entries, with_entry, entry_of}
use Rattle.model.specs.Acks.{slip_in, has_most, holds, conflicts, acks_for, acks_recorded, enough, two_conflict, must_propose}
use Rattle.model.specs.Refusals.{first_refusal, out_of_range, waits_already, ack_from}
use Rattle.model.specs.Settling.{settle}
use Rattle.model.specs.Calls.{late_in, rules_in}
use Rattle.model.specs.Switches.{Rules, first_rules, since_request3, since_request5, switched, rules_met, late_met, step_under}
use Rattle.laws.proofs.Sums.{impossible, some_counted}
use Rattle.laws.proofs.Equality.{same_number_lem, equal_sound, equal_refl, Conflict, conflict_sound}
use Rattle.laws.proofs.Access.{entry_set_same, set_each, with_entry_same}
use Rattle.laws.proofs.Tallies.{most_sound}
use Rattle.laws.proofs.Booking.{SameButBalance, Cleared}
use Rattle.laws.proofs.Settles.{Turned, kept, booked, settle_entry}
use Rattle.laws.proofs.Switching.{ack_rules_lem, switched_keeps}
use Rattle.laws.proofs.Refusing.{SomeHolds, some_holds, refused_by}
use Rattle.laws.proofs.Steps.{Eligible, Recordable, entry_with_ack, retain_under, retain_keeps, waiting_under, Joining, joining, accepted_in, Happens, refused, circulated, acknowledged, accepted_by_acks, proposed, noted, accepted_by_ruling, joined, told}

-- what the rules retain changes neither balance nor current number
retain_balance : (v : Rules) (e : Entry) (t : Transfer) → (retain_under v e t).balance ≡ e.balance
retain_balance v e t = ap (λ (x : Entry). x.balance) (retain_keeps v e t)

retain_current : (v : Rules) (e : Entry) (t : Transfer) → (retain_under v e t).current ≡ e.current
retain_current v e t = ap (λ (x : Entry). x.current) (retain_keeps v e t)

-- every call leaves a sound ledger
pub step_sound : {v : Rules} (o : Opening) (l next : Ledger) (m : Message) (r : Reply) → Group o → Sound o l → Happens v l m r next → Sound o next
step_sound o l next m r g ok (refused q e same) = rw same ok
step_sound o l next m r g ok (circulated t e f same) = rw same ok
step_sound o l next m r g ok (acknowledged t e f fit clear same) =
    let old = entry_of l t.account in
    let new = marked_sound o t.account old (with_acked old) refl refl refl refl (ok.each t.account) in
    rw same (stored o l g ok t.account (with_acked old) new refl)
step_sound {v} o l next m r g ok (accepted_by_acks s t e f fit new full same) =
    rw same
    (accept_sound o l t (retain_under v (entry_with_ack l s t) t) g ok (retain_balance v (entry_with_ack l s t) t)
    (retain_sound o v (entry_with_ack l s t) t (accepted_entry o l s t g ok fit new)))
step_sound o l next m r g ok (proposed s t u e f fit new few must most same) =
    let old = entry_with_ack l s t in
    let sound = marked_sound o t.account old (with_proposed old) refl refl refl refl (noted_entry o l s t g ok fit new few) in
    rw same (stored o l g ok t.account (with_proposed old) sound refl)
step_sound o l next m r g ok (noted s t e f fit new few same) =
    rw same (stored o l g ok t.account (entry_with_ack l s t) (noted_entry o l s t g ok fit new few) refl)
step_sound {v} o l next m r g ok (accepted_by_ruling t e f fit same) =
    rw same
    (accept_sound o l t (retain_under v (entry_of l t.account) t) g ok (retain_balance v (entry_of l t.account) t)
    (retain_sound o v (entry_of l t.account) t (ruled_entry o l t g ok fit)))
step_sound o l next m r g ok (joined s t u since e f join same) =
    let old = entry_of l t.account in
    let new = marked_sound o t.account old (with_retained_proposed old) refl refl refl refl (ok.each t.account) in
    rw same (stored o l g ok t.account (with_retained_proposed old) new refl)
step_sound o l next m r g ok (told a e f same) = rw same ok

-- an ack is recorded: what K and P rest on
pub record Recording (l : Ledger) (s : Seat) (t : Transfer) : Type 0 where
  pub eligible : Eligible l t
  pub recordable : Recordable l s t

-- P u that is not late means: an ack, with which at least n - f are recorded, nothing was put forward yet, and
-- no slip has more of them than u.
pub record Proposes (l : Ledger) (m : Message) (u : Transfer) (next : Ledger) : Type 0 where
  pub sender : Seat
  pub slip : Transfer
  pub is_ack : m ≡ Ack sender slip
  pub records : Recording l sender slip
  pub nothing_proposed : (entry_of l slip.account).proposed ≡ false
  pub marks : next ≡ with_entry l slip.account (with_proposed (entry_with_ack l sender slip))
  pub recorded : l.seats ≤ acks_recorded (entry_with_ack l sender slip).acks + l.faults
  pub most : (v : Transfer) → acks_for v (entry_with_ack l sender slip).acks ≤ acks_for u (entry_with_ack l sender slip).acks

-- "nothing was put forward for this number"
none_yet : (n f recorded : ℕ) (x : Entry) → must_propose n f recorded x ≡ true → x.proposed ≡ false
none_yet n f recorded x must = not-true x.proposed (and_parts (leb (n - f) recorded && two_conflict x.acks) (not x.proposed) must).1

-- "at least n - f seats' acks are recorded"
n_f_recorded : (l : Ledger) (x : Entry) → must_propose l.seats l.faults (acks_recorded x.acks) x ≡ true
    → l.seats ≤ acks_recorded x.acks + l.faults
n_f_recorded l x must =
    let enough_acks = leb (l.seats - l.faults) (acks_recorded x.acks) in
    let parts = and_parts (enough_acks && two_conflict x.acks) (not x.proposed) must in
    let least = leb-true (l.seats - l.faults) (acks_recorded x.acks) (and_parts enough_acks (two_conflict x.acks) parts.0).0 in
    omega arith

-- from what happened
abbrev proposing : (l next : Ledger) (m : Message) (s : Seat) (t u : Transfer) → m ≡ Ack s t → Eligible l t → Recordable l s t
    → must_propose l.seats l.faults (acks_recorded (entry_with_ack l s t).acks) (entry_with_ack l s t) ≡ true → has_most (entry_with_ack l s t).acks u ≡ true
    → next ≡ with_entry l t.account (with_proposed (entry_with_ack l s t)) → Proposes l m u next
proposing l next m s t u e fit new must most same =
    record {
      sender = s;
      slip = t;
      is_ack = e;
      records = record { eligible = fit; recordable = new };
      nothing_proposed = none_yet l.seats l.faults (acks_recorded (entry_with_ack l s t).acks) (entry_with_ack l s t) must;
      marks = same;
      recorded = n_f_recorded l (entry_with_ack l s t) must;
      most = most_sound (entry_with_ack l s t).acks u most;
    }

-- and u has the account and number of that ack's slip: with it this slip has an ack, so u has one too
pub proposes_for : {next : Ledger} (o : Opening) (l : Ledger) (m : Message) (u : Transfer) → Group o → Sound o l → (p : Proposes l m u next)
    → (u.account ≡ p.slip.account) × (u.number ≡ p.slip.number)
proposes_for o l m u g ok p = go (ack_from x (seat_of one.0)) refl one.1
  where
    t : Transfer
    t = p.slip

    x : Entry
    x = entry_with_ack l p.sender t

    one : (i : ℕ) × (holds u (ack_from x (seat_of i)) ≡ true)
    one =
        let more = recorded_counted o l p.sender t g ok p.records.eligible p.records.recordable t in
        some_counted (λ k. holds u k.slot) x.acks (record { slot = None }) (omega (arith, rw (equal_refl t) at more, p.most t))

    go : (s : Slot) → ack_from x (seat_of one.0) ≡ s → holds u s ≡ true → (u.account ≡ t.account) × (u.number ≡ t.number)
    go None h e = impossible (cc)
    go (Some v) h e =
        let stands = recorded_stands o l p.sender t g ok p.records.eligible p.records.recordable (seat_of one.0) v h in
        let same = equal_sound v u e in
        (cc, cc)

-- The entry x that a call puts in the place of the account's of slip t, before anything is settled.
pub data Puts (v : Rules) (l : Ledger) (m : Message) (r : Reply) (t : Transfer) (x : Entry) : Type 0 where
  puts_mark : m ≡ Circulated t → r ≡ Acknowledge → Eligible l t → x ≡ with_acked (entry_of l t.account) → Puts v l m r t x
  puts_ack : (s : Seat) → m ≡ Ack s t → Eligible l t → Recordable l s t → x ≡ entry_with_ack l s t → Puts v l m r t x
  puts_proposal : (s : Seat) (u : Transfer)
      → m ≡ Ack s t → r ≡ Propose u → Eligible l t → Recordable l s t → (u.account ≡ t.account) × (u.number ≡ t.number)
      → x ≡ with_proposed (entry_with_ack l s t)
      → Puts v l m r t x
  puts_accepted : (s : Seat) (c : ℕ)
      → m ≡ Ack s t → r ≡ Accept c → Eligible l t → Recordable l s t
      → enough l.seats l.faults (acks_for t (entry_with_ack l s t).acks) ≡ true
      → x ≡ waiting_under v (entry_with_ack l s t) t
      → Puts v l m r t x
  puts_ruled : (c : ℕ) → m ≡ Decision t → r ≡ Accept c → Eligible l t → x ≡ waiting_under v (entry_of l t.account) t → Puts v l m r t x
  puts_late : (s : Seat) (u : Transfer)
      → v ≡ since_request5 → m ≡ Ack s t → r ≡ Propose u → Joining l s t u → x ≡ with_retained_proposed (entry_of l t.account)
      → Puts v l m r t x

-- it is for an eligible slip, or only the retained slip's mark is set; and the current number stays
puts_eligible : {v : Rules} (l : Ledger) (m : Message) (r : Reply) (t : Transfer) (x : Entry) → Puts v l m r t x
    → Eligible l t ⊎ (x ≡ with_retained_proposed (entry_of l t.account))
puts_eligible l m r t x (puts_mark e f fit is) = inl fit
puts_eligible l m r t x (puts_ack s e fit new is) = inl fit
puts_eligible l m r t x (puts_proposal s u e f fit new for is) = inl fit
puts_eligible l m r t x (puts_accepted s c e f fit new full is) = inl fit
puts_eligible l m r t x (puts_ruled c e f fit is) = inl fit
puts_eligible l m r t x (puts_late s u since e f join is) = inr is

puts_current : {v : Rules} (l : Ledger) (m : Message) (r : Reply) (t : Transfer) (x : Entry) → Puts v l m r t x → x.current ≡ (entry_of l t.account).current
puts_current l m r t x (puts_mark e f fit is) = ap (λ (y : Entry). y.current) is
puts_current l m r t x (puts_ack s e fit new is) = ap (λ (y : Entry). y.current) is
puts_current l m r t x (puts_proposal s u e f fit new for is) = ap (λ (y : Entry). y.current) is
puts_current {v} l m r t x (puts_accepted s c e f fit new full is) = ap (λ (y : Entry). y.current) is ∙ retain_current v (entry_with_ack l s t) t
puts_current {v} l m r t x (puts_ruled c e f fit is) = ap (λ (y : Entry). y.current) is ∙ retain_current v (entry_of l t.account) t
puts_current l m r t x (puts_late s u since e f join is) = ap (λ (y : Entry). y.current) is

-- To show J of each account's entry after a call, from J of each before it: show it of what the call puts, and that it
-- stays where the balance changes and where a slip is booked.
module _ {v : Rules} (o : Opening) (l next : Ledger) (m : Message) (r : Reply) (g : Group o) (ok : Sound o l)
    (J : Account → Entry → Type 0)
    (on_balance : (a : Account) (e e' : Entry) → SameButBalance e e' → J a e → J a e')
    (on_booked : (a : Account) (e e' : Entry) (t : Transfer) → SoundEntry o a e → e.pending ≡ Some t → Cleared t e e' → J a e → J a e')
    (each : (a : Account) → J a (entry_of l a))
    (puts : (t : Transfer) (x : Entry) → Puts v l m r t x → J t.account x)
  where
    put : (t : Transfer) (x : Entry) → Puts v l m r t x → (a : Account) → J a (entry_of (with_entry l t.account x) a)
    put t x new = set_each J l.entries t.account x (puts t x new) each

    settled : (t : Transfer) (e : Entry) → Puts v l m r t (with_pending e t) → Sound o (with_entry l t.account (with_pending e t))
        → (a : Account) → J a (entry_of (with_entries l (accepted_in l e t).entries) a)
    settled t e new sound a = go (settle_entry a (set_entry l.entries t.account (with_pending e t)))
      where
        waits : Ledger
        waits = with_entry l t.account (with_pending e t)

        go : Turned (entry_of waits a) (entry_at (settle waits.entries).entries a) → J a (entry_at (settle waits.entries).entries a)
        go (kept same) = on_balance a _ _ same (put t (with_pending e t) new a)
        go (booked u was clear) = on_booked a _ _ u (sound.each a) was clear (put t (with_pending e t) new a)

    pub each_entry : Happens v l m r next → (a : Account) → J a (entry_of next a)
    each_entry (refused q e same) = rw same each
    each_entry (circulated t e f same) = rw same each
    each_entry (acknowledged t e f fit clear same) = rw same (put t (with_acked (entry_of l t.account)) (puts_mark e f fit refl))
    each_entry (accepted_by_acks s t e f fit new full same) =
        rw same
        (settled t (retain_under v (entry_with_ack l s t) t) (puts_accepted s _ e f fit new full refl)
        (waits_sound o l t (retain_under v (entry_with_ack l s t) t) g ok (retain_balance v (entry_with_ack l s t) t)
        (retain_sound o v (entry_with_ack l s t) t (accepted_entry o l s t g ok fit new))))
    each_entry (proposed s t u e f fit new few must most same) =
        rw same (put t (with_proposed (entry_with_ack l s t)) (puts_proposal s u e f fit new
        (proposes_for o l m u g ok (proposing l next m s t u e fit new must most same)) refl))
    each_entry (noted s t e f fit new few same) = rw same (put t (entry_with_ack l s t) (puts_ack s e fit new refl))
    each_entry (accepted_by_ruling t e f fit same) =
        rw same
        (settled t (retain_under v (entry_of l t.account) t) (puts_ruled _ e f fit refl)
        (waits_sound o l t (retain_under v (entry_of l t.account) t) g ok (retain_balance v (entry_of l t.account) t)
        (retain_sound o v (entry_of l t.account) t (ruled_entry o l t g ok fit))))
    each_entry (joined s t u since e f join same) =
        rw same (put t (with_retained_proposed (entry_of l t.account)) (puts_late s u since e f join refl))
    each_entry (told a e f same) = rw same each

-- balance, current and waiting slip are the same in both entries
abbrev pub SameState : Entry → Entry → Type 0
SameState e e' = (e'.balance ≡ e.balance) × (e'.current ≡ e.current) × (e'.pending ≡ e.pending)

-- of each account, where a seat switches
pub switched_state : (v : Rules) (l : Ledger) (a : Account) → SameState (entry_of l a) (entry_of (switched v l) a)
switched_state v l a =
    let same = switched_keeps v l a in
    (ap (λ (e : Entry). e.balance) same, ap (λ (e : Entry). e.current) same, ap (λ (e : Entry). e.pending) same)

-- A slip t is accepted: it waits, in an entry that is otherwise as it was, and then settling begins.
pub record Accepting (o : Opening) (l : Ledger) (r : Reply) (next : Ledger) (t : Transfer) : Type 0 where
  pub entry : Entry
  pub same_balance : entry.balance ≡ (entry_of l t.account).balance
  pub same_current : entry.current ≡ (entry_of l t.account).current
  pub fits : Admitted o l t
  pub is_next : t.number ≡ (entry_of l t.account).current + 1
  pub waits_soundly : Sound o (with_entry l t.account (with_pending entry t))
  pub entries_are : next.entries ≡ (settle (set_entry l.entries t.account (with_pending entry t))).entries
  pub replied : r ≡ Accept (settle (set_entry l.entries t.account (with_pending entry t))).applied

accepting : (o : Opening) (l next : Ledger) (r : Reply) (t : Transfer) (e : Entry) → Group o → Sound o l → Eligible l t
    → e.balance ≡ (entry_of l t.account).balance → e.current ≡ (entry_of l t.account).current → SoundEntry o t.account (with_pending e t)
    → r ≡ Accept (accepted_in l e t).applied → next ≡ with_entries l (accepted_in l e t).entries
    → Accepting o l r next t
accepting o l next r t e g ok fit balance current waits reply same =
    record {
      entry = e;
      same_balance = balance;
      same_current = current;
      fits = admitted o l t g ok fit;
      is_next = fit.is_next;
      waits_soundly = waits_sound o l t e g ok balance waits;
      entries_are = ap (λ (x : Ledger). x.entries) same;
      replied = reply;
    }

-- an entry with the same state is put
put_same : (l : Ledger) (a : Account) (x : Entry) → SameState (entry_of l a) x → (b : Account) → SameState (entry_of l b) (entry_of (with_entry l a x) b)
put_same l a x same = set_each (λ b y. SameState (entry_of l b) y) l.entries a x same (λ b. (refl, refl, refl))

-- a refusal accepts nothing
pub refused_accepts : (m : Message) (r : Reply) (q : Refusal) → r ≡ Refuse q → accepted (message m r) ≡ None
refused_accepts (Request t) r q e = refl
refused_accepts (Circulated t) r q e = refl
refused_accepts (Ack s t) r q e = rw e
refused_accepts (Decision t) r q e = rw e
refused_accepts (Inquiry a) r q e = refl

-- What a call does to balances, current numbers and waiting slips: nothing, or its slip is accepted.
pub data Turn (o : Opening) (l : Ledger) (m : Message) (r : Reply) (next : Ledger) : Type 0 where
  keeps : ((a : Account) → SameState (entry_of l a) (entry_of next a)) → accepted (message m r) ≡ None → is_accept r ≡ false → Turn o l m r next
  accepts : (t : Transfer) → accepted (message m r) ≡ Some t → Accepting o l r next t → Turn o l m r next

pub turn : {v : Rules} (o : Opening) (l next : Ledger) (m : Message) (r : Reply) → Group o → Sound o l → Happens v l m r next → Turn o l m r next
turn o l next m r g ok (refused q e same) = keeps (rw same (λ a. (refl, refl, refl))) (refused_accepts m r q e) (rw e)
turn o l next m r g ok (circulated t e f same) = keeps (rw same (λ a. (refl, refl, refl))) (rw e) (rw f)
turn o l next m r g ok (acknowledged t e f fit clear same) =
    keeps (rw same (put_same l t.account (with_acked (entry_of l t.account)) (refl, refl, refl))) (rw e) (rw f)
turn {v} o l next m r g ok (accepted_by_acks s t e f fit new full same) =
    let x = entry_with_ack l s t in
    accepts t (rw (e, f))
    (accepting o l next r t (retain_under v x t) g ok fit (retain_balance v x t) (retain_current v x t)
    (retain_sound o v x t (accepted_entry o l s t g ok fit new)) f same)
turn o l next m r g ok (proposed s t u e f fit new few must most same) =
    keeps (rw same (put_same l t.account (with_proposed (entry_with_ack l s t)) (refl, refl, refl))) (rw (e, f)) (rw f)
turn o l next m r g ok (noted s t e f fit new few same) =
    keeps (rw same (put_same l t.account (entry_with_ack l s t) (refl, refl, refl))) (rw (e, f)) (rw f)
turn {v} o l next m r g ok (accepted_by_ruling t e f fit same) =
    let x = entry_of l t.account in
    accepts t (rw (e, f))
    (accepting o l next r t (retain_under v x t) g ok fit (retain_balance v x t) (retain_current v x t)
    (retain_sound o v x t (ruled_entry o l t g ok fit)) f same)
turn o l next m r g ok (joined s t u since e f join same) =
    keeps (rw same (put_same l t.account (with_retained_proposed (entry_of l t.account)) (refl, refl, refl))) (rw (e, f)) (rw f)
turn o l next m r g ok (told a e f same) = keeps (rw same (λ b. (refl, refl, refl))) (rw e) (rw f)

-- A means: the slip is eligible, so its number is the next; the mark was clear, and now it is set.
pub record Marks (l next : Ledger) (t : Transfer) : Type 0 where
  pub eligible : Eligible l t
  pub was_clear : (entry_of l t.account).acked ≡ false
  pub entry_is : entry_of next t.account ≡ with_acked (entry_of l t.account)

pub answer_acknowledge : {v : Rules} (o : Opening) (l next : Ledger) (m : Message) (r : Reply) (t : Transfer) → Group o → Sound o l
    → m ≡ Circulated t → r ≡ Acknowledge → Happens v l m r next → Marks l next t
answer_acknowledge o l next m r t g ok kind reply (refused q e same) = impossible (cc)
answer_acknowledge o l next m r t g ok kind reply (circulated u e f same) = impossible (cc)
answer_acknowledge o l next m r t g ok kind reply (acknowledged u e f fit clear same) =
    let this : t ≡ u = cc in
    rw (this, same)
    (record { eligible = fit; was_clear = clear; entry_is = with_entry_same l u.account _ (admitted o l u g ok fit).inside })
answer_acknowledge o l next m r t g ok kind reply (accepted_by_acks s u e f fit new full same) = impossible (cc)
answer_acknowledge o l next m r t g ok kind reply (proposed s u v e f fit new few must most same) = impossible (cc)
answer_acknowledge o l next m r t g ok kind reply (noted s u e f fit new few same) = impossible (cc)
answer_acknowledge o l next m r t g ok kind reply (accepted_by_ruling u e f fit same) = impossible (cc)
answer_acknowledge o l next m r t g ok kind reply (joined s u v since e f join same) = impossible (cc)
answer_acknowledge o l next m r t g ok kind reply (told a e f same) = impossible (cc)

-- K to an ack means: with it, twice the count of acks for its slip exceeds n + 3f.
pub answer_accept : {v : Rules} (l next : Ledger) (m : Message) (r : Reply) (s : Seat) (t : Transfer) (c : ℕ)
    → m ≡ Ack s t → r ≡ Accept c → Happens v l m r next
    → Recording l s t × (l.seats + 3 * l.faults < 2 * acks_for t (entry_with_ack l s t).acks)
answer_accept l next m r s t c kind reply (refused q e same) = impossible (cc)
answer_accept l next m r s t c kind reply (circulated u e f same) = impossible (cc)
answer_accept l next m r s t c kind reply (acknowledged u e f fit clear same) = impossible (cc)
answer_accept l next m r s t c kind reply (accepted_by_acks z u e f fit new full same) =
    let seat : s ≡ z = cc in
    let slip : t ≡ u = cc in
    let many = ltb-true (l.seats + 3 * l.faults) (2 * acks_for u (entry_with_ack l z u).acks) full in
    rw (seat, slip) (record { eligible = fit; recordable = new }, many)
answer_accept l next m r s t c kind reply (proposed z u v e f fit new few must most same) = impossible (cc)
answer_accept l next m r s t c kind reply (noted z u e f fit new few same) = impossible (cc)
answer_accept l next m r s t c kind reply (accepted_by_ruling u e f fit same) = impossible (cc)
answer_accept l next m r s t c kind reply (joined z u v since e f join same) = impossible (cc)
answer_accept l next m r s t c kind reply (told a e f same) = impossible (cc)

-- P u that is late means: an ack that conflicts with u, which its account retains, under rules that have it.
pub record ProposesLate (v : Rules) (l : Ledger) (m : Message) (u : Transfer) (next : Ledger) : Type 0 where
  pub sender : Seat
  pub slip : Transfer
  pub since : v ≡ since_request5
  pub is_ack : m ≡ Ack sender slip
  pub joins : Joining l sender slip u
  pub marks : next ≡ with_entry l slip.account (with_retained_proposed (entry_of l slip.account))

pub answer_propose : {v : Rules} (l next : Ledger) (m : Message) (r : Reply) (u : Transfer) → r ≡ Propose u → Happens v l m r next
    → Proposes l m u next ⊎ ProposesLate v l m u next
answer_propose l next m r u reply (refused q e same) = impossible (cc)
answer_propose l next m r u reply (circulated t e f same) = impossible (cc)
answer_propose l next m r u reply (acknowledged t e f fit clear same) = impossible (cc)
answer_propose l next m r u reply (accepted_by_acks s t e f fit new full same) = impossible (cc)
answer_propose l next m r u reply (proposed s t v e f fit new few must most same) =
    let slip : u ≡ v = cc in
    inl (proposing l next m s t u e fit new must (rw slip most) same)
answer_propose l next m r u reply (noted s t e f fit new few same) = impossible (cc)
answer_propose l next m r u reply (accepted_by_ruling t e f fit same) = impossible (cc)
answer_propose l next m r u reply (joined s t v since e f join same) =
    let slip : v ≡ u = cc in
    inr (record { sender = s; slip = t; since = since; is_ack = e; joins = rw (← slip) join; marks = same })
answer_propose l next m r u reply (told a e f same) = impossible (cc)

-- B means: the account's balance.
pub answer_balance : {v : Rules} (l next : Ledger) (m : Message) (r : Reply) (a : Account) (b : ℕ)
    → m ≡ Inquiry a → r ≡ Balance b → Happens v l m r next → b ≡ (entry_of l a).balance
answer_balance l next m r a b kind reply (refused q e same) = impossible (cc)
answer_balance l next m r a b kind reply (circulated t e f same) = impossible (cc)
answer_balance l next m r a b kind reply (acknowledged t e f fit clear same) = impossible (cc)
answer_balance l next m r a b kind reply (accepted_by_acks s t e f fit new full same) = impossible (cc)
answer_balance l next m r a b kind reply (proposed s t u e f fit new few must most same) = impossible (cc)
answer_balance l next m r a b kind reply (noted s t e f fit new few same) = impossible (cc)
answer_balance l next m r a b kind reply (accepted_by_ruling t e f fit same) = impossible (cc)
answer_balance l next m r a b kind reply (joined s t u since e f join same) = impossible (cc)
answer_balance l next m r a b kind reply (told c e f same) = let account : a ≡ c = cc in rw account (let told : b ≡ (entry_of l c).balance = cc in told)

-- K exactly if an ack makes enough, or to a ruling, where these are not refused: no other call is answered K.
refused_must : (v : Rules) (l : Ledger) (m : Message) (r : Reply) (q : Refusal) → r ≡ Refuse q → is_accept r ≡ must_accept v l (message m r)
refused_must v l (Request t) r q e = rw e
refused_must v l (Circulated t) r q e = rw e
refused_must v l (Ack s t) r q e = rw e
refused_must v l (Decision t) r q e = rw e
refused_must v l (Inquiry a) r q e = rw e

-- a late P is due just at an ack that brings one
joining_late : (l : Ledger) (s : Seat) (t u : Transfer) → Joining l s t u → late_in l (Ack s t) ≡ true
joining_late l s t u join =
    rw (lt-leb l.seats s.0 join.seat_known, join.in_range, join.is_retained, join.conflicting, join.nothing_proposed)

-- and to no eligible slip: of the next number, where nothing waits, nothing is retained
eligible_not_late : (v : Rules) (o : Opening) (l : Ledger) (s : Seat) (t : Transfer) → Group o → Sound o l → Eligible l t → late_met v l (Ack s t) ≡ false
eligible_not_late first_rules o l s t g ok fit = refl
eligible_not_late since_request3 o l s t g ok fit = refl
eligible_not_late since_request5 o l s t g ok fit = go (late_in l (Ack s t)) refl
  where
    go : (b : Bool) → late_in l (Ack s t) ≡ b → b ≡ false
    go true is =
        let e = entry_of l t.account in
        let join = joining l s t is in
        let u = slip_in e.retained in
        let past = booked_retained o t.account e (ok.each t.account) (admitted o l t g ok fit).none_waits u join.is_retained in
        absurd (omega (arith, past, fit.is_next, (conflict_sound u t join.conflicting).number))
    go false is = refl

-- a late P comes in place of 6, where the retained slip is booked, or of 8, where it waits
pub late_in_place : (o : Opening) (v : Rules) (l : Ledger) (m : Message) → Sound o l → late_met v l m ≡ true
    → (first_refusal (rules_met v l m) ≡ Some PastNumber) ⊎ (first_refusal (rules_met v l m) ≡ Some AlreadyAccepted)
late_in_place o first_rules l m ok late = impossible (cc)
late_in_place o since_request3 l m ok late = impossible (cc)
late_in_place o since_request5 l (Request t) ok late = impossible (cc)
late_in_place o since_request5 l (Circulated t) ok late = impossible (cc)
late_in_place o since_request5 l (Ack s t) ok late = go ((ok.each t.account).retained_stands u join.is_retained).1
  where
    e : Entry
    e = entry_of l t.account

    u : Transfer
    u = slip_in e.retained

    join : Joining l s t u
    join = joining l s t late

    clash : Conflict u t
    clash = conflict_sound u t join.conflicting

    go : (e.pending ≡ Some u) ⊎ (u.number ≤ e.current)
        → (first_refusal (rules_in l (Ack s t)) ≡ Some PastNumber) ⊎ (first_refusal (rules_in l (Ack s t)) ≡ Some AlreadyAccepted)
    go (inl waits) =
        let next = ((ok.each t.account).pending_stands u waits).1 in
        inr
        (rw (
          lt-leb l.seats s.0 join.seat_known,
          join.in_range,
          lt-leb t.number e.current (omega (arith, clash.number)),
          le-ltb (e.current + 1) t.number (omega (arith, clash.number)),
          waits,
          same_number_lem u t clash.account clash.number,
        ))
    go (inr past) =
        inl (rw (lt-leb l.seats s.0 join.seat_known, join.in_range, le-leb t.number e.current (omega (arith, clash.number))))
late_in_place o since_request5 l (Decision t) ok late = impossible (cc)
late_in_place o since_request5 l (Inquiry a) ok late = impossible (cc)

pub answer_exactly : (v : Rules) (o : Opening) (l next : Ledger) (m : Message) (r : Reply) → Group o → Sound o l → Happens v l m r next
    → is_accept r ≡ must_accept v l (message m r)
answer_exactly v o l next m r g ok (refused q e same) = refused_must v l m r q e
answer_exactly v o l next m r g ok (circulated t e f same) = rw (e, f)
answer_exactly v o l next m r g ok (acknowledged t e f fit clear same) = rw (e, f)
answer_exactly v o l next m r g ok (accepted_by_acks s t e f fit new full same) = rw (e, f, eligible_not_late v o l s t g ok fit, full)
answer_exactly v o l next m r g ok (proposed s t u e f fit new few must most same) = rw (e, f, eligible_not_late v o l s t g ok fit, few)
answer_exactly v o l next m r g ok (noted s t e f fit new few same) = rw (e, f, eligible_not_late v o l s t g ok fit, few)
answer_exactly v o l next m r g ok (accepted_by_ruling t e f fit same) = rw (e, f)
answer_exactly v o l next m r g ok (joined s t u since e f join same) = rw (e, f, since, joining_late l s t u join)
answer_exactly v o l next m r g ok (told a e f same) = rw (e, f)

-- An ack that is not refused, and brings no late P, is recorded, and stays so until its number is booked.
abbrev pub Held : Seat → Transfer → Entry → Type 0
Held s t e = (t.number ≤ e.current) ⊎ (ack_from e s ≡ Some t)

module _ (v : Rules) (o : Opening) (l next : Ledger) (m : Message) (r : Reply) (g : Group o) (ok : Sound o l) where
  held_kept : (s z : Seat) (t u : Transfer) → Eligible l t → Recordable l s t → Held z u (entry_of l t.account) → Held z u (entry_with_ack l s t)
  held_kept s z t u fit new (inl past) = inl past
  held_kept s z t u fit new (inr yet) = inr (recorded_kept o l s t g ok fit new z u yet)

  booked_held : (s : Seat) (u : Transfer) (a : Account) (e e' : Entry) (t : Transfer) → SoundEntry o a e → e.pending ≡ Some t → Cleared t e e'
      → Held s u e → Held s u e'
  booked_held s u a e e' t stands waits clear (inl past) = inl (omega (arith, clear.current_is, (stands.pending_stands t waits).1))
  booked_held s u a e e' t stands waits clear (inr yet) =
      inl (omega (arith, clear.current_is, (stands.pending_stands t waits).1, (stands.acks_stand s u yet).2))

  balance_held : (s : Seat) (u : Transfer) (e e' : Entry) → SameButBalance e e' → Held s u e → Held s u e'
  balance_held s u e e' same (inl past) = inl (rw same past)
  balance_held s u e e' same (inr yet) = inr (ap (λ (x : Entry). ack_from x s) same ∙ yet)

  -- what the rules retain keeps it
  retain_held : (e : Entry) (s : Seat) (t u : Transfer) → Held s u e → Held s u (waiting_under v e t)
  retain_held e s t u (inl past) = inl (rw (retain_current v e t) past)
  retain_held e s t u (inr yet) = inr (ap (λ (x : Entry). ack_from x s) (retain_keeps v e t) ∙ yet)

  pub stays_held : (s : Seat) (u : Transfer) → Happens v l m r next → (a : Account) → Held s u (entry_of l a) → Held s u (entry_of next a)
  stays_held s u =
      each_entry o l next m r g ok (λ a x. Held s u (entry_of l a) → Held s u x)
      (λ a e e' same was old. balance_held s u e e' same (was old))
      (λ a e e' t stands waits clear was old. booked_held s u a e e' t stands waits clear (was old))
      (λ a old. old)
      puts
    where
      puts : (t : Transfer) (x : Entry) → Puts v l m r t x → Held s u (entry_of l t.account) → Held s u x
      puts t x (puts_mark e f fit is) = rw is (λ old. old)
      puts t x (puts_ack z e fit new is) = rw is (held_kept z s t u fit new)
      puts t x (puts_proposal z w e f fit new for is) = rw is (held_kept z s t u fit new)
      puts t x (puts_accepted z c e f fit new full is) = rw is (λ old. retain_held (entry_with_ack l z t) s t u (held_kept z s t u fit new old))
      puts t x (puts_ruled c e f fit is) = rw is (λ old. retain_held (entry_of l t.account) s t u old)
      puts t x (puts_late z w since e f join is) = rw is (λ old. old)

  -- one that is put
  put_held : (s : Seat) (t : Transfer) (x : Entry) → Eligible l t → ack_from x s ≡ Some t → Held s t (entry_of (with_entry l t.account x) t.account)
  put_held s t x fit new = inr (ap (λ (y : Entry). ack_from y s) (with_entry_same l t.account x (admitted o l t g ok fit).inside) ∙ new)

  accepted_held : (s : Seat) (t : Transfer) → Eligible l t → Recordable l s t
      → Held s t (entry_of (with_entries l (accepted_in l (retain_under v (entry_with_ack l s t) t) t).entries) t.account)
  accepted_held s t fit new = go (settle_entry t.account joined)
    where
      waits : Ledger
      waits = with_entry l t.account (waiting_under v (entry_with_ack l s t) t)

      joined : List Entry
      joined = waits.entries

      before : Entry
      before = entry_at joined t.account

      after : Entry
      after = entry_at (settle joined).entries t.account

      yet : Held s t before
      yet =
          put_held s t (waiting_under v (entry_with_ack l s t) t) fit
          (ap (λ (x : Entry). ack_from x s) (retain_keeps v (entry_with_ack l s t) t) ∙ recorded_new o l s t g ok fit new)

      sound : SoundEntry o t.account (entry_of waits t.account)
      sound =
          (waits_sound o l t (retain_under v (entry_with_ack l s t) t) g ok (retain_balance v (entry_with_ack l s t) t)
          (retain_sound o v (entry_with_ack l s t) t (accepted_entry o l s t g ok fit new))).each t.account

      go : Turned before after → Held s t after
      go (kept same) = balance_held s t before after same yet
      go (booked u was clear) = booked_held s t t.account before after u sound was clear yet

  -- it is so now, or a slip that conflicts with it was accepted before
  pub now_held : (s : Seat) (t : Transfer) → m ≡ Ack s t → is_refusal r ≡ false → Happens v l m r next
      → Held s t (entry_of next t.account) ⊎ ((u : Transfer) × ProposesLate v l m u next × Conflict u t)
  now_held s t kind taken (refused q e same) = impossible (cc (rw e at taken))
  now_held s t kind taken (circulated u e f same) = impossible (cc)
  now_held s t kind taken (acknowledged u e f fit clear same) = impossible (cc)
  now_held s t kind taken (accepted_by_acks z u e f fit new full same) =
      let seat : s ≡ z = cc in
      let slip : t ≡ u = cc in
      inl (rw (seat, slip, same) (accepted_held z u fit new))
  now_held s t kind taken (proposed z u v e f fit new few must most same) =
      let seat : s ≡ z = cc in
      let slip : t ≡ u = cc in
      inl (rw (seat, slip, same) (put_held z u _ fit (recorded_new o l z u g ok fit new)))
  now_held s t kind taken (noted z u e f fit new few same) =
      let seat : s ≡ z = cc in
      let slip : t ≡ u = cc in
      inl (rw (seat, slip, same) (put_held z u _ fit (recorded_new o l z u g ok fit new)))
  now_held s t kind taken (accepted_by_ruling u e f fit same) = impossible (cc)
  now_held s t kind taken (joined z u w since e f join same) =
      let slip : t ≡ u = cc in
      let clash : Conflict w t = rw slip (conflict_sound w u join.conflicting) in
      inr (w, record { sender = z; slip = u; since = since; is_ack = e; joins = join; marks = same }, clash)
  now_held s t kind taken (told a e f same) = impossible (cc)

-- What a call keeps of each entry: current numbers never fall, and a slip that has been booked or waits stays so.
abbrev pub BookedOrWaits : Transfer → Entry → Type 0
BookedOrWaits t e = (t.number ≤ e.current) ⊎ (e.pending ≡ Some t)

-- where a slip has been booked or waits, none of its account and number is eligible
pub none_eligible : (o : Opening) (l : Ledger) (t v : Transfer) → Group o → Sound o l → BookedOrWaits t (entry_of l t.account)
    → t.account ≡ v.account → t.number ≡ v.number → Eligible l v → ⊥
none_eligible o l t v g ok (inl past) account number fit =
    omega (arith, fit.is_next, ap (λ (a : Account). (entry_of l a).current) account)
none_eligible o l t v g ok (inr waits) account number fit =
    impossible (cc ((admitted o l v g ok fit).none_waits, ap (λ (a : Account). (entry_of l a).pending) account))

module _ {v : Rules} (o : Opening) (l next : Ledger) (m : Message) (r : Reply) (g : Group o) (ok : Sound o l) (h : Happens v l m r next) where
  pub current_rises : (a : Account) → (entry_of l a).current ≤ (entry_of next a).current
  current_rises =
      each_entry o l next m r g ok (λ a x. (entry_of l a).current ≤ x.current)
      (λ a e e' same le. rw same le)
      (λ a e e' t stands waits clear le. omega (arith, clear.current_is, (stands.pending_stands t waits).1))
      (λ a. omega arith)
      (λ t x put. omega (arith, puts_current l m r t x put))
      h

  pub stays_settled : (t : Transfer) (a : Account) → BookedOrWaits t (entry_of l a) → BookedOrWaits t (entry_of next a)
  stays_settled t =
      each_entry o l next m r g ok (λ a x. BookedOrWaits t (entry_of l a) → BookedOrWaits t x)
      (λ a e e' same was old. on_balance e e' same (was old))
      (λ a e e' u stands waits clear was old. on_booked a e e' u stands waits clear (was old))
      (λ a old. old)
      (λ u x put. stays u x (puts_eligible l m r u x put) (puts_current l m r u x put))
      h
    where
      on_balance : (e e' : Entry) → SameButBalance e e' → BookedOrWaits t e → BookedOrWaits t e'
      on_balance e e' same (inl past) = inl (rw same past)
      on_balance e e' same (inr waits) = inr (rw same waits)

      on_booked : (a : Account) (e e' : Entry) (u : Transfer) → SoundEntry o a e → e.pending ≡ Some u → Cleared u e e' → BookedOrWaits t e → BookedOrWaits t e'
      on_booked a e e' u stands waits clear (inl past) = inl (omega (arith, clear.current_is, (stands.pending_stands u waits).1))
      on_booked a e e' u stands waits clear (inr this) =
          let same : t ≡ u = cc in
          inl (omega (arith, clear.current_is, ap (λ (x : Transfer). x.number) same))

      -- where nothing waits, it has been booked
      past : (u : Transfer) (x : Entry) → Eligible l u → x.current ≡ (entry_of l u.account).current
          → BookedOrWaits t (entry_of l u.account) → BookedOrWaits t x
      past u x fit same (inl done) = inl (omega arith)
      past u x fit same (inr waits) = impossible (cc (waits, (admitted o l u g ok fit).none_waits))

      stays : (u : Transfer) (x : Entry) → Eligible l u ⊎ (x ≡ with_retained_proposed (entry_of l u.account)) → x.current ≡ (entry_of l u.account).current
          → BookedOrWaits t (entry_of l u.account) → BookedOrWaits t x
      stays u x (inl fit) same old = past u x fit same old
      stays u x (inr is) same old = rw is old

  -- and the accepted slip has been booked, or waits
  pub just_settled : (t : Transfer) → accepted (message m r) ≡ Some t → BookedOrWaits t (entry_of next t.account)
  just_settled t is = go (turn o l next m r g ok h)
    where
      go : Turn o l m r next → BookedOrWaits t (entry_of next t.account)
      go (keeps same none_accepted not_k) = impossible (cc)
      go (accepts u this done) = after (settle_entry u.account joined)
        where
          joined : List Entry
          joined = set_entry l.entries u.account (with_pending done.entry u)

          read : entry_at joined u.account ≡ with_pending done.entry u
          read = entry_set_same l.entries u.account (with_pending done.entry u) done.fits.inside

          slip : t ≡ u
          slip = cc

          after : Turned (entry_at joined u.account) (entry_at (settle joined).entries u.account) → BookedOrWaits t (entry_of next t.account)
          after (kept same) = rw (slip, done.entries_are) (inr (rw same (ap (λ (e : Entry). e.pending) read)))
          after (booked w waits clear) =
              let that : w ≡ u = cc (waits, ap (λ (e : Entry). e.pending) read) in
              rw (slip, done.entries_are) (inl (omega (arith, clear.current_is, ap (λ (x : Transfer). x.number) that)))

-- what is accepted under the rules since request 5 is retained, and what settling does leaves it so
settled_retains : (l : Ledger) (x : Entry) (t : Transfer) → t.account.0 < length l.entries
    → (entry_of (with_entries l (accepted_in l (with_retained x t) t).entries) t.account).retained ≡ Some t
settled_retains l x t inside = go (settle_entry t.account joined)
  where
    joined : List Entry
    joined = set_entry l.entries t.account (waiting_under since_request5 x t)

    held_then : (entry_at joined t.account).retained ≡ Some t
    held_then = ap (λ (e : Entry). e.retained) (entry_set_same l.entries t.account (waiting_under since_request5 x t) inside)

    go : Turned (entry_at joined t.account) (entry_at (settle joined).entries t.account) → (entry_at (settle joined).entries t.account).retained ≡ Some t
    go (kept same) = ap (λ (e : Entry). e.retained) same ∙ held_then
    go (booked u waits clear) = clear.retained_same ∙ held_then

pub just_retained : (v : Rules) (o : Opening) (l next : Ledger) (m : Message) (r : Reply) (t : Transfer) → Group o → Sound o l → v ≡ since_request5
    → accepted (message m r) ≡ Some t → Happens v l m r next → (entry_of next t.account).retained ≡ Some t
just_retained v o l next m r t g ok since is h = go h
  where
    -- a call that accepts nothing
    none_else : accepted (message m r) ≡ None → (entry_of next t.account).retained ≡ Some t
    none_else nothing = impossible (cc)

    this : (u : Transfer) → accepted (message m r) ≡ Some u → u ≡ t
    this u that = cc

    go : Happens v l m r next → (entry_of next t.account).retained ≡ Some t
    go (refused q e same) = none_else (refused_accepts m r q e)
    go (circulated u e f same) = none_else (rw e)
    go (acknowledged u e f fit clear same) = none_else (rw e)
    go (accepted_by_acks s u e f fit new full same) =
        let slip = this u (rw (e, f)) in
        rw (← slip, same, since) (settled_retains l (entry_with_ack l s u) u (admitted o l u g ok fit).inside)
    go (proposed s u w e f fit new few must most same) = none_else (rw (e, f))
    go (noted s u e f fit new few same) = none_else (rw (e, f))
    go (accepted_by_ruling u e f fit same) =
        let slip = this u (rw (e, f)) in
        rw (← slip, same, since) (settled_retains l (entry_of l u.account) u (admitted o l u g ok fit).inside)
    go (joined s u w late e f join same) = none_else (rw (e, f))
    go (told a e f same) = none_else (rw e)

-- Why an ack is refused: 4 to 10.
pub data AckRefused (l : Ledger) (s : Seat) (t : Transfer) (q : Refusal) : Type 0 where
  unknown_seat_lem : l.seats ≤ s.0 → AckRefused l s t q
  out_of_range_lem : out_of_range l t ≡ true → AckRefused l s t q
  past_number_lem : t.number ≤ (entry_of l t.account).current → AckRefused l s t q
  future_number_lem : q ≡ FutureNumber → AckRefused l s t q
  waits_already_lem : waits_already (entry_of l t.account).pending t ≡ true → AckRefused l s t q
  repeated : holds t (ack_from (entry_of l t.account) s) ≡ true → AckRefused l s t q
  conflicting : conflicts t (ack_from (entry_of l t.account) s) ≡ true → AckRefused l s t q

pub ack_refused : (v : Rules) (l : Ledger) (s : Seat) (t : Transfer) (q : Refusal) → (step_under v l (Ack s t)).reply ≡ Refuse q → AckRefused l s t q
ack_refused v l s t q h = go (subst (SomeHolds q) (ack_rules_lem v l s t) (some_holds (rules_met v l (Ack s t)) q (refused_by v l (Ack s t) q h).1))
  where
    go : SomeHolds q (rules_in l (Ack s t)) → AckRefused l s t q
    go (inl is) = unknown_seat_lem (leb-true l.seats s.0 is.0)
    go (inr (inl is)) = out_of_range_lem is.0
    go (inr (inr (inl is))) = past_number_lem (leb-true t.number (entry_of l t.account).current is.0)
    go (inr (inr (inr (inl is)))) = future_number_lem (sym is.1)
    go (inr (inr (inr (inr (inl is))))) = waits_already_lem is.0
    go (inr (inr (inr (inr (inr (inl is)))))) = repeated is.0
    go (inr (inr (inr (inr (inr (inr (inl is))))))) = conflicting is.0
    go (inr (inr (inr (inr (inr (inr (inr no_more))))))) = absurd no_more
