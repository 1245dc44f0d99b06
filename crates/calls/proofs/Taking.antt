-- From what a call computed to what it promises.
use Rattle.std.specs.Prelude.{Some, None, Ok, Err}
use Prim.Native.Nat.{ℕ, ◌+◌, ◌<◌}
use native.Mathlib.Omega.{arith}
use mathlib.Core.Path.{◌≡◌, refl, ap, sym, ◌∙◌}
use mathlib.Core.Bool.{Bool, true, false, cond}
use mathlib.Core.List.{List}
use lib.ListN.{length, set, length-set}
use lib.Seq.{get_or-set_same}
use Rattle.model.specs.declared.Seat.{Seat}
use Rattle.model.specs.declared.Account.{Account}
use Rattle.model.specs.declared.Transfer.{Transfer}
use Rattle.model.specs.Types.{Slot, AckSlot, Entry, Ledger}
use Rattle.model.specs.declared.Refusal.{Refusal}
use Rattle.model.specs.declared.Message.{Message}
use Rattle.model.specs.declared.Message.TheVariants.{Ack}
use Rattle.model.specs.declared.Reply.{Reply}
use Rattle.model.specs.declared.Reply.TheVariants.{Accept, Refuse, Propose}
use Rattle.model.specs.Basics.{bit}
use Rattle.model.specs.Records.{with_ack, with_pending, with_proposed, with_retained, with_retained_proposed, with_entry}
use Rattle.model.specs.Acks.{holds, acks_for, acks_recorded, enough, must_propose, most_acked}
use Rattle.model.specs.Replies.{letter_of, values_of}
use Rattle.model.specs.Refusals.{Rule, first_refusal, check_of}
use Rattle.model.specs.Calls.{Due, replied, accepts, Effect, tallied, waits, finished_by, finished, late_in, step, rules_in}
use Rattle.laws.proofs.Equality.{equal_refl}
use Rattle.laws.proofs.Sums.{impossible, sum_at_least}
use Rattle.laws.proofs.Access.{set_entry_twice, with_entry_same, with_entry_again}
use Rattle.laws.proofs.Steps.{joining}
use Rattle.model.specs.Switches.{newest}
use Rattle.laws.proofs.Refusing.{effect_in, refuses, not_refused, joins_in_lem, newest_step}
use Rattle.layout.specs.Layout.{ledger_in, entry_in}
use Rattle.layout.proofs.Blocks.{entries_length}
use Rattle.layout.proofs.Ranges.{accounts_fit}
use Rattle.basics.proofs.ReadBack.{passed, failed}
use Rattle.settling.specs.Results.{Settles}
use Rattle.tally.specs.declared.Tally.{Tally}
use Rattle.tally.specs.Results.{tally_of}
use Rattle.checks.specs.Promises.{late_slip}
use Rattle.calls.specs.Promises.{Answered, Taken}

-- what is replied is told by its letter and its values
answered : (before : List ℕ) (m : Message) (r : Reply) (after : List ℕ) → r ≡ (step (ledger_in before) m).reply → ledger_in after ≡ (step (ledger_in before) m).next
    → ((code : Refusal) → r ≡ Refuse code → after ≡ before) → Answered before m r after
answered before m r after reply ledger kept =
    record { reply = reply; letter = ap letter_of reply; values = ap values_of reply; ledger = ledger; kept = kept }

-- A message that brings no late P, whose rules were tried: refused with the words as they were, or served by its
-- effect.
module _ (ws : List ℕ) (m : Message) (in_time : late_in (ledger_in ws) m ≡ false) where
  abbrev rules : List Rule
  rules = rules_in (ledger_in ws) m

  pub refused : (r : Refusal) → Err r ≡ check_of (first_refusal rules) → Answered ws m (Refuse r) ws
  refused r found =
      let step_is = sym (newest_step (ledger_in ws) m) ∙ refuses newest (ledger_in ws) m r in_time (failed (first_refusal rules) r (sym found)) in
      answered ws m (Refuse r) ws (rw step_is) (rw step_is) (λ code e. refl)

  pub served : (r : Reply) (after : List ℕ) → Ok tt ≡ check_of (first_refusal rules) → Taken (effect_in newest (ledger_in ws) m) r after → Answered ws m r after
  served r after clear x =
      let step_is = sym (newest_step (ledger_in ws) m) ∙ not_refused newest (ledger_in ws) m in_time (passed (first_refusal rules) (sym clear)) in
      answered ws m r after (rw step_is x.reply) (rw step_is x.ledger) (λ code e. absurd (x.not_refused code e))

-- An entry that is stored is overwritten where a turn is finished.
finished_again : (l : Ledger) (a : Account) (e : Entry) (x : Effect) → finished (with_entry l a e) a x ≡ finished l a x
finished_again l a e x = go x.due x.entry
  where
    go : (d : Due) (e' : Entry) → finished_by (with_entry l a e) a d e' ≡ finished_by l a d e'
    go (replied c) e' = rw (set_entry_twice l.entries a e e')
    go accepts e' = rw (set_entry_twice l.entries a e e')

-- a seat's ack that is recorded is among those that are equal to its slip
counted_in : (acks : List AckSlot) (s : ℕ) (t : Transfer) → s < length acks → 0 < acks_for t (set acks s (record { slot = Some t }))
counted_in acks s t inside =
    let d : AckSlot = record { slot = None } in
    let new : AckSlot = record { slot = Some t } in
    let at = sum_at_least (λ (a : AckSlot). bit (holds t a.slot)) (set acks s new) s d (rw (length-set acks s new) inside) in
    let one : bit (holds t (Some t)) ≡ 1 = ap bit (equal_refl t) in
    omega (arith, one, rw (get_or-set_same acks s new d inside) at at)

-- The slip's ack is recorded in the words, and what follows is what the message does.
module _
    (before mid : List ℕ) (s : Seat) (t : Transfer) (account : t.account.0 < 32)
    (stored : ledger_in mid ≡ with_entry (ledger_in before) t.account (with_ack (entry_in before t.account) s t))
  where
    here : entry_in mid t.account ≡ with_ack (entry_in before t.account) s t
    here = rw stored (with_entry_same (ledger_in before) t.account (with_ack (entry_in before t.account) s t) (omega (arith, entries_length before)))

    pub still_next : t.number ≡ (entry_in before t.account).current + 1 → t.number ≡ (entry_in mid t.account).current + 1
    still_next e = rw here e

    pub recorded : s.0 < length (entry_in before t.account).acks → 0 < acks_for t (entry_in mid t.account).acks
    recorded seat = rw here (counted_in (entry_in before t.account).acks s.0 t seat)

    pub whole : (r : Reply) (after : List ℕ) → Taken (finished (ledger_in mid) t.account (tallied (ledger_in mid) (entry_in mid t.account) t)) r after
        → Taken (effect_in newest (ledger_in before) (Ack s t)) r after
    whole r after x =
        let e = with_ack (entry_in before t.account) s t in
        rw (here, stored, finished_again (ledger_in before) t.account e (tallied (ledger_in before) e t)) at x

-- An ack that brings a late P, of what is retained.
module _ (ws : List ℕ) (s : Seat) (t : Transfer) (p : Slot) (p_is : p ≡ late_slip (ledger_in ws) (entry_in ws t.account) s t) where
  abbrev late : Bool
  late = late_in (ledger_in ws) (Ack s t)

  -- a place that is filled is the retained one, and the P is due
  due : (u : Transfer) → p ≡ Some u → (late ≡ true) × ((entry_in ws t.account).retained ≡ Some u)
  due u found = go late refl (sym p_is ∙ found)
    where
      go : (b : Bool) → late ≡ b → cond b (entry_in ws t.account).retained None ≡ Some u → (late ≡ true) × ((entry_in ws t.account).retained ≡ Some u)
      go true is h = (is, h)
      go false is h = impossible (cc)

  -- an empty place is no late P: what is due is of a slip
  pub in_time : p ≡ None → late ≡ false
  in_time found = go late refl (sym p_is ∙ found)
    where
      go : (b : Bool) → late ≡ b → cond b (entry_in ws t.account).retained None ≡ None → late ≡ false
      go true is h =
          let held = (joining (ledger_in ws) s t is).is_retained in
          impossible (cc (held, h))
      go false is h = is

  pub proposes_late : (u : Transfer) (after : List ℕ) → p ≡ Some u
      → ledger_in after ≡ with_entry (ledger_in ws) t.account (with_retained_proposed (entry_in ws t.account)) → Answered ws (Ack s t) (Propose u) after
  proposes_late u after found marked =
      let is = due u found in
      let step_is = sym (newest_step (ledger_in ws) (Ack s t)) ∙ joins_in_lem newest (ledger_in ws) (Ack s t) is.0 in
      answered ws (Ack s t) (Propose u) after (rw (step_is, is.1)) (rw step_is marked) (λ code e. impossible (cc))

  -- such an ack is of an account that there is
  pub late_account : (u : Transfer) → p ≡ Some u → t.account.0 < 32
  late_account u found =
      omega (arith, (joining (ledger_in ws) s t (due u found).0).account_known, accounts_fit ws)

-- A slip is retained, and then it waits.
pub retained_waits : (before mid after : List ℕ) (t : Transfer)
    → ledger_in mid ≡ with_entry (ledger_in before) t.account (with_retained (entry_in before t.account) t)
    → ledger_in after ≡ with_entry (ledger_in mid) t.account (with_pending (entry_in mid t.account) t)
    → ledger_in after ≡ with_entry (ledger_in before) t.account (with_pending (with_retained (entry_in before t.account) t) t)
retained_waits before mid after t kept waiting =
    waiting ∙ rw kept (with_entry_again (ledger_in before) t.account (with_retained (entry_in before t.account) t) (λ e. with_pending e t))

-- A slip that waits is settled: K.
pub settled : (before mid after : List ℕ) (t : Transfer) (n : ℕ)
    → ledger_in mid ≡ with_entry (ledger_in before) t.account (with_pending (with_retained (entry_in before t.account) t) t)
    → Settles mid after n → Taken (finished (ledger_in before) t.account (waits (entry_in before t.account) t)) (Accept n) after
settled before mid after t n stored x =
    record {
      reply = ap Accept (rw stored at x.count);
      ledger = rw stored at x.ledger;
      not_refused = λ code e. impossible (cc);
    }

-- What the tally decides: K, else P, else N.
module _ (ws : List ℕ) (t : Transfer) (y : Tally) (y_is : y ≡ tally_of t (entry_in ws t.account).acks) where
  abbrev l : Ledger
  l = ledger_in ws

  abbrev e : Entry
  e = entry_in ws t.account

  -- what follows from the entry in words
  abbrev pub Decided : Reply → List ℕ → Type 0
  Decided r after = Taken (finished l t.account (tallied l e t)) r after

  enough_is : enough l.seats l.faults (acks_for t e.acks) ≡ enough l.seats l.faults y.equal
  enough_is = rw y_is

  pub tally_accepts : (r : Reply) (after : List ℕ) → enough l.seats l.faults y.equal ≡ true → Taken (finished l t.account (waits e t)) r after → Decided r after
  tally_accepts r after more x = rw (enough_is ∙ more) x

  module _ (few : enough l.seats l.faults y.equal ≡ false) where
    must_is : must_propose l.seats l.faults (acks_recorded e.acks) e ≡ must_propose l.seats l.faults y.recorded e
    must_is = rw y_is

    pub tally_proposes : (u : Transfer) (after : List ℕ) → must_propose l.seats l.faults y.recorded e ≡ true → u ≡ most_acked e.acks
        → ledger_in after ≡ with_entry l t.account (with_proposed e) → Decided (Propose u) after
    tally_proposes u after due most marked =
        rw (enough_is ∙ few, must_is ∙ due)
        (record { reply = ap Propose most; ledger = marked; not_refused = λ code e. impossible (cc) })
