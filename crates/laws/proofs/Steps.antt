-- What a call does, as one case per outcome with its evidence, for every set of rules, ledger and message. Proofs about
-- runs use `happens` and the laws after it in place of the definitions' text.
use Rattle.std.proofs.lemmas.Bool.{and_parts, not-true, or_parts}
use Rattle.std.specs.Prelude.{Option, Some, None}
use Prim.Native.Nat.{ℕ, ◌+◌, ◌<◌}
use native.Mathlib.Omega.{arith}
use mathlib.Core.Path.{◌≡◌, refl, ap, sym, subst, ◌∙◌}
use mathlib.Core.Logic.{◌⊎◌, inl, inr}
use mathlib.Core.Bool.{Bool, true, false, cond, not, ◌&&◌, ◌||◌}
use mathlib.Core.List.{List, [], ◌∷◌}
use lib.Dec.{eqb, ltb}
use borrow.Author.Tests.{leb-false}
use Rattle.laws.specs.Types.{Seat, Account, Transfer, Slot, Entry, Ledger, Refusal, Message, Request, Circulated, Ack, Decision, Inquiry, Reply, Circulate, Acknowledge, Accept, Propose, Note, Balance, Refuse}
use Rattle.model.specs.Records.{entry_of, set_entry, with_entry, with_entries, with_acked, with_ack, with_proposed, with_pending, with_retained, with_retained_of, with_retained_proposed}
use Rattle.model.specs.Replies.{code_of}
use Rattle.model.specs.Transfers.{conflict}
use Rattle.model.specs.Refusals.{Rule, first_refusal, unknown_seat, waits_already, ack_from, out_of_range, unknown_account}
use Rattle.model.specs.Acks.{holds, conflicts, slip_in, acks_for, acks_recorded, enough, must_propose, has_most, most_acked}
use Rattle.model.specs.Settling.{Settled, settle}
use Rattle.model.specs.Calls.{payer_of, Due, replied, accepts, waits, effect, must_join, finished_by, entry_for, rules_in}
use Rattle.model.specs.Switches.{Rules, first_rules, since_request3, since_request5, without_code, rules_met, late_met, effect_under, step_under}
use Rattle.laws.proofs.Sums.{impossible}
use Rattle.laws.proofs.Proposals.{most_acked_most}
use Rattle.laws.proofs.Access.{SameButRetained, SameGroup, with_entries_lem, with_entry_read}
use Rattle.laws.proofs.Refusing.{AllFail, none_holds, next_number_lem, due_under, replies_under, effect_in, joins_in, by_tally, refuses, not_refused, late_since, joins_in_lem}

-- what a slip is that 5 to 8 do not refuse
pub record Eligible (l : Ledger) (t : Transfer) : Type 0 where
  pub in_range : out_of_range l t ≡ false
  pub account_known : t.account.0 < l.accounts
  pub recipient_known : t.recipient.0 < l.accounts
  pub is_next : t.number ≡ (entry_of l t.account).current + 1
  pub not_waiting : waits_already (entry_of l t.account).pending t ≡ false

-- a slip that 5 does not refuse is of accounts that there are
accounts_known : (l : Ledger) (t : Transfer) → out_of_range l t ≡ false → (t.account.0 < l.accounts) × (t.recipient.0 < l.accounts)
accounts_known l t range =
    let number = eqb t.number 0 in
    let value = eqb t.value 0 in
    let accounts = unknown_account l t.account || unknown_account l t.recipient in
    let four = or_parts (accounts || number || value) (ltb l.total t.value) range in
    let three = or_parts (accounts || number) value four.0 in
    let known = or_parts (unknown_account l t.account) (unknown_account l t.recipient) (or_parts accounts number three.0).0 in
    (omega (arith, leb-false l.accounts t.account.0 known.0), omega (arith, leb-false l.accounts t.recipient.0 known.1))

eligible : (l : Ledger) (t : Transfer)
    → out_of_range l t ≡ false
    → t.number ≡ (entry_of l t.account).current + 1
    → waits_already (entry_of l t.account).pending t ≡ false
    → Eligible l t
eligible l t range next idle =
    let known = accounts_known l t range in
    record { in_range = range; account_known = known.0; recipient_known = known.1; is_next = next; not_waiting = idle }

-- an ack that 4, 9 and 10 do not refuse: its seat is one of the n, and the place of its ack holds no
-- slip that is equal or conflicts
pub record Recordable (l : Ledger) (s : Seat) (t : Transfer) : Type 0 where
  pub seat_known : s.0 < l.seats
  pub not_equal : holds t (ack_from (entry_of l t.account) s) ≡ false
  pub not_conflicting : conflicts t (ack_from (entry_of l t.account) s) ≡ false

-- the account's entry with the ack recorded: what K and P rest on
abbrev pub entry_with_ack : Ledger → Seat → Transfer → Entry
entry_with_ack l s t = with_ack (entry_of l t.account) s t

-- the entry with the slip retained that is accepted, under a set of rules
abbrev pub retain_under : Rules → Entry → Transfer → Entry
retain_under first_rules e t = e
retain_under since_request3 e t = e
retain_under since_request5 e t = with_retained e t

pub retain_keeps : (v : Rules) (e : Entry) (t : Transfer) → SameButRetained e (retain_under v e t)
retain_keeps first_rules e t = refl
retain_keeps since_request3 e t = refl
retain_keeps since_request5 e t = refl

-- what is retained then is what was, or this slip
pub retained_or : (v : Rules) (e : Entry) (t u : Transfer) → (retain_under v e t).retained ≡ Some u → (e.retained ≡ Some u) ⊎ (t ≡ u)
retained_or first_rules e t u h = inl h
retained_or since_request3 e t u h = inl h
retained_or since_request5 e t u h = inr (cc)

-- the entry in which a slip was accepted, and so waits
abbrev pub waiting_under : Rules → Entry → Transfer → Entry
waiting_under v e t = with_pending (retain_under v e t) t

-- What a late P rests on: an ack of slip t from seat s passes 4 and 5, its account retains u, a slip that conflicts
-- with t, and nothing was put forward for it.
pub record Joining (l : Ledger) (s : Seat) (t u : Transfer) : Type 0 where
  pub seat_known : s.0 < l.seats
  pub in_range : out_of_range l t ≡ false
  pub account_known : t.account.0 < l.accounts
  pub is_retained : (entry_of l t.account).retained ≡ Some u
  pub conflicting : conflict u t ≡ true
  pub nothing_proposed : (entry_of l t.account).retained_proposed ≡ false

-- what settling leaves where a slip is accepted, and so waits, in this entry of its account
abbrev pub accepted_in : Ledger → Entry → Transfer → Settled
accepted_in l e t = settle (set_entry l.entries t.account (with_pending e t))

-- What happened under a set of rules: the message, the reply, the ledger after it, and why.
pub data Happens (v : Rules) (l : Ledger) (m : Message) (r : Reply) (next : Ledger) : Type 0 where
  refused : (q : Refusal) → r ≡ Refuse q → next ≡ l → Happens v l m r next
  circulated : (t : Transfer) → m ≡ Request t → r ≡ Circulate → next ≡ l → Happens v l m r next
  acknowledged : (t : Transfer)
      → m ≡ Circulated t → r ≡ Acknowledge → Eligible l t → (entry_of l t.account).acked ≡ false
      → next ≡ with_entry l t.account (with_acked (entry_of l t.account))
      → Happens v l m r next
  accepted_by_acks : (s : Seat) (t : Transfer)
      → m ≡ Ack s t → r ≡ Accept (accepted_in l (retain_under v (entry_with_ack l s t) t) t).applied → Eligible l t → Recordable l s t
      → enough l.seats l.faults (acks_for t (entry_with_ack l s t).acks) ≡ true
      → next ≡ with_entries l (accepted_in l (retain_under v (entry_with_ack l s t) t) t).entries
      → Happens v l m r next
  proposed : (s : Seat) (t u : Transfer)
      → m ≡ Ack s t → r ≡ Propose u → Eligible l t → Recordable l s t
      → enough l.seats l.faults (acks_for t (entry_with_ack l s t).acks) ≡ false
      → must_propose l.seats l.faults (acks_recorded (entry_with_ack l s t).acks) (entry_with_ack l s t) ≡ true
      → has_most (entry_with_ack l s t).acks u ≡ true
      → next ≡ with_entry l t.account (with_proposed (entry_with_ack l s t))
      → Happens v l m r next
  noted : (s : Seat) (t : Transfer)
      → m ≡ Ack s t → r ≡ Note → Eligible l t → Recordable l s t
      → enough l.seats l.faults (acks_for t (entry_with_ack l s t).acks) ≡ false
      → next ≡ with_entry l t.account (entry_with_ack l s t)
      → Happens v l m r next
  accepted_by_ruling : (t : Transfer)
      → m ≡ Decision t → r ≡ Accept (accepted_in l (retain_under v (entry_of l t.account) t) t).applied → Eligible l t
      → next ≡ with_entries l (accepted_in l (retain_under v (entry_of l t.account) t) t).entries
      → Happens v l m r next
  joined : (s : Seat) (t u : Transfer)
      → v ≡ since_request5 → m ≡ Ack s t → r ≡ Propose u → Joining l s t u
      → next ≡ with_entry l t.account (with_retained_proposed (entry_of l t.account))
      → Happens v l m r next
  told : (a : Account) → m ≡ Inquiry a → r ≡ Balance (entry_of l a).balance → next ≡ l → Happens v l m r next

-- the effect where a slip is accepted in an entry that retains what it did
waits_under : (v : Rules) (e x : Entry) (t : Transfer) → with_retained_of x e ≡ x
    → effect_under v e (waits x t) ≡ record { due = (waits x t).due; entry = waiting_under v x t }
waits_under first_rules e x t same = ap (λ (y : Entry). record { due = (waits x t).due; entry = with_pending y t }) same
waits_under since_request3 e x t same = ap (λ (y : Entry). record { due = (waits x t).due; entry = with_pending y t }) same
waits_under since_request5 e x t same = refl

-- what the tally makes of a recorded ack
tally_happens : (v : Rules) (l : Ledger) (s : Seat) (t : Transfer) → Eligible l t → Recordable l s t
    → let o = effect_in v l (Ack s t) in Happens v l (Ack s t) o.reply o.next
tally_happens v l s t ok new = go (enough l.seats l.faults (acks_for t e.acks)) refl (must e) refl
  where
    e : Entry
    e = entry_with_ack l s t

    must : Entry → Bool
    must e = must_propose l.seats l.faults (acks_recorded e.acks) e

    go : (full : Bool) → enough l.seats l.faults (acks_for t e.acks) ≡ full
        → (split : Bool) → must e ≡ split
        → Happens v l (Ack s t) (effect_in v l (Ack s t)).reply (effect_in v l (Ack s t)).next
    go true full split must =
        let same = waits_under v (entry_of l t.account) e t refl in
        accepted_by_acks s t refl (rw (full, same)) ok new full (rw (full, same))
    go false full true must =
        let same = replies_under v (entry_of l t.account) (with_proposed e) (Propose (most_acked e.acks)) refl in
        proposed s t (most_acked e.acks) refl (rw (full, must, same)) ok new full must (most_acked_most e.acks) (rw (full, must, same))
    go false full false must =
        let same = replies_under v (entry_of l t.account) e Note refl in
        noted s t refl (rw (full, must, same)) ok new full (rw (full, must, same))

-- where every test fails, so do those that are left when one is left out
fail_without : (code : ℕ) (rules : List Rule) → AllFail rules → AllFail (without_code code rules)
fail_without code [] fail = tt
fail_without code (r ∷ rs) fail = go (eqb (code_of r.1) code) (fail_without code rs fail.1)
  where
    go : (b : Bool) → AllFail (without_code code rs) → AllFail (cond b (without_code code rs) (r ∷ without_code code rs))
    go true rest = rest
    go false rest = (fail.0, rest)

-- what no later rule refuses, no first rule does
first_fail : (v : Rules) (l : Ledger) (m : Message) → AllFail (rules_met v l m) → AllFail (rules_met first_rules l m)
first_fail first_rules l m fail = fail
first_fail since_request3 l m fail = fail_without 20 (rules_in l m) fail
first_fail since_request5 l m fail = fail_without 20 (rules_in l m) fail

-- what a message does that not even the first rules refuse
effect_happens : (v : Rules) (l : Ledger) (m : Message) → AllFail (rules_met first_rules l m) → Happens v l m (effect_in v l m).reply (effect_in v l m).next
effect_happens v l (Request t) fail =
    let same = replies_under v (entry_of l t.account) (entry_of l t.account) Circulate refl in
    circulated t refl (rw same) (rw same (with_entry_read l t.account))
effect_happens v l (Circulated t) fail =
    let next = next_number_lem (entry_of l t.account) t fail.1.0 fail.1.1.0 in
    let same = replies_under v (entry_of l t.account) (with_acked (entry_of l t.account)) Acknowledge refl in
    acknowledged t refl (rw same) (eligible l t fail.0 next fail.1.1.1.0) fail.1.1.1.1.0 (rw same)
effect_happens v l (Ack s t) fail =
    let next = next_number_lem (entry_of l t.account) t fail.1.1.0 fail.1.1.1.0 in
    let new : Recordable l s t =
    record {
      seat_known = omega (arith, leb-false l.seats s.0 fail.0);
      not_equal = fail.1.1.1.1.1.0;
      not_conflicting = fail.1.1.1.1.1.1.0;
    } in
    tally_happens v l s t (eligible l t fail.1.0 next fail.1.1.1.1.0) new
effect_happens v l (Decision t) fail =
    let next = next_number_lem (entry_of l t.account) t fail.1.0 fail.1.1.0 in
    let same = waits_under v (entry_of l t.account) (entry_of l t.account) t refl in
    accepted_by_ruling t refl (rw same) (eligible l t fail.0 next fail.1.1.1.0) (rw same)
effect_happens v l (Inquiry a) fail =
    let same = replies_under v (entry_of l a) (entry_of l a) (Balance (entry_of l a).balance) refl in
    told a refl (rw same) (rw same (with_entry_read l a))

-- what an ack rests on that brings a late P
pub joining : (l : Ledger) (s : Seat) (t : Transfer) → must_join l (entry_of l t.account) (Ack s t) ≡ true
    → Joining l s t (slip_in (entry_of l t.account).retained)
joining l s t late =
    let e = entry_of l t.account in
    let parts = and_parts (not (unknown_seat l s || out_of_range l t)) (conflicts t e.retained && not e.retained_proposed) late in
    let passed = or_parts (unknown_seat l s) (out_of_range l t) (not-true (unknown_seat l s || out_of_range l t) parts.0) in
    let join = and_parts (conflicts t e.retained) (not e.retained_proposed) parts.1 in
    let held = in_place e.retained refl join.0 in
    record {
      seat_known = omega (arith, leb-false l.seats s.0 passed.0);
      in_range = passed.1;
      account_known = (accounts_known l t passed.1).0;
      is_retained = held.0;
      conflicting = held.1;
      nothing_proposed = not-true e.retained_proposed join.1;
    }
  where
    in_place : (p : Slot) → (entry_of l t.account).retained ≡ p → conflicts t p ≡ true → (p ≡ Some (slip_in p)) × (conflict (slip_in p) t ≡ true)
    in_place None is h = impossible (cc)
    in_place (Some u) is h = (refl, h)

-- a late P
late_happens : (v : Rules) (l : Ledger) (m : Message) → late_met v l m ≡ true → Happens v l m (joins_in l m).reply (joins_in l m).next
late_happens v l m late = go m (late_since v l m late) (subst (λ (w : Rules). late_met w l m ≡ true) (late_since v l m late) late)
  where
    go : (m : Message) → v ≡ since_request5 → late_met since_request5 l m ≡ true → Happens v l m (joins_in l m).reply (joins_in l m).next
    go (Request t) since h = impossible (cc)
    go (Circulated t) since h = impossible (cc)
    go (Ack s t) since h = joined s t (slip_in (entry_of l t.account).retained) since refl refl (joining l s t h) refl
    go (Decision t) since h = impossible (cc)
    go (Inquiry a) since h = impossible (cc)

-- every message, whatever the ledger, under every set of rules
pub happens : (v : Rules) (l : Ledger) (m : Message) → Happens v l m (step_under v l m).reply (step_under v l m).next
happens v l m = go (late_met v l m) refl (first_refusal (rules_met v l m)) refl
  where
    go : (late : Bool) → late_met v l m ≡ late → (o : Option Refusal) → first_refusal (rules_met v l m) ≡ o
        → Happens v l m (step_under v l m).reply (step_under v l m).next
    go true late o e = rw (joins_in_lem v l m late) (late_happens v l m late)
    go false late None e = rw (not_refused v l m late e) (effect_happens v l m (first_fail v l m (none_holds (rules_met v l m) e)))
    go false late (Some q) e = rw (refuses v l m q late e) (refused q refl refl)

-- no message changes n, f, k or the opening sum
pub step_group : (v : Rules) (l : Ledger) (m : Message) → SameGroup (step_under v l m).next l
step_group v l m = go (happens v l m)
  where
    kept : {next : Ledger} (es : List Entry) → next ≡ with_entries l es → SameGroup next l
    kept es e = rw e (with_entries_lem l es).1

    go : {r : Reply} {next : Ledger} → Happens v l m r next → SameGroup next l
    go (refused q a e) = kept l.entries e
    go (circulated t a b e) = kept l.entries e
    go (acknowledged t a b c d e) = kept _ e
    go (accepted_by_acks s t a b c d f e) = kept _ e
    go (proposed s t u a b c d f g i e) = kept _ e
    go (noted s t a b c d f e) = kept _ e
    go (accepted_by_ruling t a b c e) = kept _ e
    go (joined s t u a b c d e) = kept _ e
    go (told a b c e) = kept l.entries e

-- P that is not late is answered to an ack, and carries the most acked slip, with that ack recorded.
abbrev pub CarriesMost : Ledger → Message → Transfer → Type 0
CarriesMost l m u = (s : Seat) × (t : Transfer) × (m ≡ Ack s t) × (u ≡ most_acked (entry_with_ack l s t).acks)

pub carries_most : (v : Rules) (l : Ledger) (m : Message) (u : Transfer) → late_met v l m ≡ false → (step_under v l m).reply ≡ Propose u
    → CarriesMost l m u
carries_most v l m u late h = go (first_refusal (rules_met v l m)) refl
  where
    -- where this is due
    due : (d : Due) (x : Entry) (a : Account) → (finished_by l a d x).reply ≡ Propose u → d ≡ replied (Propose u)
    due (replied r) x a h = ap replied h
    due accepts x a h = impossible (cc)

    taken : (m : Message) → (effect l (entry_for l m) m).due ≡ replied (Propose u) → CarriesMost l m u
    taken (Request t) h = impossible (cc)
    taken (Circulated t) h = impossible (cc)
    taken (Ack s t) h =
        by_tally (λ x. x.due ≡ replied (Propose u) → CarriesMost l (Ack s t) u) l (entry_with_ack l s t) t
        (λ k. impossible (cc)) (λ p. (s, t, refl, cc)) (λ n. impossible (cc)) h
    taken (Decision t) h = impossible (cc)
    taken (Inquiry a) h = impossible (cc)

    go : (o : Option Refusal) → first_refusal (rules_met v l m) ≡ o → CarriesMost l m u
    go None e =
        let x = effect_under v (entry_for l m) (effect l (entry_for l m) m) in
        let is = due x.due x.entry (payer_of m) (rw (not_refused v l m late e) at h) in
        taken m (sym (due_under v (entry_for l m) (effect l (entry_for l m) m)) ∙ is)
    go (Some q) e = impossible (let z : Refuse q ≡ Propose u = rw (refuses v l m q late e) at h in cc)
