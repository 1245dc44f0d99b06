-- A refusal changes nothing, for every ledger and every call; and a call is refused exactly by the first rule that
-- holds. Of messages, under every set of rules at once; and today's step is the step under the newest.
use Rattle.std.specs.Prelude.{Option, Some, None, Err}
use Prim.Native.Nat.{◌+◌}
use native.Mathlib.Omega.{arith}
use borrow.Author.Tests.{leb-false, ltb-false}
use mathlib.Core.Path.{◌≡◌, refl, ap, sym, subst, ◌∙◌}
use mathlib.Core.Logic.{◌⊎◌, inl, inr}
use mathlib.Core.Bool.{Bool, true, false, cond}
use mathlib.Core.List.{List, [], ◌∷◌}
use lib.Dec.{leb-zero}
use Rattle.laws.specs.Types.{Account, Transfer, Entry, Ledger, Outcome, Opening, Refusal, UnknownSeat, OutOfRange, Message, Request, Circulated, Ack, Decision, Inquiry, Reply, Propose, Note, Refuse}
use Rattle.model.specs.Records.{fresh_ledger, no_ledger, with_ack, with_proposed, with_retained_of}
use Rattle.model.specs.Refusals.{Rule, first_refusal, past_number, future_number, check_of}
use Rattle.model.specs.Openings.{open_rules, open_reply, open_ledger_by, open_ledger}
use Rattle.model.specs.Acks.{acks_for, acks_recorded, enough, must_propose, most_acked}
use Rattle.model.specs.Calls.{payer_of, Due, replied, accepts, Effect, replies, waits, tallied, effect, unless_refused, joins, finished_by, finished, entry_for, late_in, rules_in, step}
use Rattle.model.specs.Switches.{Rules, first_rules, since_request3, since_request5, newest, rules_met, late_met, effect_under, step_under}
use Rattle.laws.proofs.Sums.{impossible}
use Rattle.laws.proofs.Access.{with_entry_read}

-- every test of the rules fails
abbrev pub AllFail : List Rule → Type 0
AllFail [] = Unit {0}
AllFail (r ∷ rs) = (r.0 ≡ false) × AllFail rs

-- what is not refused failed every test of its rules
pub none_holds : (rules : List Rule) → first_refusal rules ≡ None → AllFail rules
none_holds [] e = tt
none_holds (r ∷ rs) e = go r.0 refl (none_holds rs)
  where
    go : (b : Bool) → r.0 ≡ b → (first_refusal rs ≡ None → AllFail rs) → (r.0 ≡ false) × AllFail rs
    go true h rest = let found : Some r.1 ≡ None = rw h at e in impossible (cc)
    go false h rest = (h, rest (rw h at e))

-- one of the rules has this refusal, and its test holds
abbrev pub SomeHolds : Refusal → List Rule → Type 0
SomeHolds q [] = ⊥
SomeHolds q (r ∷ rs) = ((r.0 ≡ true) × (r.1 ≡ q)) ⊎ SomeHolds q rs

-- what is refused met the test of one of its rules
pub some_holds : (rules : List Rule) (q : Refusal) → first_refusal rules ≡ Some q → SomeHolds q rules
some_holds [] q e = impossible (cc)
some_holds (r ∷ rs) q e = go r.0 refl (some_holds rs q)
  where
    go : (b : Bool) → r.0 ≡ b → (first_refusal rs ≡ Some q → SomeHolds q rs) → ((r.0 ≡ true) × (r.1 ≡ q)) ⊎ SomeHolds q rs
    go true h rest = let found : Some r.1 ≡ Some q = rw h at e in inl (h, cc)
    go false h rest = inr (rest (rw h at e))

-- a slip that neither 6 nor 7 refuses has the next number
pub next_number_lem : (e : Entry) (t : Transfer) → past_number e t ≡ false → future_number e t ≡ false → t.number ≡ e.current + 1
next_number_lem e t past future =
    omega (arith, leb-false t.number e.current past, ltb-false (e.current + 1) t.number future)

-- what is due is no refusal
abbrev NeverRefuses : Due → Type 0
NeverRefuses (replied q) = (r : Refusal) → q ≡ Refuse r → ⊥
NeverRefuses accepts = Unit {0}

-- what is true of K, of P and of N is true of what the tally decides
pub by_tally : (P : Effect → Type 0) (l : Ledger) (e : Entry) (t : Transfer)
    → P (waits e t) → P (replies (Propose (most_acked e.acks)) (with_proposed e)) → P (replies Note e) → P (tallied l e t)
by_tally P l e t accepted proposes notes =
    go (enough l.seats l.faults (acks_for t e.acks)) (must_propose l.seats l.faults (acks_recorded e.acks) e)
  where
    go : (full split : Bool)
        → P (cond full (waits e t) (cond split (replies (Propose (most_acked e.acks)) (with_proposed e)) (replies Note e)))
    go true split = accepted
    go false true = proposes
    go false false = notes

effect_never : (l : Ledger) (e : Entry) (m : Message) → NeverRefuses (effect l e m).due
effect_never l e (Request t) = λ r h. impossible (cc)
effect_never l e (Circulated t) = λ r h. impossible (cc)
effect_never l e (Ack s t) = by_tally (λ x. NeverRefuses x.due) l (with_ack e s t) t tt (λ r h. impossible (cc)) (λ r h. impossible (cc))
effect_never l e (Decision t) = tt
effect_never l e (Inquiry b) = λ r h. impossible (cc)

-- and so is no reply
finished_never : (l : Ledger) (a : Account) (d : Due) (e : Entry) → NeverRefuses d → (r : Refusal) → (finished_by l a d e).reply ≡ Refuse r → ⊥
finished_never l a (replied q) e never r h = never r h
finished_never l a accepts e never r h = impossible (cc)

-- under no set of rules is anything else due
pub due_under : (v : Rules) (e : Entry) (x : Effect) → (effect_under v e x).due ≡ x.due
due_under first_rules e x = refl
due_under since_request3 e x = refl
due_under since_request5 e x = refl

under_never : (v : Rules) (l : Ledger) (a : Account) (e : Entry) (x : Effect) → NeverRefuses x.due
    → (r : Refusal) → (finished l a (effect_under v e x)).reply ≡ Refuse r → ⊥
under_never v l a e x never =
    finished_never l a (effect_under v e x).due (effect_under v e x).entry (subst NeverRefuses (sym (due_under v e x)) never)

-- a reply that leaves what is retained is the same under every set of rules
pub replies_under : (v : Rules) (e x : Entry) (r : Reply) → with_retained_of x e ≡ x
    → effect_under v e (replies r x) ≡ replies r x
replies_under first_rules e x r same = ap (replies r) same
replies_under since_request3 e x r same = ap (replies r) same
replies_under since_request5 e x r same = refl

-- The outcome of a message under a set of rules where none of its rules holds; of a late P; and of a refusal.
abbrev pub effect_in : Rules → Ledger → Message → Outcome
effect_in v l m = finished l (payer_of m) (effect_under v (entry_for l m) (effect l (entry_for l m) m))

abbrev pub joins_in : Ledger → Message → Outcome
joins_in l m = finished l (payer_of m) (joins (entry_for l m))

abbrev pub refusal : Refusal → Ledger → Outcome
refusal r l = record { reply = Refuse r; next = l }

-- a reply R names the first rule that holds, and no late P was due
pub refused_by : (v : Rules) (l : Ledger) (m : Message) (r : Refusal) → (step_under v l m).reply ≡ Refuse r
    → (late_met v l m ≡ false) × (first_refusal (rules_met v l m) ≡ Some r)
unfolding step_under
refused_by v l m r h = go (late_met v l m) (first_refusal (rules_met v l m)) h
  where
    a : Account
    a = payer_of m

    e : Entry
    e = entry_for l m

    go : (late : Bool) (o : Option Refusal)
        → (finished l a (effect_under v e (cond late (joins e) (unless_refused o e (effect l e m))))).reply ≡ Refuse r
        → (late ≡ false) × (o ≡ Some r)
    go true o h = absurd (under_never v l a e (joins e) (λ q k. impossible (cc)) r h)
    go false None h = absurd (under_never v l a e (effect l e m) (effect_never l e m) r h)
    go false (Some q) h =
        let said : Refuse q ≡ Refuse r = rw (replies_under v e e (Refuse q) refl) at h in
        (refl, cc)

-- a message that a rule refuses replies its code and changes nothing
pub refuses : (v : Rules) (l : Ledger) (m : Message) (r : Refusal) → late_met v l m ≡ false → first_refusal (rules_met v l m) ≡ Some r
    → step_under v l m ≡ refusal r l
unfolding step_under
refuses v l m r late e =
    rw (late, e, replies_under v (entry_for l m) (entry_for l m) (Refuse r) refl) (ap (refusal r) (with_entry_read l (payer_of m)))

-- a refusal changes nothing
pub refusal_keeps : (v : Rules) (l : Ledger) (m : Message) (r : Refusal) → (step_under v l m).reply ≡ Refuse r → (step_under v l m).next ≡ l
refusal_keeps v l m r h = let by = refused_by v l m r h in rw (refuses v l m r by.0 by.1)

-- a message that no rule refuses has its effect
pub not_refused : (v : Rules) (l : Ledger) (m : Message) → late_met v l m ≡ false → first_refusal (rules_met v l m) ≡ None
    → step_under v l m ≡ effect_in v l m
unfolding step_under
not_refused v l m late e = rw (late, e) refl

-- a late P is due under the newest rules alone, and then nothing else is
pub late_since : (v : Rules) (l : Ledger) (m : Message) → late_met v l m ≡ true → v ≡ since_request5
late_since first_rules l m late = impossible (cc)
late_since since_request3 l m late = impossible (cc)
late_since since_request5 l m late = refl

pub joins_in_lem : (v : Rules) (l : Ledger) (m : Message) → late_met v l m ≡ true → step_under v l m ≡ joins_in l m
unfolding step_under
joins_in_lem v l m late =
    let since = late_since v l m late in
    rw late (ap (λ (w : Rules). finished l (payer_of m) (effect_under w (entry_for l m) (joins (entry_for l m)))) since)

-- today's step is the step under the newest rules
pub newest_step : (l : Ledger) (m : Message) → step_under newest l m ≡ step l m
unfolding step_under step
newest_step l m = refl

-- a refused opening leaves any ledger as it was
pub open_refused : (o : Opening) (r : Refusal) → open_reply o ≡ Err r → (l : Ledger) → open_ledger o l ≡ l
unfolding open_reply open_ledger
open_refused o r h l = go (first_refusal (open_rules o)) h
  where
    go : (q : Option Refusal) → check_of q ≡ Err r → open_ledger_by q (fresh_ledger o) l ≡ l
    go None h = impossible (cc)
    go (Some q) h = refl

-- the ledger with no seats and no accounts, which words that are all 0 are, refuses every message:
-- acks with 4, all others with 5
pub no_ledger_refuses : (m : Message) → (r : Refusal) × (step no_ledger m ≡ refusal r no_ledger)
no_ledger_refuses m = ((first m).0, sym (newest_step no_ledger m) ∙ refuses newest no_ledger m (first m).0 (first m).1 (first m).2)
  where
    first : (m : Message) → (r : Refusal) × (late_in no_ledger m ≡ false) × (first_refusal (rules_in no_ledger m) ≡ Some r)
    first (Request t) = (OutOfRange, refl, rw (leb-zero t.account.0))
    first (Circulated t) = (OutOfRange, refl, rw (leb-zero t.account.0))
    first (Ack s t) = (UnknownSeat, rw (leb-zero s.0), rw (leb-zero s.0))
    first (Decision t) = (OutOfRange, refl, rw (leb-zero t.account.0))
    first (Inquiry a) = (OutOfRange, refl, rw (leb-zero a.0))
