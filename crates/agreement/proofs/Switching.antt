-- How little a switch changes, and what a seat keeps across it: the statements are in Switching.antt of the crate runs.
use Rattle.std.specs.Prelude.{Option, Some, None}
use Prim.Native.Nat.{◌+◌, ◌≤◌, ◌<◌}
use native.Mathlib.Omega.{arith}
use mathlib.Core.Path.{◌≡◌, refl, ap, sym, subst, ◌∙◌}
use mathlib.Core.Logic.{inl, inr}
use mathlib.Core.Bool.{Bool, true, false, cond}
use borrow.Author.Tests.{lt-leb, le-ltb}
use Rattle.laws.specs.Types.{Seat, Account, Transfer, Entry, Ledger, Refusal, Message, Circulated, Ack, Decision, Inquiry, Reply, Accept, Refuse}
use Rattle.runs.specs.Runs.{Call, message, waiting_list, switch, ◌▹◌, at_end, sooner, same_seat, rules_after, rules_at, ledger_at, free_slip, acks_with, StandsFor, MayReply, Obeys}
use Rattle.runs.specs.Switching.{SameSaveTies, Alike, TakenAlike, forgotten, LateAlone, NoneGoesBack, NewestStays, MarksStand}
use Rattle.agreement.proofs.Places.{seat_is, obeys_before}
use Rattle.agreement.proofs.Proposals.{free_carried, most_with}
use Rattle.agreement.proofs.Reachable.{sound}
use Rattle.agreement.proofs.Acked.{last_number, acked_so_far, acked_in_range}
use Rattle.model.specs.declared.Refusal.TheVariants.{AlreadyAcked, SelfPayment}
use Rattle.model.specs.Types.{Outcome}
use Rattle.model.specs.Basics.{bit}
use Rattle.model.specs.Records.{with_retained_of, set_entry, entry_of, with_entries, with_entry}
use Rattle.model.specs.Settling.{Settled, settle}
use Rattle.model.specs.Refusals.{first_refusal, out_of_range, pays_itself}
use Rattle.model.specs.Calls.{payer_of, Due, replied, accepts, turn_by, finished_by, finished, entry_for, rules_in}
use Rattle.model.specs.Switches.{Rules, first_rules, since_request3, since_request5, newest, rank, next_rules, switched, rules_met, late_met, retains_as, step_under}
use Rattle.laws.proofs.Proposals.{most_acked_most}
use Rattle.laws.proofs.Forgetting.{forgetting, forgets_set, settled_forgetting, settle_forgets}
use Rattle.laws.proofs.Refusing.{refuses}
use Rattle.laws.proofs.Switching.{ack_rules_lem, ruling_rules}

module _ (l : Ledger) (m : Message) where
  -- what may be replied under rules v is what is due, or both are P and have the most acks
  due_save_ties : (v : Rules) (r : Reply) → MayReply v l m r → SameSaveTies (acks_with l m) r (step_under v l m).reply
  due_save_ties v r h = go (free_slip v (step_under v l m).reply) refl h
    where
      go : (x : Option Transfer) → free_slip v (step_under v l m).reply ≡ x → StandsFor (step_under v l m).reply x (acks_with l m) r
          → SameSaveTies (acks_with l m) r (step_under v l m).reply
      go None e is = inl is
      go (Some t) e (u, is, most) =
          let due = free_carried v l m (step_under v l m).reply t e in
          inr (u, t, is, due.0, most, rw (most_with v l m t due.1 due.0) (most_acked_most (acks_with l m)))

  -- two that are the same as one, save ties, are so
  join_ties : (q r due : Reply) → SameSaveTies (acks_with l m) q due → SameSaveTies (acks_with l m) r due → SameSaveTies (acks_with l m) q r
  join_ties q r due (inl a) (inl b) = inl (a ∙ sym b)
  join_ties q r due (inl a) (inr (t, u, is, there, most, too)) = inr (u, t, a ∙ there, is, too, most)
  join_ties q r due (inr (t, u, is, there, most, too)) (inl b) = inr (t, u, is, b ∙ there, most, too)
  join_ties q r due (inr (t, u, is, there, most, too)) (inr (x, y, also, that, has, as_well)) = inr (t, x, is, also, most, has)

-- a message that meets the same under the first rules does the same
alike : (l : Ledger) (m : Message) → rules_met first_rules l m ≡ rules_in l m → Alike l m
unfolding step_under
alike l m meets q r first second =
    let same : step_under first_rules l m ≡ step_under since_request3 l m =
    ap (λ rules. finished l (payer_of m) (retains_as (entry_for l m) (turn_by false rules l (entry_for l m) m))) meets in
    let theirs = subst (λ (due : Outcome). SameSaveTies (acks_with l m) r due.reply) (sym same) (due_save_ties l m since_request3 r second) in
    (join_ties l m q r (step_under first_rules l m).reply (due_save_ties l m first_rules q first) theirs, ap (λ (x : Outcome). x.next) same)

pub taken_alike : (l : Ledger) → TakenAlike l
taken_alike l =
    record {
      acks = λ s t. alike l (Ack s t) (ack_rules_lem first_rules l s t);
      rulings = λ t. alike l (Decision t) (ruling_rules first_rules l t);
      questions = λ a. alike l (Inquiry a) refl;
    }

-- an effect, and the same with something else retained
module _ (l : Ledger) (a : Account) (e : Entry) where
  -- where the two entries are stored
  forgets_stored : (x : Entry) → forgotten (with_entry l a x) ≡ forgotten (with_entry l a (with_retained_of x e))
  forgets_stored x =
      ap (with_entries l) (forgets_set l.entries a x ∙ sym (forgets_set l.entries a (with_retained_of x e)))

  forgets_finished : (d : Due) (x : Entry)
      → ((finished_by l a d x).reply ≡ (finished_by l a d (with_retained_of x e)).reply)
      × (forgotten (finished_by l a d x).next ≡ forgotten (finished_by l a d (with_retained_of x e)).next)
  forgets_finished (replied r) x = (refl, forgets_stored x)
  forgets_finished accepts x =
      let xs = set_entry l.entries a x in
      let ys = set_entry l.entries a (with_retained_of x e) in
      let entries : forgetting xs ≡ forgetting ys = forgets_set l.entries a x ∙ sym (forgets_set l.entries a (with_retained_of x e)) in
      let settled : settled_forgetting (settle xs) ≡ settled_forgetting (settle ys) =
      sym (settle_forgets xs) ∙ (ap settle entries ∙ settle_forgets ys) in (
        ap (λ (s : Settled). Accept s.applied) settled,
        ap (λ (s : Settled). with_entries l s.entries) settled,
      )

pub late_alone_lem : (l : Ledger) (m : Message) → LateAlone l m
unfolding step_under
late_alone_lem l m =
    record {
      otherwise = λ none.
          let e = entry_for l m in
          let x = turn_by false (rules_in l m) l e m in
          rw none (forgets_finished l (payer_of m) e x.due x.entry);
      late = λ is. rw is (refl, refl);
    }

-- a call leads to no earlier rules
never_earlier : (v : Rules) (c : Call) → rank v ≤ rank (rules_after v c)
never_earlier v (message m r) = omega arith
never_earlier v (waiting_list b r a) = omega arith
never_earlier first_rules switch = omega arith
never_earlier since_request3 switch = omega arith
never_earlier since_request5 switch = omega arith

pub none_goes_back : NoneGoesBack
unfolding rules_at
none_goes_back s p run at_end = omega arith
none_goes_back s p (run ▹ e) (sooner w) = go (same_seat e.at s) (none_goes_back s p run w)
  where
    go : (b : Bool) → rank (rules_at s p) ≤ rank (rules_at s run)
        → rank (rules_at s p) ≤ rank (cond b (rules_after (rules_at s run) e.call) (rules_at s run))
    go true yet = omega (arith, yet, never_earlier (rules_at s run) e.call)
    go false yet = yet

pub newest_stays : NewestStays
unfolding rules_at ledger_at
newest_stays o s z run is = go (same_seat s z) refl
  where
    go : (b : Bool) → same_seat s z ≡ b
        → (cond b (next_rules (rules_at z run)) (rules_at z run) ≡ rules_at z run)
        × (cond b (switched (rules_at z run) (ledger_at o z run)) (ledger_at o z run) ≡ ledger_at o z run)
    go true here =
        let there : rules_at z run ≡ newest = rw (seat_is s z here) at is in
        (rw there refl, rw there refl)
    go false other = (refl, refl)

-- a mark, from a number that the seat has booked or acked
mark_set : (e : Entry) (t : Transfer) → t.number ≤ last_number e → e.current < t.number → (e.acked ≡ true) × (t.number ≡ e.current + 1)
mark_set e t upto unbooked = go e.acked refl
  where
    go : (b : Bool) → e.acked ≡ b → (e.acked ≡ true) × (t.number ≡ e.current + 1)
    go true is = (is, omega (arith, ap bit is))
    go false is = absurd (omega (arith, ap bit is))

module _ (v : Rules) (since : rank since_request3 ≤ rank v) (l : Ledger) (t : Transfer) where
  -- a circulated slip is refused since request 3 by what it meets today, and brings no late P
  meets : (r : Refusal) → first_refusal (rules_in l (Circulated t)) ≡ Some r → (step_under v l (Circulated t)).reply ≡ Refuse r
  meets r today = ap (λ (x : Outcome). x.reply) (refuses v l (Circulated t) r (not_late v) (met v since))
    where
      not_late : (v : Rules) → late_met v l (Circulated t) ≡ false
      not_late first_rules = refl
      not_late since_request3 = refl
      not_late since_request5 = refl

      met : (v : Rules) → rank since_request3 ≤ rank v → first_refusal (rules_met v l (Circulated t)) ≡ Some r
      met first_rules above = absurd (omega arith)
      met since_request3 above = today
      met since_request5 above = today

  -- 20
  meets_20 : out_of_range l t ≡ false → pays_itself t ≡ true → (step_under v l (Circulated t)).reply ≡ Refuse SelfPayment
  meets_20 range itself = meets SelfPayment (rw (range, itself))

  -- .. and 12
  meets_12 : out_of_range l t ≡ false → pays_itself t ≡ false → t.number ≡ (entry_of l t.account).current + 1
      → (entry_of l t.account).pending ≡ None → (entry_of l t.account).acked ≡ true
      → (step_under v l (Circulated t)).reply ≡ Refuse AlreadyAcked
  meets_12 range other next none_waits mark =
      let e = entry_of l t.account in
      meets AlreadyAcked
      (rw (range, other, lt-leb t.number e.current (omega arith), le-ltb (e.current + 1) t.number (omega arith), none_waits, mark))

pub marks_stand : MarksStand
marks_stand o run p q e t opens obeys w v is unbooked =
    record {
      marked = mark.0;
      same_slip = λ v since itself. meets_20 v since l t ((acked_in_range o opens q here p e t w is).1 l (sound o opens s q here)) itself;
      other_slip = λ v since u account number other range none_waits.
          meets_12 v since l u range other (number ∙ (mark.1 ∙ ap (λ (a : Account). (entry_of l a).current + 1) (sym account)))
          (ap (λ (a : Account). (entry_of l a).pending) account ∙ none_waits)
          (ap (λ (a : Account). (entry_of l a).acked) account ∙ mark.0);
    }
  where
    s : Seat
    s = e.at

    l : Ledger
    l = ledger_at o s q

    here : Obeys o q
    here = obeys_before o obeys v

    mark : ((entry_of l t.account).acked ≡ true) × (t.number ≡ (entry_of l t.account).current + 1)
    mark = mark_set (entry_of l t.account) t (acked_so_far o opens s q here p e w refl t is) unbooked
