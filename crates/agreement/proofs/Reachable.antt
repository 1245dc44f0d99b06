-- What happened at a message of a run; and every ledger that an opening and calls can make is sound, with no premises
-- on the run. By this, three ways to show what holds of a seat's ledger in a run, each from what a message does to a
-- sound ledger: at every place (`run_induction`), from a place on (`stays`), and of every earlier call (`past_calls`).
use Rattle.std.specs.Prelude.{Some}
use Prim.Native.Nat.{ℕ}
use mathlib.Core.Path.{◌≡◌, refl, ap, sym, subst, ◌∙◌}
use mathlib.Core.Logic.{◌⊎◌, inl, inr}
use mathlib.Core.Bool.{false}
use mathlib.Core.List.{List}
use Rattle.laws.specs.Types.{Seat, Transfer, Ledger, Opening, Message, Reply, Propose, ListReply}
use Rattle.runs.specs.Runs.{Opens, Call, message, waiting_list, switch, Event, Run, start, ◌▹◌, Within, at_end, sooner, same_seat, rules_at, ledger_at, Conforms, Obeys, proposed}
use Rattle.agreement.proofs.Places.{started_under, the_start, nothing_yet, last_or_sooner, seat_self, obeys_at, one_event, ledger_induction}
use Rattle.agreement.proofs.Proposals.{happens_in_run}
use Rattle.agreement.proofs.Deeds.{proposed_is}
use Rattle.agreement.proofs.Soundness.{group, Sound, opened_sound, switched_sound}
use Rattle.agreement.proofs.StepLaws.{step_sound, Proposes, ProposesLate, answer_propose}
use Rattle.model.specs.Records.{fresh_ledger}
use Rattle.model.specs.Switches.{Rules, next_rules, switched, step_under}
use Rattle.laws.proofs.Sums.{impossible}
use Rattle.laws.proofs.Steps.{Happens}

-- what happened at a message of a run, by the rules that its seat had there
pub happened_at : (o : Opening) {p r : Run} {e : Event} (m : Message) (q : Reply) → Obeys o r → Within (p ▹ e) r → e.call ≡ message m q
    → Happens (rules_at e.at p) (ledger_at o e.at p) m q (step_under (rules_at e.at p) (ledger_at o e.at p) m).next
happened_at o {p} {e = e} m q obeys w is =
    happens_in_run (rules_at e.at p) (ledger_at o e.at p) m q
    (subst (Conforms (rules_at e.at p) (ledger_at o e.at p)) is (obeys_at o obeys w))

-- what a call did that put u forward: the message, and why, on a tally or late
pub put_forward : (o : Opening) {p r : Run} {e : Event} (u : Transfer) → Obeys o r → Within (p ▹ e) r → proposed e.call ≡ Some u
    → (m : Message) × (next : Ledger) × (e.call ≡ message m (Propose u))
    × (Proposes (ledger_at o e.at p) m u next ⊎ ProposesLate (rules_at e.at p) (ledger_at o e.at p) m u next)
put_forward o {e = e} u obeys w is =
    let call = proposed_is e.call u is in
    (call.0, _, call.1, answer_propose _ _ call.0 (Propose u) u refl (happened_at o call.0 (Propose u) obeys w call.1))

-- at every place of a run that obeys
pub sound : (o : Opening) → Opens o → (s : Seat) (r : Run) → Obeys o r → Sound o (ledger_at o s r)
sound o opens s =
    ledger_induction o s (λ r v l. Sound o l)
    (λ r e v l other ok. ok)
    (λ r b a q v l ok. ok)
    (λ r v l is obeys ok. switched_sound o l v ok)
    (λ r v m q l is obeys h ok. step_sound o l (step_under v l m).next m q (group o opens) ok (happens_in_run v l m q h))
    (λ from. opened_sound o opens)

module _ (o : Opening) (opens : Opens o) (s : Seat) where
  -- P of the run, the seat's rules and its ledger, at every place
  pub run_induction : (P : Run → Rules → Ledger → Type 0)
      → ((from : Seat → Rules) → P (start from) (from s) (fresh_ledger o))
      → ((r : Run) (e : Event) (v : Rules) (l : Ledger) → same_seat e.at s ≡ false → P r v l → P (r ▹ e) v l)
      → ((r : Run) (b a : List ℕ) (q : ListReply) (v : Rules) (l : Ledger) → P r v l → P (r ▹ record { at = s; call = waiting_list b q a }) v l)
      → ((r : Run) (v : Rules) (l : Ledger) → Sound o l → P r v l → P (r ▹ record { at = s; call = switch }) (next_rules v) (switched v l))
      → ((r : Run) (v : Rules) (m : Message) (q : Reply) (l next : Ledger) → Sound o l → Happens v l m q next
      → P r v l → P (r ▹ record { at = s; call = message m q }) v next)
      → (r : Run) → Obeys o r → P r (rules_at s r) (ledger_at o s r)
  run_induction P opened elsewhere listed switches answered =
      ledger_induction o s P elsewhere listed (λ r v l is obeys yet. switches r v l (rw is (sound o opens s r obeys)) yet)
      (λ r v m q l is obeys h yet. answered r v m q l (step_under v l m).next (rw is (sound o opens s r obeys)) (happens_in_run v l m q h) yet)
      opened

  -- P of the rules and the ledger, which switches and messages keep: from a place to every later one
  module _ (P : Rules → Ledger → Type 0)
      (switches : (v : Rules) (l : Ledger) → Sound o l → P v l → P (next_rules v) (switched v l))
      (kept : (v : Rules) (l next : Ledger) (m : Message) (q : Reply) → Sound o l → Happens v l m q next → P v l → P v next)
    where
      pub stays : {p r : Run} → Obeys o r → Within p r → P (rules_at s p) (ledger_at o s p) → P (rules_at s r) (ledger_at o s r)
      stays obeys at_end old = old
      stays obeys (sooner {r = r} {e = e} w) old =
          one_event o s (λ r v l. P v l) (λ r e v l other yet. yet) (λ r b a q v l yet. yet)
          (λ r v l is here yet. switches v l (rw is (sound o opens s r here)) yet)
          (λ r v m q l is here h yet. kept v l (step_under v l m).next m q (rw is (sound o opens s r here)) (happens_in_run v l m q h) yet)
          r e obeys (stays obeys.0 w old)

      -- so at every place, if it is true of the opened ledger
      pub everywhere : ((v : Rules) → P v (fresh_ledger o)) → (r : Run) → Obeys o r → P (rules_at s r) (ledger_at o s r)
      unfolding rules_at ledger_at
      everywhere opened r obeys = stays obeys (the_start r) (opened (started_under r s))

  -- Q of every earlier call at the seat, its rules and its ledger now: true of each call when it is made, and
  -- later switches and messages keep it
  module _ (Q : Call → Rules → Ledger → Type 0)
      (listed : (v : Rules) (l : Ledger) (b a : List ℕ) (q : ListReply) → Q (waiting_list b q a) v l)
      (switches : (v : Rules) (l : Ledger) → Q switch v l)
      (made : (v : Rules) (l next : Ledger) (m : Message) (q : Reply) → Sound o l → Happens v l m q next → Q (message m q) v next)
      (kept_switch : (c : Call) (v : Rules) (l : Ledger) → Sound o l → Q c v l → Q c (next_rules v) (switched v l))
      (kept : (c : Call) (v : Rules) (l next : Ledger) (m : Message) (q : Reply) → Sound o l → Happens v l m q next → Q c v l → Q c v next)
    where
      abbrev Past : Run → Rules → Ledger → Type 0
      Past r v l = (p : Run) (e : Event) → Within (p ▹ e) r → e.at ≡ s → Q e.call v l

      -- one more event d
      one_more_lem : (r : Run) (d : Event) (v : Rules) (l : Ledger) → Past r v l → (d.at ≡ s → Q d.call v l) → Past (r ▹ d) v l
      one_more_lem r d v l old new p e w at = go (last_or_sooner w)
        where
          go : ((p ≡ r) × (e ≡ d)) ⊎ Within (p ▹ e) r → Q e.call v l
          go (inl last) = rw last.1 (new (sym (ap (λ (x : Event). x.at) last.1) ∙ at))
          go (inr yet) = old p e yet at

      pub past_calls : (r : Run) → Obeys o r → (p : Run) (e : Event) → Within (p ▹ e) r → e.at ≡ s → Q e.call (rules_at s r) (ledger_at o s r)
      past_calls =
          run_induction Past (λ from p e w at. nothing_yet w)
          (λ r d v l other old. one_more_lem r d v l old (λ at. impossible (cc (other, seat_self s, at))))
          (λ r b a q v l old. one_more_lem r _ v l old (λ at. listed v l b a q))
          (λ r v l ok old. one_more_lem r _ _ _ (λ p e w at. kept_switch e.call v l ok (old p e w at)) (λ at. switches (next_rules v) (switched v l)))
          (λ r v m q l next ok h old.
          one_more_lem r _ v next (λ p e w at. kept e.call v l next m q ok h (old p e w at)) (λ at. made v l next m q ok h))
