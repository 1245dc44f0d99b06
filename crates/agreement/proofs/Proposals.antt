-- What a message is replied in a run, P above all: the statements are in Proposals.antt of the crate runs.
use Rattle.std.specs.Prelude.{Option, Some, None}
use mathlib.Core.Path.{◌≡◌, refl, sym, ◌∙◌}
use mathlib.Core.Bool.{true, false}
use Rattle.laws.specs.Types.{Transfer, Ledger, Refusal, Message, Reply, Circulate, Acknowledge, Accept, Propose, Note, Balance, Refuse}
use Rattle.runs.specs.Runs.{proposal, free_slip, acks_with, StandsFor, MayReply}
use Rattle.runs.specs.Proposals.{PutForwardAlike}
use Rattle.model.specs.Acks.{has_most, most_acked}
use Rattle.model.specs.Switches.{Rules, first_rules, since_request3, since_request5, newest, late_met, step_under}
use Rattle.laws.proofs.Sums.{impossible}
use Rattle.laws.proofs.Proposals.{most_acked_most, same_acks}
use Rattle.laws.proofs.Refusing.{newest_step}
use Rattle.laws.proofs.Steps.{Happens, refused, circulated, acknowledged, accepted_by_acks, proposed, noted, accepted_by_ruling, joined, told, happens, carries_most}

-- a reply that carries a slip is P
pub carried : (r : Reply) (t : Transfer) → proposal r ≡ Some t → r ≡ Propose t
carried Circulate t e = impossible (cc)
carried Acknowledge t e = impossible (cc)
carried (Accept c) t e = impossible (cc)
carried (Propose u) t e = cc
carried Note t e = impossible (cc)
carried (Balance b) t e = impossible (cc)
carried (Refuse q) t e = impossible (cc)

-- the most acked slip of the acks with the one at hand, if it is not late
pub most_with : (v : Rules) (l : Ledger) (m : Message) (t : Transfer) → late_met v l m ≡ false → (step_under v l m).reply ≡ Propose t
    → t ≡ most_acked (acks_with l m)
most_with v l m t late e = let c = carries_most v l m t late e in rw c.2 c.3

-- a slip that is left free is P's, which is not late: no rules have both
pub free_carried : (v : Rules) (l : Ledger) (m : Message) (r : Reply) (t : Transfer) → free_slip v r ≡ Some t → (r ≡ Propose t) × (late_met v l m ≡ false)
free_carried first_rules l m r t e = (carried r t e, refl)
free_carried since_request3 l m r t e = impossible (cc)
free_carried since_request5 l m r t e = impossible (cc)

module _ (v : Rules) (l : Ledger) (m : Message) where
  abbrev due : Reply
  due = (step_under v l m).reply

  -- what the step replies may be replied
  pub step_replies : MayReply v l m (step_under v l m).reply
  step_replies = go (free_slip v due) refl
    where
      go : (o : Option Transfer) → free_slip v due ≡ o → StandsFor due o (acks_with l m) due
      go None e = refl
      go (Some t) e =
          let is = free_carried v l m due t e in
          (t, is.0, rw (most_with v l m t is.1 is.0) (most_acked_most (acks_with l m)))

  -- in a run P has another slip, if it is free, and the rest is what happens
  another : {q : Reply} {next : Ledger} (t u : Transfer) → q ≡ Propose t → free_slip v q ≡ Some t → has_most (acks_with l m) u ≡ true
      → Happens v l m q next → Happens v l m (Propose u) next
  another t u is free most (refused x e same) = impossible (cc)
  another t u is free most (circulated y e f same) = impossible (cc)
  another t u is free most (acknowledged y e f fit clear same) = impossible (cc)
  another t u is free most (accepted_by_acks s y e f fit new full same) = impossible (cc)
  another t u is free most (proposed s y w e f fit new few must first same) = proposed s y u e refl fit new few must (rw e at most) same
  another t u is free most (noted s y e f fit new few same) = impossible (cc)
  another t u is free most (accepted_by_ruling y e f fit same) = impossible (cc)
  another {q} t u is free most (joined s y w since e f join same) =
      let left : free_slip since_request5 q ≡ Some t = rw since at free in
      impossible (cc)
  another t u is free most (told a e f same) = impossible (cc)

  -- what is replied in a run is one of the cases of what happens
  pub happens_in_run : (r : Reply) → MayReply v l m r → Happens v l m r (step_under v l m).next
  happens_in_run r h = go (free_slip v due) refl h
    where
      go : (o : Option Transfer) → free_slip v due ≡ o → StandsFor due o (acks_with l m) r → Happens v l m r (step_under v l m).next
      go None e is = rw is (happens v l m)
      go (Some t) e (u, is, most) = rw is (another t u (free_carried v l m due t e).0 e most (happens v l m))

  -- a refusal is not free
  pub refused_due : (q : Refusal) → MayReply v l m (Refuse q) → (step_under v l m).reply ≡ Refuse q
  refused_due q h = go (free_slip v due) h
    where
      go : (o : Option Transfer) → StandsFor due o (acks_with l m) (Refuse q) → due ≡ Refuse q
      go None is = sym is
      go (Some t) (u, is, most) = impossible (cc)

pub put_forward_alike : PutForwardAlike
put_forward_alike l k m q t u in_time too first second same =
    most_with newest l m t in_time (rw (newest_step l m) first)
    ∙ (same_acks (acks_with l m) (acks_with k q) (λ s. same (record { 0 = s })) ∙ sym (most_with newest k q u too (rw (newest_step k q) second)))
