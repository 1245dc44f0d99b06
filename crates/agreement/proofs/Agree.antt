-- The first point of demand 3: any two accepted slips with equal account and number are equal.
use Rattle.std.proofs.lemmas.Bool.{and_parts}
use Rattle.std.specs.Prelude.{Option, Some, None}
use Prim.Native.Nat.{ℕ}
use mathlib.Core.Path.{◌≡◌, refl, ap, sym, ◌∙◌}
use mathlib.Core.Bool.{Bool, true, false, not, cond}
use mathlib.Core.List.{List, [], ◌∷◌, ◌++◌}
use mathlib.Core.Logic.{◌⊎◌, inl, inr}
use Rattle.laws.specs.Types.{Seat, Transfer, Ledger, Opening, Message, Ack, Accept, Propose}
use Rattle.runs.specs.Runs.{Opens, FewBad, message, Event, Run, start, ◌▹◌, Within, at_end, sooner, happened, rules_at, ledger_at, Obeys, accepted, proposed, ruled, passes}
use Rattle.runs.specs.Facts.{accepted_by}
use Rattle.runs.specs.Premises.{ruled_on, ruled_otherwise, likewise, proposals, founded, rightful, Premises}
use Rattle.agreement.proofs.Places.{before, within_trans, Order, same_event, earlier, later, order, happened_holds, happened_later, throughout_at, obeys_before}
use Rattle.agreement.proofs.Deeds.{Accepts, by_ack, by_ruling, accepted_is, passes_is, deed_found}
use Rattle.agreement.proofs.Reachable.{sound, happened_at, put_forward}
use Rattle.agreement.proofs.StepLaws.{answer_accept, Proposes, ProposesLate}
use Rattle.agreement.proofs.Reasons.{all_reasons}
use Rattle.agreement.proofs.Acked.{call_from}
use Rattle.agreement.proofs.Votes.{Quorum, Majority, quorums_agree, quorum_proposed, accept_quorum, propose_majority}
use Rattle.model.specs.Basics.{every}
use Rattle.model.specs.Transfers.{same_number, equal, conflict}
use Rattle.laws.proofs.Sums.{impossible}
use Rattle.laws.proofs.Equality.{same_number_lem, number_same, equal_sound, equal_refl, Conflict, conflict_complete}

-- the first ruling in a run that has a slip's account and number
pub record FirstRuling (t : Transfer) (r : Run) : Type 0 where
  pub place : Run
  pub event : Event
  pub slip : Transfer
  pub within : Within (place ▹ event) r
  pub rules : ruled event.call ≡ Some slip
  pub likewise_it : same_number t slip ≡ true
  pub none_sooner : ruled_on t place ≡ false

first_ruling : (t : Transfer) (r : Run) → ruled_on t r ≡ true → FirstRuling t r
first_ruling t (start from) h = impossible (cc)
first_ruling t (r ▹ e) h = go (ruled_on t r) refl (first_ruling t r)
  where
    go : (b : Bool) → ruled_on t r ≡ b → (ruled_on t r ≡ true → FirstRuling t r) → FirstRuling t (r ▹ e)
    go true yet rest =
        let first = rest yet in
        record {
          place = first.place;
          event = first.event;
          slip = first.slip;
          within = sooner first.within;
          rules = first.rules;
          likewise_it = first.likewise_it;
          none_sooner = first.none_sooner;
        }
    go false yet rest =
        let found = passes_is (same_number t) (ruled e.call) (rw yet at h) in
        record {
          place = r;
          event = e;
          slip = found.0;
          within = at_end;
          rules = found.1;
          likewise_it = found.2;
          none_sooner = yet;
        }

-- what each slip is that was put forward with a slip's account and number
proposals_all : (t u : Transfer) (r : Run)
    → ((q : Run) (d : Event) (w : Transfer) → Within (q ▹ d) r → proposed d.call ≡ Some w → same_number u w ≡ true → t ≡ w)
    → every (equal t) (proposals u r) ≡ true
proposals_all t u (start from) h = refl
proposals_all t u (r ▹ e) h = go (proposed e.call) refl (proposals_all t u r (λ q d w within. h q d w (sooner within)))
  where
    add : (w : Transfer) (b : Bool) → same_number u w ≡ b → proposed e.call ≡ Some w → every (equal t) (proposals u r) ≡ true
        → every (equal t) (cond b (w ∷ []) [] ++ proposals u r) ≡ true
    add w true same is rest = let this = h r e w at_end is same in rw (← this, equal_refl t) rest
    add w false same is rest = rest

    go : (x : Option Transfer) → proposed e.call ≡ x → every (equal t) (proposals u r) ≡ true
        → every (equal t) (likewise u x ++ proposals u r) ≡ true
    go None is rest = rest
    go (Some w) is rest = add w (same_number u w) refl is rest

-- a ruling that is founded on slips that are all t is for t
founded_on : (t u : Transfer) (slips : List Transfer) → every (equal t) slips ≡ true → founded u slips ≡ true → u ≡ t
founded_on t u [] all h = impossible (cc)
founded_on t u (w ∷ ws) all h =
    let parts = and_parts (equal t w) (every (equal t) ws) all in
    let first = equal_sound t w parts.0 in
    let agreeing : every (equal w) ws ≡ true = rw first at parts.1 in
    let ruling : every (equal u) (w ∷ ws) ≡ true = rw agreeing at h in
    equal_sound u w (and_parts (equal u w) (every (equal u) ws) ruling).0 ∙ sym first

module _ (o : Opening) (bad : Seat → Bool) (run : Run) (opens : Opens o) (few : FewBad o bad) (obeys : Obeys o run) (kept : Premises o bad run) where
  -- an ack answered K: its slip has a quorum
  pub acks_quorum : (p : Run) (e : Event) (s : Seat) (t : Transfer) (k : ℕ) → Within (p ▹ e) run → e.call ≡ message (Ack s t) (Accept k)
      → Quorum o bad run t
  acks_quorum p e s t k w is =
      let l = ledger_at o e.at p in
      let ok = sound o opens e.at p (obeys_before o obeys (before w)) in
      let found = answer_accept l _ (Ack s t) (Accept k) s t k refl refl (happened_at o (Ack s t) (Accept k) obeys w is) in
      let from = call_from o bad opens run kept.acks_genuine obeys p e (Ack s t) (Accept k) s t w is refl found.0 in
      accept_quorum o bad run opens l ok s t found.0 from found.1

  -- a slip that is put forward has a majority, or it is put forward late, by a seat that had accepted it
  pub proposed_why : (q : Run) (d : Event) (u : Transfer) → Within (q ▹ d) run → proposed d.call ≡ Some u
      → Majority o bad run u ⊎ (accepted_by d.at u q ≡ true)
  proposed_why q d u w is = let found = put_forward o u obeys w is in go found.0 found.2 found.3
    where
      l : Ledger
      l = ledger_at o d.at q

      here : Obeys o q
      here = obeys_before o obeys (before w)

      go : {next : Ledger} (m : Message) → d.call ≡ message m (Propose u) → Proposes l m u next ⊎ ProposesLate (rules_at d.at q) l m u next
          → Majority o bad run u ⊎ (accepted_by d.at u q ≡ true)
      go m call (inl found) =
          inl
          (propose_majority o bad run opens l (sound o opens d.at q here) m u found
          (call_from o bad opens run kept.acks_genuine obeys q d m (Propose u) found.sender found.slip w call found.is_ack found.records))
      go m call (inr late) = inr ((all_reasons o opens d.at q here late.slip.account).why_retained u late.joins.is_retained)

  -- what the premise says at a ruling
  ruling_rightful : (p : Run) (e : Event) (t : Transfer) → Within (p ▹ e) run → ruled e.call ≡ Some t → rightful p (Some t) ≡ true
  ruling_rightful p e t w is = rw is at (throughout_at (λ before e. rightful before (ruled e.call)) kept.rulings_rightful w)

  -- a ruling before another of the same account and number has the same slip
  earlier_ruling : (p q : Run) (e d : Event) (t u : Transfer) → Within (q ▹ d) run → Within (p ▹ e) q
      → ruled e.call ≡ Some t → ruled d.call ≡ Some u → t.account ≡ u.account → t.number ≡ u.number → t ≡ u
  earlier_ruling p q e d t u w first ist isu account number = go (equal u t) refl
    where
      go : (b : Bool) → equal u t ≡ b → t ≡ u
      go true same = sym (equal_sound u t same)
      go false other =
          let clash : Conflict u t =
          record { account = sym account; number = sym number; differ = λ same. impossible (cc (other, equal_refl t, same)) } in
          let test : Event → Bool = λ x. passes (conflict u) (ruled x.call) in
          let found : ruled_otherwise u q ≡ true = happened_holds test first (rw ist (conflict_complete u t clash)) in
          let parts = and_parts (not (ruled_otherwise u q)) _ (ruling_rightful q d u w isu) in
          impossible (cc (parts.0, found))

  -- all rulings for one account and number carry the same slip
  rulings_agree : (p q : Run) (e d : Event) (t u : Transfer) → Within (p ▹ e) run → Within (q ▹ d) run
      → ruled e.call ≡ Some t → ruled d.call ≡ Some u → t.account ≡ u.account → t.number ≡ u.number → t ≡ u
  rulings_agree p q e d t u w v ist isu account number = go (order run w v)
    where
      go : Order p q e d → t ≡ u
      go (same_event place event) = let both : Some t ≡ Some u = sym ist ∙ (ap (λ (x : Event). ruled x.call) event ∙ isu) in cc
      go (earlier first) = earlier_ruling p q e d t u v first ist isu account number
      go (later first) = sym (earlier_ruling q p d e u t w first isu ist (sym account) (sym number))

  -- where of its account and number only t has a majority or a quorum, a ruling for them is for t. What was put
  -- forward before the first of them has a majority; or it is late, and its seat had accepted it: by a quorum, since
  -- a ruling would have come before
  pub ruled_only : (t u : Transfer)
      → ((w : Transfer) → Majority o bad run w → t.account ≡ w.account → t.number ≡ w.number → t ≡ w)
      → ((w : Transfer) → Quorum o bad run w → t.account ≡ w.account → t.number ≡ w.number → t ≡ w)
      → (q : Run) (d : Event) → Within (q ▹ d) run → ruled d.call ≡ Some u
      → t.account ≡ u.account → t.number ≡ u.number → u ≡ t
  ruled_only t u major many q d w is account number =
      let test : Event → Bool = λ e. passes (same_number u) (ruled e.call) in
      let first = first_ruling u run (happened_holds test w (rw is (same_number_lem u u refl refl))) in
      let alike = number_same u first.slip first.likewise_it in
      let same = rulings_agree q first.place d first.event u first.slip w first.within is first.rules alike.0 alike.1 in
      let right = ruling_rightful first.place first.event u first.within (first.rules ∙ ap Some (sym same)) in
      founded_on t u (proposals u first.place) (all_t first.place (before first.within) first.none_sooner)
      (rw first.none_sooner at (and_parts (not (ruled_otherwise u first.place)) _ right).1)
    where
      ruling : Event → Bool
      ruling e = passes (same_number u) (ruled e.call)

      -- what was put forward while there was no ruling
      only : (q : Run) (d : Event) (w : Transfer) → Within (q ▹ d) run → happened ruling q ≡ false → proposed d.call ≡ Some w
          → same_number u w ≡ true → t ≡ w
      only q d w v none_yet isw alike = go (proposed_why q d w v isw)
        where
          same : (t.account ≡ w.account) × (t.number ≡ w.number)
          same = let found = number_same u w alike in (account ∙ found.0, number ∙ found.1)

          by : (p : Run) (e : Event) → Within (p ▹ e) q → Accepts e.call w → t ≡ w
          by p e first (by_ack s k this) =
              many w (acks_quorum p e s w k (within_trans first (before v)) this) same.0 same.1
          by p e first (by_ruling k this) =
              impossible (cc (none_yet, happened_holds ruling first (rw this alike)))

          go : Majority o bad run w ⊎ (accepted_by d.at w q ≡ true) → t ≡ w
          go (inl found) = major w found same.0 same.1
          go (inr accepts) =
              let found = deed_found accepted d.at w q accepts in
              by found.0 found.1 found.2 (accepted_is found.1.call w found.4)

      all_t : (p : Run) → Within p run → happened ruling p ≡ false → every (equal t) (proposals u p) ≡ true
      all_t p within none_yet =
          proposals_all t u p
          (λ q d w v isw alike. only q d w (within_trans v within) (not_sooner (before v) none_yet) isw alike)
        where
          not_sooner : {q : Run} → Within q p → happened ruling p ≡ false → happened ruling q ≡ false
          not_sooner {q} early never = go (happened ruling q) refl
            where
              go : (b : Bool) → happened ruling q ≡ b → b ≡ false
              go true met = impossible (cc (never, happened_later ruling early met))
              go false unmet = refl

  -- so it is for a slip with a quorum
  quorum_ruled : (t u : Transfer) → Quorum o bad run t → (q : Run) (d : Event) → Within (q ▹ d) run → ruled d.call ≡ Some u
      → t.account ≡ u.account → t.number ≡ u.number → u ≡ t
  quorum_ruled t u quorum =
      ruled_only t u (λ w. quorum_proposed o bad run opens few obeys t w quorum) (λ w. quorums_agree o bad run opens few obeys t w quorum)

  -- any two accepted slips with equal account and number are equal
  pub accepted_agree : (p q : Run) (e d : Event) (t u : Transfer)
      → Within (p ▹ e) run → accepted e.call ≡ Some t
      → Within (q ▹ d) run → accepted d.call ≡ Some u
      → t.account ≡ u.account → t.number ≡ u.number → t ≡ u
  accepted_agree p q e d t u w ist v isu account number = go (accepted_is e.call t ist) (accepted_is d.call u isu)
    where
      go : Accepts e.call t → Accepts d.call u → t ≡ u
      go (by_ack s k is) (by_ack z j js) =
          quorums_agree o bad run opens few obeys t u (acks_quorum p e s t k w is) (acks_quorum q d z u j v js) account number
      go (by_ack s k is) (by_ruling j js) = sym (quorum_ruled t u (acks_quorum p e s t k w is) q d v (ap ruled js) account number)
      go (by_ruling k is) (by_ack z j js) = quorum_ruled u t (acks_quorum q d z u j v js) p e w (ap ruled is) (sym account) (sym number)
      go (by_ruling k is) (by_ruling j js) = rulings_agree p q e d t u w v (ap ruled is) (ap ruled js) account number
