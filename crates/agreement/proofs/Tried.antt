-- The theorems at runs: what is proved of every run holds of those that try the statements, in the crate runs.
use Rattle.std.specs.Prelude.{Some, None}
use mathlib.Core.Path.{◌≡◌, refl, ap, sym, ◌∙◌}
use mathlib.Core.Bool.{true, false}
use mathlib.Core.List.{List, ◌∷◌, map}
use lib.Dec.{lit<}
use lib.ListN.{replicate}
use Rattle.laws.specs.Types.{AckSlot, Propose, First}
use Rattle.runs.specs.Runs.{Opens, FewBad, honest, Run, at_end, sooner, at_honest, rules_at, ledger_at, acks_with, Obeys}
use Rattle.runs.specs.Premises.{Premises}
use Rattle.runs.specs.Claims.{Claim}
use Rattle.runs.specs.Facts.{accepted_by}
use Rattle.runs.specs.Undisputed.{Undisputed}
use Rattle.runs.specs.Proposals.{SameAcks}
use Rattle.runs.specs.Switching.{MarkStands}
use Rattle.runs.proofs.Examples.{page, t, u, bad, acks, witness, witness_keeps}
use Rattle.runs.proofs.Ties.{one, other, w_last, t_last}
use Rattle.runs.proofs.FactsTried.{undisputed_run, undisputed_keeps, three_seats, nobody, late_ack, late_keeps}
use Rattle.runs.proofs.SwitchesTried.{w, as_it_was, across, across_keeps, held_on, no_switch_obeys}
use Rattle.runs.proofs.LateTried.{joined_in, joined_keeps, mixed, mixed_keeps, joined_undisputed, joined_undisputed_lem}
use Rattle.runs.proofs.EvidenceTried.{three_acked, three_obey, bundle_one, bundle_other, both_genuine, bad_found}
use Rattle.model.proofs.Rows.{unruled}
use Rattle.agreement.proofs.Demand3.{demand3}
use Rattle.agreement.proofs.Theorem1.{theorem1}
use Rattle.agreement.proofs.Switching.{marks_stand}
use Rattle.agreement.proofs.Evidence.{honest_never_found}
use Rattle.model.specs.Records.{seat_of, no_acks}
use Rattle.model.specs.Transfers.{equal, conflict}
use Rattle.model.specs.Settling.{lowest_affordable, apply, settle_at_most, settle}
use Rattle.model.specs.Acks.{ack_at, has_most, most_acked}
use Rattle.model.specs.Calls.{late_in, step}
use Rattle.model.specs.Switches.{step_under}

-- Demand 3's claim holds of a run that keeps the premises,
claimed : (run : Run) → Opens page × FewBad page bad × (at_honest page bad run ≡ true) × Obeys page run × Premises page bad run → Claim page bad run
claimed run kept = demand3 page bad run kept.0 kept.1 kept.2 kept.3 kept.4

-- .. so of these: the witness; seats that switch on different days; seats that join in, all under the newest
-- rules, and under all sets of rules.
pub witness_claim : Claim page bad witness
witness_claim = claimed witness witness_keeps

pub across_claim : Claim page bad across
across_claim = claimed across across_keeps

pub joined_claim : Claim page bad joined_in
joined_claim = claimed joined_in joined_keeps

pub mixed_claim : Claim page bad mixed
mixed_claim = claimed mixed mixed_keeps

-- Where every honest seat acked t, nothing else is put forward or accepted for its number, and
-- seat 0 accepts it, by Theorem 1
pub undisputed_claim : Undisputed page bad undisputed_run t
undisputed_claim =
    let kept = undisputed_keeps in
    theorem1 page bad undisputed_run t witness_keeps.0 witness_keeps.1 kept.0 kept.1 kept.2 kept.3

pub theorem1_tried : accepted_by (seat_of 0) t undisputed_run ≡ true
theorem1_tried = undisputed_claim.accepted_there undisputed_run (seat_of 0) at_end refl undisputed_keeps.4

-- .. also where the last of the acks are refused,
pub late_accepted : accepted_by (seat_of 0) t late_ack ≡ true
late_accepted =
    let kept = late_keeps in
    (theorem1 three_seats nobody late_ack t kept.0 kept.1 kept.2 kept.3 kept.4 kept.5).accepted_there
    late_ack (seat_of 0) at_end refl kept.6

-- .. and where one of the honest seats joins in.
pub undisputed_late : Undisputed page bad joined_undisputed t
undisputed_late =
    let kept = joined_undisputed_lem in
    theorem1 page bad joined_undisputed t joined_keeps.0 joined_keeps.1 kept.0 kept.1 kept.2 kept.3

-- A mark stands across two switches.
pub mark_tried : MarkStands page (seat_of 0) held_on w
unfolding rules_at ledger_at no_acks equal conflict lowest_affordable apply settle_at_most settle step_under
mark_tried = marks_stand page held_on as_it_was held_on (acks 0 w) w across_keeps.0 no_switch_obeys.0 (sooner (sooner at_end)) at_end refl (lit< tt)

-- the acks of both, with the one at hand
abbrev recorded : List AckSlot
recorded = map (λ p. record { slot = p }) (Some t ∷ Some t ∷ Some t ∷ Some u ∷ Some u ∷ Some u ∷ Some w ∷ replicate 9 None)

-- Two calls, in two orders of the acks, are both answered P, and with the ack at hand they have the same acks: what is
-- said of two such calls is said of these.
pub same_acks_tried : (late_in one w_last ≡ false) × (late_in other t_last ≡ false) × ((step one w_last).reply ≡ Propose t) × ((step other t_last).reply ≡ Propose t) × SameAcks one w_last other t_last
unfolding rules_at ledger_at no_acks equal conflict has_most most_acked lowest_affordable apply settle_at_most settle step step_under
same_acks_tried =
    let first : acks_with one w_last ≡ recorded = refl in
    let second : acks_with other t_last ≡ recorded = refl in
    (refl, refl, refl, refl, λ s. ap (λ (acks : List AckSlot). ack_at acks s.0) (first ∙ sym second))

-- The bad seat that is found by two bundles of a run is not honest, by the theorem and by computation alike.
pub evidence_tried : honest page bad (seat_of 5) ≡ false
evidence_tried =
    honest_never_found page bad three_acked bundle_one bundle_other unruled (seat_of 5) 2 4 First witness_keeps.0 three_obey both_genuine bad_found.0
