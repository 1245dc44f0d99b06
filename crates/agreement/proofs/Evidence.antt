-- An honest seat is never found to have acked two slips: the statement is in Evidence.antt of the crate runs.
use mathlib.Core.Path.{◌≡◌, refl}
use mathlib.Core.Bool.{Bool, true, false}
use Rattle.laws.specs.JoinClaims.{Finds}
use Rattle.runs.specs.Runs.{honest}
use Rattle.runs.specs.Premises.{acked_by}
use Rattle.runs.specs.Evidence.{HonestNeverFound}
use Rattle.agreement.proofs.Acked.{acked_by_once}
use Rattle.model.specs.Bundles.{page_at}
use Rattle.model.specs.Joins.{slip_on}
use Rattle.laws.proofs.Joins.{pair_acks, found_right}

-- both acks are that seat's, so it acked both slips; but they conflict, and a seat acks one slip per account and number
pub honest_never_found : HonestNeverFound
honest_never_found o bad run first second ruled seat i j shown opens obeys genuine is = go (honest o bad seat) refl
  where
    finds : Finds first second ruled seat i j shown
    finds = found_right first second ruled seat i j shown is

    never : honest o bad seat ≡ true → ⊥
    never fair =
        let two = pair_acks first second finds.pair in
        let t : acked_by seat (slip_on (page_at first i)) run ≡ true =
        rw finds.in_first (genuine.in_first i finds.pair.in_first two.p_ack (rw finds.in_first at fair)) in
        let u : acked_by seat (slip_on (page_at second j)) run ≡ true =
        rw finds.in_second (genuine.in_second j finds.pair.in_second two.q_ack (rw finds.in_second at fair)) in
        two.against.differ
        (acked_by_once o opens run obeys seat (slip_on (page_at first i)) (slip_on (page_at second j)) t u two.against.account two.against.number)

    go : (b : Bool) → honest o bad seat ≡ b → honest o bad seat ≡ false
    go true fair = absurd (never fair)
    go false other = other
