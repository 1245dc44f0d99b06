-- Document 02, request 3, tried: a run in which seats switch on different days keeps the premises; what is said of a
-- mark, and of what is alike; and running an old bundle again, which is no switch. All is computed.
use Rattle.std.specs.Prelude.{Err}
use Prim.Native.Nat.{ℕ, ◌≤◌, ◌<◌}
use mathlib.Core.Path.{◌≡◌, refl, ap}
use mathlib.Core.Logic.{inl, inr}
use mathlib.Core.Bool.{Bool, true, false, cond, ◌&&◌, false≢true}
use mathlib.Core.List.{List, [], ◌∷◌}
use lib.Dec.{eqb, lit≤}
use Rattle.laws.specs.Types.{Transfer, AckSlot, Ledger, Circulated, Decision, Acknowledge, Accept, Propose, Note, Refuse}
use Rattle.runs.specs.Runs.{Opens, FewBad, waiting_list, switch, Event, Run, start, ◌▹◌, at_end, sooner, happened, at_honest, rules_at, ledger_at, acks_with, Obeys, ruled, passes}
use Rattle.runs.specs.Premises.{Premises}
use Rattle.runs.specs.Slates.{leave_at_most, leave_all, slate_at}
use Rattle.runs.specs.Switching.{SameSaveTies, Alike, TakenAlike, MarkStands, MarksStand}
use Rattle.runs.proofs.AnyOrder.{rising_conforms}
use Rattle.runs.proofs.FactsTried.{single}
use Rattle.runs.proofs.Examples.{page, t, bad, today, asked, acks, ack, ruling, ◌then◌, puts_forward, takes, slate}
use Rattle.model.specs.declared.Refusal.TheVariants.{AlreadyAcked, ShortBuffer, SelfPayment}
use Rattle.model.specs.Records.{seat_of, account_of, fresh_ledger, entry_of, no_acks}
use Rattle.model.specs.Transfers.{equal, conflict}
use Rattle.model.specs.Openings.{open_reply}
use Rattle.model.specs.Acks.{has_most, most_acked}
use Rattle.model.specs.Settling.{lowest_affordable, apply, settle_at_most, settle}
use Rattle.model.specs.Calls.{step}
use Rattle.model.specs.Switches.{first_rules, since_request3, since_request5, newest, step_under}
use Rattle.model.proofs.Rows.{slip}
use Rattle.laws.proofs.Sums.{impossible}

-- a home pays itself; and three slips of its next number that conflict
abbrev pub w : Transfer
w = slip 0 1 4 0

abbrev x : Transfer
x = slip 0 2 4 1

abbrev y : Transfer
y = slip 0 2 5 1

abbrev z : Transfer
z = slip 0 2 6 1

-- every seat starts under the first rules
abbrev pub as_it_was : Run
as_it_was = start (λ s. first_rules)

-- seat s is asked for its waiting list, with a buffer that is too short
abbrev no_room : ℕ → Event
no_room s = record { at = seat_of s; call = waiting_list [] (Err ShortBuffer) [] }

-- seat s switches
abbrev pub switches : ℕ → Event
switches s = record { at = seat_of s; call = switch }

-- Seat 0 switches before it could ack w, which it then refuses. Seats 1 to 4 ack w, and then seat 1 switches: the mark
-- stands, the same slip meets 20 and another of that number 12. Acks of w from seats 1 to 4 and from the bad seat reach
-- each honest seat, five are enough, and w is booked: at seats 0 and 1, which have switched, at seat 3, which switches
-- between these acks, and at seats 2 and 4, which have not.
abbrev booked : Run
booked =
    as_it_was
    ▹ switches 0 ▹ asked 0 (Circulated w) (Refuse SelfPayment)
    ▹ acks 1 w ▹ acks 2 w ▹ acks 3 w ▹ acks 4 w
    ▹ switches 1 ▹ asked 1 (Circulated w) (Refuse SelfPayment) ▹ asked 1 (Circulated t) (Refuse AlreadyAcked)
    ▹ ack 0 1 w Note ▹ ack 0 2 w Note ▹ ack 0 3 w Note ▹ ack 0 4 w Note ▹ ack 0 5 w (Accept 1)
    ▹ ack 1 1 w Note ▹ ack 1 2 w Note ▹ ack 1 3 w Note ▹ ack 1 4 w Note ▹ ack 1 5 w (Accept 1)
    ▹ ack 2 1 w Note ▹ ack 2 2 w Note ▹ ack 2 3 w Note ▹ ack 2 4 w Note ▹ ack 2 5 w (Accept 1)
    ▹ ack 3 1 w Note ▹ ack 3 2 w Note ▹ ack 3 3 w Note ▹ switches 3 ▹ ack 3 4 w Note ▹ ack 3 5 w (Accept 1)
    ▹ ack 4 1 w Note ▹ ack 4 2 w Note ▹ ack 4 3 w Note ▹ ack 4 4 w Note ▹ ack 4 5 w (Accept 1)

-- Of the next number, seats 0 and 1 ack x, seats 3 and 4 ack y, and the bad seat z. Seat 1 switches once
-- more, to the rules since request 5: it refuses a home that pays itself, and puts x forward, the first by
-- its lowest seat: this far first.
abbrev forward : Run
forward =
    booked
    ▹ acks 0 x ▹ acks 1 x ▹ acks 3 y ▹ acks 4 y
    ▹ switches 1 ▹ asked 1 (Circulated (slip 0 2 4 0)) (Refuse SelfPayment)
    ▹ ack 1 0 x Note ▹ ack 1 1 x Note ▹ ack 1 3 y Note ▹ ack 1 4 y Note ▹ ack 1 5 z (Propose x)

-- .. Seat 4 never switches, whatever else it is asked, and puts y forward. Seat 2 switches between these acks. The
-- council rules for x, at all five.
abbrev pub across : Run
across =
    forward
    ▹ no_room 4 ▹ ack 4 0 x Note ▹ ack 4 1 x Note ▹ ack 4 3 y Note ▹ ack 4 4 y Note ▹ ack 4 5 z (Propose y)
    ▹ ack 2 0 x Note ▹ ack 2 1 x Note ▹ switches 2 ▹ ack 2 3 y Note ▹ ack 2 4 y Note ▹ ack 2 5 z (Propose x)
    ▹ ruling 0 x (Accept 1) ▹ ruling 1 x (Accept 1) ▹ ruling 2 x (Accept 1) ▹ ruling 3 x (Accept 1) ▹ ruling 4 x (Accept 1)

across_obeys : Obeys page across
unfolding rules_at ledger_at no_acks equal conflict has_most most_acked lowest_affordable apply settle_at_most settle step_under
across_obeys =
    tt
    then tt then refl
    then refl then refl then refl then refl
    then tt then refl then refl
    then refl then refl then refl then refl then refl
    then refl then refl then refl then refl then refl
    then refl then refl then refl then refl then refl
    then refl then refl then refl then tt then refl then refl
    then refl then refl then refl then refl then refl
    then refl then refl then refl then refl
    then tt then refl
    then refl then refl then refl then refl then refl
    then rising_conforms first_rules (ledger_at page (seat_of 4) forward) _ _ _ (record { reply = refl; buffer = refl })
    then refl then refl then refl then refl then (y, refl, refl)
    then refl then refl then tt then refl then refl then refl
    then refl then refl then refl then refl then refl

-- It is a run as demand 3 means it, and keeps the premises.
pub across_keeps : Opens page × FewBad page bad × (at_honest page bad across ≡ true) × Obeys page across × Premises page bad across
unfolding equal conflict open_reply
across_keeps = (
  record { full_page = refl; not_refused = refl },
  lit≤ tt,
  refl,
  across_obeys,
  record { acks_genuine = refl; rulings_rightful = refl },
)

-- each honest seat accepts the slip
abbrev accepted_by_all : Transfer → Run → Bool
accepted_by_all v run =
    happened (takes 0 v) run && happened (takes 1 v) run && happened (takes 2 v) run && happened (takes 3 v) run && happened (takes 4 v) run

-- It has in it what the request is about: all five honest seats accept w, which no ruling names, and x; both x and y
-- were put forward; who had switched when w was booked, and who in the end; and all five slates say the same.
pub across_has :
    (accepted_by_all w across ≡ true)
    × (happened (λ e. passes (equal w) (ruled e.call)) across ≡ false)
    × (accepted_by_all x across ≡ true)
    × (happened (puts_forward x) across && happened (puts_forward y) across ≡ true)
    × (rules_at (seat_of 0) booked ≡ since_request3)
    × (rules_at (seat_of 1) booked ≡ since_request3)
    × (rules_at (seat_of 2) booked ≡ first_rules)
    × (rules_at (seat_of 3) booked ≡ since_request3)
    × (rules_at (seat_of 1) across ≡ since_request5)
    × (rules_at (seat_of 2) across ≡ since_request3)
    × (rules_at (seat_of 4) across ≡ first_rules)
unfolding rules_at equal
across_has = (refl, refl, refl, refl, refl, refl, refl, refl, refl, refl, refl)

pub across_slates :
    (slate page 0 booked ≡ (10, 1) ∷ (3, 0) ∷ [])
    × (slate page 0 across ≡ (6, 2) ∷ (7, 0) ∷ [])
    × (slate page 1 across ≡ (6, 2) ∷ (7, 0) ∷ [])
    × (slate page 2 across ≡ (6, 2) ∷ (7, 0) ∷ [])
    × (slate page 3 across ≡ (6, 2) ∷ (7, 0) ∷ [])
    × (slate page 4 across ≡ (6, 2) ∷ (7, 0) ∷ [])
unfolding slate_at leave_all leave_at_most equal
across_slates = (refl, refl, refl, refl, refl, refl)

-- Each seat starts under rules of its own choice: of two that get the same slip, seat 0 refuses it under the newest,
-- and seat 1 acks it under the first.
abbrev own_choice : Run
own_choice = start (λ s. cond (eqb s.0 0) newest first_rules) ▹ asked 0 (Circulated w) (Refuse SelfPayment) ▹ acks 1 w

pub own_choice_lem : Obeys page own_choice
unfolding rules_at ledger_at no_acks equal conflict lowest_affordable apply settle_at_most settle step_under
own_choice_lem = tt then refl then refl

-- "running an old bundle again is no switch, since a slip acked in it could now meet 20 and leave no mark." The old
-- bundle has the slip w. One seat played it under the first rules, and switched; another plays it again under today's.
abbrev pub held_on : Run
held_on = as_it_was ▹ acks 0 w ▹ switches 0 ▹ switches 0

abbrev ran_again : Run
ran_again = today ▹ asked 0 (Circulated w) (Refuse SelfPayment)

-- both obey, each by its rules, which are in the end the same
pub no_switch_obeys : Obeys page held_on × Obeys page ran_again × (rules_at (seat_of 0) held_on ≡ rules_at (seat_of 0) ran_again)
unfolding rules_at ledger_at no_acks equal conflict lowest_affordable apply settle_at_most settle step_under
no_switch_obeys = (tt then refl then tt then tt, tt then refl, refl)

abbrev mark : Ledger → Bool
mark l = (entry_of l (account_of 0)).acked

-- The ledgers that they hold differ in the mark: the one that ran it again would now ack a second slip of that number.
pub no_switch :
    (mark (ledger_at page (seat_of 0) held_on) ≡ true)
    × (mark (ledger_at page (seat_of 0) ran_again) ≡ false)
    × (ledger_at page (seat_of 0) ran_again ≡ ledger_at page (seat_of 0) held_on → ⊥)
    × ((step (ledger_at page (seat_of 0) held_on) (Circulated t)).reply ≡ Refuse AlreadyAcked)
    × ((step (ledger_at page (seat_of 0) ran_again) (Circulated t)).reply ≡ Acknowledge)
unfolding rules_at ledger_at no_acks equal conflict lowest_affordable apply settle_at_most settle step step_under
no_switch = (refl, refl, λ same. false≢true (ap mark same), refl, refl)

-- What is said of a mark that stands, at this one: w meets 20 there, and t 12, since request 3; under the first
-- rules w meets 12, of which nothing is said. Once its number is booked a mark is gone, and nothing is said of it: a
-- seat alone acks w and accepts it.
pub mark_says : MarkStands page (seat_of 0) held_on w
    → (true ≡ true)
    × (Refuse SelfPayment ≡ Refuse SelfPayment)
    × (Refuse AlreadyAcked ≡ Refuse AlreadyAcked)
    × (1 ≤ 0 → Refuse AlreadyAcked ≡ Refuse SelfPayment)
unfolding rules_at ledger_at no_acks equal conflict has_most most_acked lowest_affordable apply settle_at_most settle step_under
mark_says m = (
  m.marked,
  m.same_slip since_request3 (lit≤ tt) refl,
  m.other_slip since_request5 (lit≤ tt) t refl refl refl refl refl,
  λ newer. m.same_slip first_rules newer refl,
)

abbrev acks_alone : Run
acks_alone = as_it_was ▹ acks 0 w

abbrev booked_alone : Run
booked_alone = acks_alone ▹ ack 0 0 w (Accept 1)

pub mark_until_booked : MarksStand → Opens single → Obeys single booked_alone → 1 < 1 → MarkStands single (seat_of 0) booked_alone w
unfolding rules_at ledger_at no_acks equal conflict has_most most_acked lowest_affordable apply settle_at_most settle step_under
mark_until_booked stand opens obeys = stand single booked_alone as_it_was booked_alone (acks 0 w) w opens obeys (sooner at_end) at_end refl

pub mark_gone : Obeys single booked_alone × (mark (ledger_at single (seat_of 0) acks_alone) ≡ true) × (mark (ledger_at single (seat_of 0) booked_alone) ≡ false)
unfolding rules_at ledger_at no_acks equal conflict has_most most_acked lowest_affordable apply settle_at_most settle step_under
mark_gone = (tt then refl then refl, refl, refl)

-- A switch leads to the next rules, and under the newest nowhere.
pub newest_last : (rules_at (seat_of 0) (as_it_was ▹ switches 0) ≡ since_request3)
    × (rules_at (seat_of 0) (as_it_was ▹ switches 0 ▹ switches 0) ≡ newest)
    × (rules_at (seat_of 0) (as_it_was ▹ switches 0 ▹ switches 0 ▹ switches 0) ≡ newest)
unfolding rules_at
newest_last = (refl, refl, refl)

-- No more is alike between the sets of rules than is said: the reply to a slip is not. (Nor is the slip of a tied
-- P: `ties_differ` in Ties.antt.)
pub slips_differ : Alike (fresh_ledger page) (Circulated w) → ⊥
unfolding no_acks equal conflict step_under
slips_differ alike = go (acks_with (fresh_ledger page) (Circulated w)) (alike Acknowledge (Refuse SelfPayment) refl refl).0
  where
    go : (places : List AckSlot) → SameSaveTies places Acknowledge (Refuse SelfPayment) → ⊥
    go places (inl same) = impossible (cc)
    go places (inr (a, b, is, that, most, too)) = impossible (cc)

-- .. and that rulings are taken alike is said, whoever is paid: both book w
pub rulings_alike : TakenAlike (fresh_ledger page)
    → (step_under first_rules (fresh_ledger page) (Decision w)).next ≡ (step_under since_request3 (fresh_ledger page) (Decision w)).next
unfolding no_acks equal conflict has_most most_acked lowest_affordable apply settle_at_most settle step_under
rulings_alike alike = (alike.rulings w (Accept 1) (Accept 1) refl refl).1
