-- The links, tried. The runs that demand 3 is tried on are made by groups at work. Document 01's whole output is the
-- text of a run, which is written out here, and of every run of that bundle.
use Rattle.std.specs.Prelude.{Ok}
use Prim.Native.Nat.{ℕ}
use mathlib.Core.Path.{◌≡◌, refl, sym, ◌∙◌}
use mathlib.Core.List.{List, [], ◌∷◌, ◌++◌}
use lib.Dec.{lit<}
use lib.ListN.{get_or}
use Rattle.model.specs.Basics.{sum_of}
use Rattle.model.specs.Records.{seat_of, account_of, no_acks}
use Rattle.model.specs.Transfers.{equal, conflict}
use Rattle.model.specs.Openings.{open_reply}
use Rattle.model.specs.Acks.{has_most}
use Rattle.model.specs.Settling.{lowest_affordable, apply, settle_at_most, settle}
use Rattle.model.specs.Switches.{step_under}
use Rattle.model.specs.Bundles.{check_bundle}
use Rattle.laws.specs.Types.{Seat, Message, Circulated, Ack, Decision, Inquiry, Reply, Acknowledge, Note, Accept, Balance}
use Rattle.runs.specs.Runs.{◌▹◌, rules_at, ledger_at, Obeys}
use Rattle.runs.specs.Slates.{leave_at_most, leave_all, slate_at}
use Rattle.runs.specs.Facts.{count_of}
use Rattle.runs.proofs.Examples.{page, t, today, asked, acks, ack, ◌then◌, witness, witness_obeys, witness_keeps}
use Rattle.runs.proofs.SwitchesTried.{across, across_keeps}
use Rattle.runs.proofs.FactsTried.{◌is◌}
use Rattle.text.specs.Lines.{decimal}
use Rattle.replay.specs.Text.{Row, row_lines, opening_page, opened}
use Rattle.replay.proofs.WholeOutput.{case, nine_lines, texts}
use Rattle.conformance.specs.Operations.{Works}
use Rattle.conformance.specs.Texts.{Exchange, run_of, RunOfBundle, reply_lines, last_rows, text_of_run, no_row, Accounted, TellsReader}
use Rattle.conformance.proofs.Operations.{obeys_works}
use Rattle.conformance.proofs.ClosingRows.{accounted}
use Rattle.conformance.proofs.Texts.{every_text, every_run}

-- groups at work make the runs that demand 3 is tried on: under today's rules, and across a switch
pub witness_works : (held : Seat → List ℕ) × Works page held witness
witness_works = obeys_works page witness witness_keeps.0 witness_obeys

pub across_works : (held : Seat → List ℕ) × Works page held across
across_works = obeys_works page across across_keeps.0 across_keeps.3

-- "slip (0, 1, 4, 1), acks of it from seats 0 to 4, question 1", with the replies of the nine lines
infixl 70 ◌gets◌
abbrev ◌gets◌ : Message → Reply → Exchange
m gets r = record { asked = m; reply = r }

abbrev exchanges : List Exchange
exchanges =
    Circulated t gets Acknowledge
    ∷ Ack (seat_of 0) t gets Note
    ∷ Ack (seat_of 1) t gets Note
    ∷ Ack (seat_of 2) t gets Note
    ∷ Ack (seat_of 3) t gets Note
    ∷ Ack (seat_of 4) t gets Accept 1
    ∷ Inquiry (account_of 1) gets Balance 7
    ∷ []

abbrev rows : List Row
rows = record { balance = 6; current = 1 } ∷ record { balance = 7; current = 0 } ∷ []

-- it has the bundle's messages and obeys, and the nine lines are its text
pub whole_run : RunOfBundle case (seat_of 0) exchanges × (nine_lines ≡ text_of_run case (seat_of 0) exchanges)
unfolding case decimal rules_at ledger_at no_acks equal conflict has_most lowest_affordable apply settle_at_most settle step_under
whole_run = (
  record {
    asked = (refl, (refl, (refl, (refl, (refl, (refl, (refl, tt)))))));
    obeys = tt then refl then refl then refl then refl then refl then refl then refl;
  },
  refl,
)

-- its calls in their order, its lines, and what its numbers add up to
pub whole_facts :
    (run_of (seat_of 0) exchanges
    ≡ today ▹ acks 0 t ▹ ack 0 0 t Note ▹ ack 0 1 t Note ▹ ack 0 2 t Note ▹ ack 0 3 t Note ▹ ack 0 4 t (Accept 1)
    ▹ asked 0 (Inquiry (account_of 1)) (Balance 7))
    × (nine_lines ≡ reply_lines 1 exchanges ++ row_lines 0 rows)
    × (sum_of (λ row. row.balance) rows ≡ sum_of (λ b. b) (opening_page case).balances)
    × (sum_of (λ row. row.current) rows ≡ sum_of (λ x. count_of x.reply) exchanges)
unfolding case decimal
whole_facts = (refl, refl, refl, refl)

-- that bundle is sound and opens
pub whole_sound : (check_bundle case ≡ Ok 8) × (opened case ≡ Ok tt)
unfolding case check_bundle open_reply
whole_sound = (refl, refl)

-- so its text tells what every text does
pub whole_tells : (s : Seat) → TellsReader case nine_lines s
whole_tells s = rw texts.0 at (every_text case 8 s whole_sound.0 whole_sound.1)

-- and every run of it has this text
pub only_text : (s : Seat) (xs : List Exchange) → RunOfBundle case s xs → text_of_run case s xs ≡ nine_lines
only_text s xs run = sym (every_run case 8 s xs whole_sound.0 whole_sound.1 run) ∙ texts.0

-- A balance is asked for before and after a booking: this run obeys, and has these rows, so that its replies
-- and rows account for one another.
abbrev asked_twice : List Exchange
asked_twice =
    Inquiry (account_of 0) gets Balance 10
    ∷ Decision t gets Accept 1
    ∷ Inquiry (account_of 0) gets Balance 6
    ∷ []

pub twice_obeys : Obeys page (run_of (seat_of 0) asked_twice) × (last_rows page (seat_of 0) asked_twice ≡ rows)
unfolding rules_at ledger_at no_acks equal conflict has_most lowest_affordable apply settle_at_most settle step_under
twice_obeys = (tt then refl then refl then refl, refl)

pub twice_accounted : Accounted page (seat_of 0) asked_twice rows
twice_accounted = rw twice_obeys.1 at (accounted page witness_keeps.0 (seat_of 0) asked_twice twice_obeys.0)

-- What that says: two rows; the opening sum 13; one slip booked; the row of account 0; and
-- its balance, each time as it was.
pub accounted_says : Accounted page (seat_of 0) asked_twice rows
    → (2 is 2)
    × (13 is 13)
    × (1 is 1)
    × (get_or rows 0 no_row ≡ record { balance = 6; current = 1 })
    × (10 is 10)
    × (6 is 6)
unfolding slate_at leave_all leave_at_most equal
accounted_says h = (
  h.row_each,
  h.balances_sum,
  h.currents_sum,
  h.slate_rows (account_of 0) (lit< tt),
  h.told [] (Decision t gets Accept 1 ∷ Inquiry (account_of 0) gets Balance 6 ∷ []) (account_of 0) 10 refl,
  h.told (Inquiry (account_of 0) gets Balance 10 ∷ Decision t gets Accept 1 ∷ []) [] (account_of 0) 6 refl,
)
