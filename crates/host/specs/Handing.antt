-- What a host hands over, a kind, a seat and a body, is met as a page of a bundle is. This is the one place that says
-- what a wrong one gets: 14 for a kind that cannot stand there (as a message 0 or above 5) and for a seat other than 0
-- where the kind has none, and then 15 for a body that is not as long as its kind's.
use Rattle.std.specs.Prelude.{ℕ, Bool, not, List, [], ◌∷◌, ◌++◌, eqb, length, Option, Some, None}
use Rattle.model.specs.declared.Message.{Message}
use Rattle.model.specs.declared.Refusal.{Refusal}
use Rattle.model.specs.declared.Refusal.TheVariants.{BadContents, BadEnd}
use Rattle.model.specs.declared.Reply.TheVariants.{Refuse}
use Rattle.model.specs.Types.{Ledger, Outcome}
use Rattle.model.specs.Refusals.{Rule, first_refusal}
use Rattle.model.specs.Bundles.{Page, body_length, wrong_page, opening_of, message_of, message_or}
use Rattle.model.specs.Openings.{open_rules}
use Rattle.model.specs.Calls.{step}

-- 15, of a page by itself: its body does not end where its kind's does
abbrev pub wrong_body : Page → Bool
wrong_body p = not (eqb (length p.body) (body_length p.kind))

-- of a page that would be entry i of a bundle: codes rise
abbrev pub handed_rules : ℕ → Page → List Rule
handed_rules i p = (wrong_page i p, BadContents) ∷ (wrong_body p, BadEnd) ∷ []

-- the refusal of what is handed over as a message, if any
abbrev pub handed_refusal : Page → Option Refusal
handed_refusal p = first_refusal (handed_rules 1 p)

-- What it is answered: that refusal, which changes nothing; else what its message is. (What stands for a page
-- that is no message never shows.)
abbrev pub answer_by : Option Refusal → Ledger → Message → Outcome
answer_by None l m = step l m
answer_by (Some r) l m = record { reply = Refuse r; next = l }

abbrev pub answer : Ledger → Page → Outcome
answer l p = answer_by (handed_refusal p) l (message_or (message_of p))

-- an opening page, handed over: "before anything is opened"
abbrev pub opening_rules : List ℕ → List Rule
opening_rules page = handed_rules 0 (record { kind = 0; seat = 0; body = page }) ++ open_rules (opening_of page)
