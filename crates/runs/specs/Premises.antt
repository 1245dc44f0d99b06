-- Document 01: "The premises on a run".
use Rattle.std.specs.Prelude.{◌≡◌, Bool, true, false, cond, not, ◌&&◌, ◌||◌, List, [], ◌∷◌, ◌++◌, Option, Some, None}
use Rattle.laws.specs.Types.{Seat, Transfer, Opening, Request, Circulated, Ack, Decision, Inquiry}
use Rattle.runs.specs.Runs.{Call, message, waiting_list, switch, Run, start, ◌▹◌, happened, throughout, honest, same_seat, acked, proposed, ruled, passes}
use Rattle.model.specs.Basics.{every}
use Rattle.model.specs.Transfers.{same_number, equal, conflict}

abbrev pub implies : Bool → Bool → Bool
implies a b = not a || b

-- a call at seat s in this run acked the slip
abbrev pub acked_by : Seat → Transfer → Run → Bool
acked_by s t run = happened (λ e. same_seat e.at s && passes (equal t) (acked e.call)) run

-- "An ack that names an honest seat as its sender carries a slip that an earlier call at that sender acked."
abbrev pub genuine : Opening → (Seat → Bool) → Run → Call → Bool
genuine o bad before (message (Request t) r) = true
genuine o bad before (message (Circulated t) r) = true
genuine o bad before (message (Ack s t) r) = implies (honest o bad s) (acked_by s t before)
genuine o bad before (message (Decision t) r) = true
genuine o bad before (message (Inquiry a) r) = true
genuine o bad before (waiting_list buffer r after) = true
genuine o bad before switch = true

-- a ruling in this run has the slip's account and number
abbrev pub ruled_on : Transfer → Run → Bool
ruled_on t run = happened (λ e. passes (same_number t) (ruled e.call)) run

-- a ruling in this run has another slip with the slip's account and number
abbrev pub ruled_otherwise : Transfer → Run → Bool
ruled_otherwise t run = happened (λ e. passes (conflict t) (ruled e.call)) run

-- the slip, if there is one and it has t's account and number
abbrev pub likewise : Transfer → Option Transfer → List Transfer
likewise t None = []
likewise t (Some u) = cond (same_number t u) (u ∷ []) []

-- the slips with t's account and number that calls of this run put forward
abbrev pub proposals : Transfer → Run → List Transfer
proposals t (start from) = []
proposals t (r ▹ e) = likewise t (proposed e.call) ++ proposals t r

-- "some call put forward a slip with that account and number": there is such a slip
abbrev pub some_slip : List Transfer → Bool
some_slip [] = false
some_slip (u ∷ us) = true

-- all these slips are equal
abbrev pub all_equal : List Transfer → Bool
all_equal [] = true
all_equal (u ∷ us) = every (equal u) us

-- "Before the first of them, some call put forward a slip with that account and number. If all slips so put forward
-- before it are equal, the ruling is for that slip."
abbrev pub founded : Transfer → List Transfer → Bool
founded t slips = some_slip slips && implies (all_equal slips) (every (equal t) slips)

-- "All rulings for one account and number carry the same slip, whichever seats they reach."
-- And the first of them is founded
abbrev pub rightful : Run → Option Transfer → Bool
rightful before None = true
rightful before (Some t) = not (ruled_otherwise t before) && (ruled_on t before || founded t (proposals t before))

pub record Premises (o : Opening) (bad : Seat → Bool) (run : Run) : Type 0 where
  pub acks_genuine : throughout (λ before e. genuine o bad before e.call) run ≡ true
  pub rulings_rightful : throughout (λ before e. rightful before (ruled e.call)) run ≡ true
