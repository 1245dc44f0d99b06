-- Document 02, request 7: "An honest seat never appears if each ack in either bundle that names an honest seat carries
-- a slip that a call at that seat acked, in one run for both bundles." The proof is `honest_never_found` in
-- Evidence.antt of the crate agreement.
use Rattle.model.specs.Types.{found_pair}
use Rattle.std.specs.Prelude.{ℕ, ◌<◌, ◌≡◌, Bool, true, false, List}
use Rattle.laws.specs.Types.{Seat, Transfer, Opening, Which}
use Rattle.runs.specs.Runs.{Opens, honest, Run, Obeys}
use Rattle.runs.specs.Premises.{acked_by}
use Rattle.model.specs.Bundles.{entry_count, page_at}
use Rattle.model.specs.Joins.{is_ack, seat_on, slip_on, evidence}

-- each ack in this bundle that names an honest seat carries a slip that a call at that seat acked, in this run
abbrev pub Genuine : Opening → (Seat → Bool) → Run → List ℕ → Type 0
Genuine o bad run bytes =
    (i : ℕ) → i < entry_count bytes → is_ack (page_at bytes i) ≡ true → honest o bad (seat_on (page_at bytes i)) ≡ true
    → acked_by (seat_on (page_at bytes i)) (slip_on (page_at bytes i)) run ≡ true

-- "each ack in either bundle", "in one run for both bundles"
pub record BothGenuine (o : Opening) (bad : Seat → Bool) (run : Run) (first second : List ℕ) : Type 0 where
  pub in_first : Genuine o bad run first
  pub in_second : Genuine o bad run second

-- "An honest seat never appears": for every page that is not refused, every choice of bad seats, however many, every
-- run that obeys the definitions, whatever the seats' rules, switches and rulings, and every two bundles and ruled
-- slip. Nothing ties the bundles' opening page to the run's.
abbrev pub HonestNeverFound : Type 0
HonestNeverFound =
    (o : Opening) (bad : Seat → Bool) (run : Run) (first second : List ℕ) (ruled : Transfer) (seat : Seat) (i j : ℕ) (shown : Which)
    → Opens o → Obeys o run → BothGenuine o bad run first second
    → evidence first second ruled ≡ found_pair seat i j shown
    → honest o bad seat ≡ false
