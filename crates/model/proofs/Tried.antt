-- What no answer of the known pages shows, computed: which acks conflict, what an opening leaves, what is retained; and
-- what two statements say at single places.
use Rattle.std.specs.Prelude.{Some, None, Ok, Err}
use Prim.Native.Nat.{ℕ, ◌<◌}
use mathlib.Core.Path.{◌≡◌, refl}
use mathlib.Core.Bool.{Bool, true, false}
use mathlib.Core.List.{List, [], ◌∷◌, map}
use lib.Dec.{lit<}
use lib.ListN.{take, replicate}
use Rattle.model.specs.Types.{Transfer, Slot, Ledger, Decision, ShortBuffer}
use Rattle.model.specs.Basics.{Rising}
use Rattle.model.specs.Records.{account_of, no_acks, entry_of, no_ledger}
use Rattle.model.specs.Transfers.{equal, conflict}
use Rattle.model.specs.Openings.{open_ledger}
use Rattle.model.specs.Acks.{two_conflict}
use Rattle.model.specs.Settling.{lowest_affordable, apply, settle_at_most, settle}
use Rattle.model.specs.Calls.{Lists}
use Rattle.model.specs.Switches.{Rules, first_rules, since_request3, since_request5, step_under}
use Rattle.model.proofs.Rows.{slip, page_with}

abbrev t : Transfer
t = slip 0 1 4 1

-- two of the acks in these places conflict
abbrev conflicting : List Slot → Bool
conflicting places = two_conflict (map (λ s. record { slot = s }) places)

-- .. those of two slips, and not those of one, nor an empty place beside them
pub conflicts_tried : (conflicting (None ∷ Some t ∷ Some (slip 0 1 5 1) ∷ []) ≡ true) × (conflicting (Some t ∷ None ∷ Some t ∷ []) ≡ false)
unfolding equal conflict
conflicts_tried = (refl, refl)

-- an opened ledger, and what account 0 has in it
abbrev opened : Ledger
opened = open_ledger (page_with 6 1 (10 ∷ 3 ∷ [])) no_ledger

abbrev balances : Ledger → List ℕ
balances l = take 2 (map (λ e. e.balance) l.entries)

-- .. at first: nothing is marked or retained
pub opened_tried :
    ((entry_of opened (account_of 0)).acked ≡ false)
    × ((entry_of opened (account_of 0)).proposed ≡ false)
    × ((entry_of opened (account_of 0)).retained ≡ None)
    × ((entry_of opened (account_of 0)).retained_proposed ≡ false)
unfolding open_ledger
opened_tried = (refl, refl, refl, refl)

-- an opening that is refused leaves the ledger that there was: n 5, f 1 is
pub refused_opening_tried : (balances opened ≡ 10 ∷ 3 ∷ []) × (balances (open_ledger (page_with 5 1 (7 ∷ [])) opened) ≡ 10 ∷ 3 ∷ [])
unfolding open_ledger
refused_opening_tried = (refl, refl)

-- what is retained of a slip that is booked, under each set of rules
abbrev retained_under : Rules → Slot
retained_under v = (entry_of (step_under v opened (Decision t)).next (account_of 0)).retained

pub retained_tried : (retained_under first_rules ≡ None) × (retained_under since_request3 ≡ None) × (retained_under since_request5 ≡ Some t)
unfolding no_acks open_ledger lowest_affordable apply settle_at_most settle step_under
retained_tried = (refl, refl, refl)

-- "lowest first", of two numbers
pub rising_says : Rising (2 ∷ 5 ∷ []) → 2 < 5
rising_says rises = rises 0 1 (lit< tt) (lit< tt)

-- what a list of two accounts leaves in a buffer, and no other content; a refused one leaves it as it was
pub lists_say : (after : List ℕ)
    → (Lists (0 ∷ 3 ∷ []) (replicate 32 9) (Ok 2) after → after ≡ 0 ∷ 3 ∷ replicate 30 9)
    × (Lists (0 ∷ 3 ∷ []) (7 ∷ []) (Err ShortBuffer) after → after ≡ 7 ∷ [])
lists_say after = (λ lists. lists.buffer, λ lists. lists.buffer)
