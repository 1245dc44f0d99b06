-- Document 01: the opening of a ledger, and codes 1, 2 and 3, in this order.
use Rattle.std.specs.Prelude.{◌*◌, Bool, not, ◌||◌, List, [], ◌∷◌, leb, ltb, eqb, drop, Option, Some, None}
use Rattle.model.specs.Types.{Ledger, Opening, Refusal, BadGroup, BadAccounts, SumTooLarge, OpenReply}
use Rattle.model.specs.Basics.{any, sum_of}
use Rattle.model.specs.Records.{fresh_ledger}
use Rattle.model.specs.Refusals.{Rule, first_refusal, check_of}

-- 1: n outside 1 to 16, or 5 × f ≥ n
abbrev pub bad_group : Opening → Bool
bad_group o = ltb o.seats 1 || ltb 16 o.seats || leb o.seats (5 * o.faults)

-- 2: k outside 1 to 32, or a balance behind the k-th that is not 0
abbrev pub bad_accounts : Opening → Bool
bad_accounts o =
    ltb o.accounts 1 || ltb 32 o.accounts || any (λ b. not (eqb b 0)) (drop o.accounts o.balances)

-- 3: opening sum above the limit
abbrev pub sum_too_large : Opening → Bool
sum_too_large o = ltb 4_294_967_295 (sum_of (λ b. b) o.balances)

abbrev pub open_rules : Opening → List Rule
open_rules o = (bad_group o, BadGroup) ∷ (bad_accounts o, BadAccounts) ∷ (sum_too_large o, SumTooLarge) ∷ []

-- what an opening replies
unfoldable pub open_reply : Opening → OpenReply
open_reply o = check_of (first_refusal (open_rules o))

-- "A refusal replies its code and changes nothing.": the ledger just opened, or the one that there was before
abbrev pub open_ledger_by : Option Refusal → Ledger → Ledger → Ledger
open_ledger_by None opened before = opened
open_ledger_by (Some r) opened before = before

-- the ledger after an opening from the page, given the one before it
unfoldable pub open_ledger : Opening → Ledger → Ledger
open_ledger o before = open_ledger_by (first_refusal (open_rules o)) (fresh_ledger o) before
