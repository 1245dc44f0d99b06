-- Nothing here is empty: an opened ledger has the bounds of the laws.
use Rattle.std.specs.Prelude.{Option, Some, None}
use Prim.Native.Nat.{ℕ, ◌<◌}
use native.Mathlib.Omega.{arith}
use mathlib.Core.Path.{◌≡◌, refl, ap}
use mathlib.Core.List.{List, map}
use lib.Dec.{lit<}
use lib.ListN.{get_or-map}
use borrow.Author.Tests.{ltb-false}
use Rattle.laws.specs.Types.{Entry, Ledger, Opening, Refusal}
use Rattle.model.specs.Basics.{sum_of}
use Rattle.model.specs.Records.{fresh_entry, sum_balances, empty_page, fresh_ledger, no_ledger}
use Rattle.model.specs.Refusals.{first_refusal}
use Rattle.model.specs.Openings.{open_rules, open_ledger_by, open_ledger}
use Rattle.laws.proofs.Sums.{impossible, sum_map}
use Rattle.laws.proofs.Settles.{Bounded}
use Rattle.laws.proofs.Refusing.{none_holds}

-- a just opened ledger's balances are the page's
pub fresh_sum : (balances : List ℕ) → sum_balances (map fresh_entry balances) ≡ sum_of (λ b. b) balances
fresh_sum balances = sum_map (λ e. e.balance) fresh_entry balances

fresh_bounded : (o : Opening) → sum_of (λ b. b) o.balances < 4_294_967_296 → Bounded (fresh_ledger o).entries
fresh_bounded o fits =
    record {
      sum_fits = rw (fresh_sum o.balances) fits;
      recipients = λ a t h. impossible (cc (h, ap (λ (e : Entry). e.pending) (get_or-map fresh_entry o.balances a.0 0)));
    }

-- the ledger with no seats and no accounts has the bounds under which settling keeps the sum of balances
pub no_ledger_bounded : Bounded no_ledger.entries
no_ledger_bounded = fresh_bounded empty_page (lit< tt)

-- an opening, refused or not, leaves a bounded ledger bounded
pub open_bounded : (o : Opening) (l : Ledger) → Bounded l.entries → Bounded (open_ledger o l).entries
unfolding open_ledger
open_bounded o l before = go (first_refusal (open_rules o)) refl
  where
    go : (q : Option Refusal) → first_refusal (open_rules o) ≡ q → Bounded (open_ledger_by q (fresh_ledger o) l).entries
    go None e =
        let sum_passed = (none_holds (open_rules o) e).1.1.0 in
        fresh_bounded o (omega (arith, ltb-false 4_294_967_295 (sum_of (λ b. b) o.balances) sum_passed))
    go (Some r) e = before
