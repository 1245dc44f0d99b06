-- What an opening page that is not refused has, and the ledger that it leaves.
use Rattle.std.proofs.lemmas.Bool.{or_parts}
use Rattle.std.specs.Prelude.{Option, Some, None, Ok}
use Prim.Native.Nat.{ℕ, zero, suc, ◌+◌, ◌-◌, ◌*◌, ◌≤◌, ◌<◌}
use native.Mathlib.Omega.{arith}
use mathlib.Core.Path.{◌≡◌, refl, ap, sym, ◌∙◌}
use mathlib.Core.Bool.{false, not, ◌||◌}
use mathlib.Core.List.{List}
use lib.Dec.{leb, ltb, eqb}
use lib.ListN.{get_or, drop}
use lib.Seq.{get_or-drop}
use borrow.Author.Tests.{leb-false, ltb-false, ne_eqb}
use Rattle.laws.specs.Types.{Ledger, Opening, Refusal}
use Rattle.model.specs.Basics.{any, sum_of}
use Rattle.model.specs.Records.{fresh_ledger}
use Rattle.model.specs.Refusals.{first_refusal, check_of}
use Rattle.model.specs.Openings.{open_rules, open_reply, open_ledger_by, open_ledger}
use Rattle.laws.proofs.Sums.{impossible, any_none}
use Rattle.laws.proofs.Refusing.{none_holds}

pub record Group (o : Opening) : Type 0 where
  pub seats_fit : o.seats ≤ 16
  pub few_faults : 5 * o.faults < o.seats
  pub accounts_fit : o.accounts ≤ 32
  -- behind the k-th every balance is 0
  pub rest_zero : (i : ℕ) → o.accounts ≤ i → get_or o.balances i 0 ≡ 0
  pub sum_fits : sum_of (λ b. b) o.balances < 4_294_967_296

-- where no balance behind the first k differs from 0, each of them is 0
all_zero : (bs : List ℕ) (k i : ℕ) → any (λ b. not (eqb b 0)) (drop k bs) ≡ false → k ≤ i → get_or bs i 0 ≡ 0
all_zero bs k i none_else above =
    let place : k + (i - k) ≡ i = omega arith in
    ap (λ (j : ℕ). get_or bs j 0) (sym place)
    ∙ sym (get_or-drop k bs (i - k) 0)
    ∙ is_zero (get_or (drop k bs) (i - k) 0) (any_none (λ b. not (eqb b 0)) (drop k bs) 0 none_else refl (i - k))
  where
    is_zero : (b : ℕ) → not (eqb b 0) ≡ false → b ≡ 0
    is_zero zero e = refl
    is_zero (suc b) e = impossible (cc (rw (ne_eqb (suc b) 0 (omega arith)) at e))

pub opened_group : (o : Opening) → open_reply o ≡ Ok tt → Group o
unfolding open_reply
opened_group o opens = go (first_refusal (open_rules o)) refl opens
  where
    go : (q : Option Refusal) → first_refusal (open_rules o) ≡ q → check_of q ≡ Ok tt → Group o
    go None e h =
        let fail = none_holds (open_rules o) e in
        let seats = or_parts (ltb o.seats 1 || ltb 16 o.seats) (leb o.seats (5 * o.faults)) fail.0 in
        let size = or_parts (ltb o.seats 1) (ltb 16 o.seats) seats.0 in
        let some_else = any (λ b. not (eqb b 0)) (drop o.accounts o.balances) in
        let page = or_parts (ltb o.accounts 1 || ltb 32 o.accounts) some_else fail.1.0 in
        let accounts = or_parts (ltb o.accounts 1) (ltb 32 o.accounts) page.0 in
        record {
          seats_fit = ltb-false 16 o.seats size.1;
          few_faults = omega (arith, leb-false o.seats (5 * o.faults) seats.1);
          accounts_fit = ltb-false 32 o.accounts accounts.1;
          rest_zero = λ i above. all_zero o.balances o.accounts i page.1 above;
          sum_fits = omega (arith, ltb-false 4_294_967_295 (sum_of (λ b. b) o.balances) fail.1.1.0);
        }
    go (Some q) e h = impossible (cc)

-- an opening that is not refused leaves the ledger just opened, whatever ledger there was
pub opened_fresh : (o : Opening) → open_reply o ≡ Ok tt → (l : Ledger) → open_ledger o l ≡ fresh_ledger o
unfolding open_reply open_ledger
opened_fresh o opens l = go (first_refusal (open_rules o)) opens
  where
    go : (q : Option Refusal) → check_of q ≡ Ok tt → open_ledger_by q (fresh_ledger o) l ≡ fresh_ledger o
    go None h = refl
    go (Some q) h = impossible (cc)
