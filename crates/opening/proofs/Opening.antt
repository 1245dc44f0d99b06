-- What an opening promises where it is refused and where it is not.
use Rattle.std.proofs.Common.{◌≡◌, ◌≤◌, ℕ, List, Some, None, Ok, Err, refl, sym, ◌∙◌, arith}
use Rattle.model.specs.declared.Opening.{Opening}
use Rattle.model.specs.declared.Refusal.{Refusal}
use Rattle.model.specs.Basics.{sum_of}
use Rattle.model.specs.Refusals.{first_refusal}
use Rattle.model.specs.Openings.{open_rules, open_reply, open_ledger}
use Rattle.laws.proofs.Sums.{impossible}
use Rattle.laws.proofs.Opened.{opened_group, opened_fresh}
use Rattle.opening.specs.Promises.{FreshLedger, Opens}

-- a page that no rule refuses opens
pub unrefused : (o : Opening) → first_refusal (open_rules o) ≡ None → open_reply o ≡ Ok tt
unfolding open_reply
unrefused o e = rw e

-- the two openings: refused, where no word is stored, and opened, where the words are the page's ledger
pub refuses : (before : List ℕ) (o : Opening) (q : Refusal) → first_refusal (open_rules o) ≡ Some q
    → Opens before o (Err q) before
unfolding open_reply open_ledger
refuses before o q e = record { reply = rw e; ledger = rw e; kept = λ code same. refl }

pub opens : (before : List ℕ) (o : Opening) (total : ℕ) (after : List ℕ) → first_refusal (open_rules o) ≡ None
    → total ≡ sum_of (λ b. b) o.balances → FreshLedger o total after → Opens before o (Ok tt) after
opens before o total after clear sum stored =
    let opened = unrefused o clear in
    let group = opened_group o opened in
    let faults : o.faults ≤ 16 = omega (arith, group.seats_fit, group.few_faults) in
    let fresh = stored.fresh group.seats_fit faults group.accounts_fit sum in
    record { reply = sym opened; ledger = fresh ∙ sym (opened_fresh o opened _); kept = λ code same. impossible (cc) }
