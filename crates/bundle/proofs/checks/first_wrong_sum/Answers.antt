-- The search through the entries is the definition's.
use Rattle.std.proofs.Common.{ℕ, refl, ap, ◌∙◌, rules}
use Rattle.model.specs.Basics.{first_where}
use Rattle.model.specs.Bundles.{wrong_sum_at}
use Rattle.basics.proofs.Searching.{found_first}
use Rattle.bundle.proofs.checks.first_wrong_sum.Goals as goal

pub returns : goal.returns
returns c =
    let wrong = wrong_sum_at c.args.bytes.now in
    found_first wrong c.entry_count.result _ refl c.find.ensures.ran (λ i b q made. search rules)
    ∙ ap (λ (m : ℕ). first_where wrong m 0) c.entry_count.ensures
