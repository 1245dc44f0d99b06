-- The fold is the definition's recursion.
use Rattle.std.proofs.Common.{◌≡◌, ℕ, ◌+◌, ◌*◌, ◌%◌, List, [], ◌∷◌, refl, ◌∙◌, rules}
use Rattle.std.specs.List.{fold}
use Rattle.std.proofs.lemmas.Iterator.{YieldsList-from_slice}
use Rattle.std.proofs.lemmas.Iterator.Consumers.{fold_from_yields_List}
use Rattle.model.specs.Bundles.{sum_from}
use Rattle.bundle.proofs.sums.body_sum.Goals as goal

abbrev more : ℕ → ℕ → ℕ
more s b = (31 * s + b) % 4_294_967_296

fold_is : (s : ℕ) (body : List ℕ) → fold more s body ≡ sum_from s body
fold_is s [] = refl
fold_is s (b ∷ body) = fold_is (more s b) body

pub returns : goal.returns
returns c =
    fold_from_yields_List _ more 0 _ c.fold.ensures.ran (YieldsList-from_slice c.args.body.now cc) (λ s b t q made. search rules)
    ∙ fold_is 0 c.args.body.now
