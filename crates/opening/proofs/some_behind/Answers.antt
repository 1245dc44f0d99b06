-- The search over what is left behind the first `from` balances.
use Rattle.std.proofs.Common.{not, eqb, drop, sym, ◌∙◌, rules, tests}
use Rattle.std.proofs.lemmas.Iterator.{YieldsList-from_slice}
use Rattle.std.proofs.lemmas.Iterator.Adapters.{YieldsList-from_skip}
use Rattle.std.proofs.lemmas.Iterator.Search.{any_from_yields_List}
use Rattle.opening.proofs.Lists.{any_lem}
use Rattle.opening.proofs.some_behind.Goals as goal

pub returns : goal.returns
returns c =
    let balances = c.args.balances.now in
    any_from_yields_List (λ b. not (eqb b 0)) _ _ _ c.any.ensures.ran
    (YieldsList-from_skip c.args.from (YieldsList-from_slice balances cc) cc) (λ x b q k. search (rules, tests))
    ∙ sym (any_lem (λ b. not (eqb b 0)) (drop c.args.from balances))
