-- The sum of the balances, each of which is below 2^32.
use Rattle.std.proofs.Common.{sym, ◌∙◌, rules}
use Rattle.std.proofs.iter.runs.Sources.{sums}
use Rattle.std.proofs.lemmas.Iterator.{YieldsList-from_slice, YieldsList-from_map}
use Rattle.std.proofs.lemmas.Iterator.Consumers.{sum_by_from_yields_List}
use Rattle.opening.proofs.Lists.{sum_of_lem}
use Rattle.opening.proofs.sum.Goals as goal

pub sum-requires-clause-fits : goal.sum-requires-clause-fits
sum-requires-clause-fits c = search (rules, sums)

pub returns : goal.returns
returns c =
    let balances = c.args.balances.now in
    sum_by_from_yields_List (λ b. b) balances c.map.result _ c.sum.ensures.ran
    (YieldsList-from_map _ (λ b. b) (YieldsList-from_slice balances cc) c.map.ensures.closure (λ x r q k. search rules))
    ∙ sym (sum_of_lem _ _)
