-- Applying the lowest affordable transfer leaves one fewer. The laws of a turn give the rest.
use Rattle.std.proofs.Common.{sym, ◌∙◌, arith, rules}
use Rattle.settling.proofs.Turns.{few_applied, ended, one_fewer, whole}
use Rattle.settling.proofs.+settle_all.Goals as goal

pub settle_all-requires : goal.settle_all-requires
settle_all-requires t c =
    let next = one_fewer c.args.words.now c.in-Some.a (sym c.lowest_affordable.ensures ∙ c.in-Some.is) _ c.apply_at.ensures in
    (omega arith, search rules)

pub overflow_add-result : goal.overflow_add-result
overflow_add-result t c = omega (arith, few_applied _ _ _ c.settle_all.ensures)

pub returns-in-None : goal.returns-in-None
returns-in-None t c = ended _ (sym c.lowest_affordable.ensures ∙ c.in-None.is)

pub returns-in-Some : goal.returns-in-Some
returns-in-Some t c =
    whole c.args.words.now c.in-Some.a (sym c.lowest_affordable.ensures ∙ c.in-Some.is) _ c.apply_at.ensures _ _ c.settle_all.ensures
