-- Each balance is read at its own place, as `words_from` reads them.
use Rattle.std.proofs.Common.{rules, ◌+◌, ◌*◌}
use Rattle.model.specs.Bundles.{number4, words_from}
use Rattle.laws.proofs.Numbers.{words_count, words_at_lem}
use Rattle.pages.proofs.Made.{made_list}
use Rattle.pages.proofs.messages.balances_of.Goals as goal

pub returns : goal.returns
returns c =
    let body = c.args.body.now in
    made_list {value = λ k. number4 body (3 + 4 * k)} (λ k y q made. search rules) c.from_fn.ensures.items (words_from 32 3 body) 0
    (words_count 32 3 body) (λ k h. words_at_lem 32 3 k body h)
