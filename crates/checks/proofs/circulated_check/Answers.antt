-- What a request and a circulated transfer meet comes first.
use Rattle.std.proofs.Common.{[], ◌∷◌}
use Rattle.std.proofs.lemmas.Result.{err_from_is_err_and}
use Rattle.model.specs.declared.Refusal.TheVariants.{AlreadyAcked, InsufficientFunds}
use Rattle.model.specs.Refusals.{above_balance, offer_rules}
use Rattle.layout.specs.Layout.{ledger_in, entry_in}
use Rattle.checks.proofs.Rules.{fails}
use Rattle.checks.proofs.circulated_check.Goals as goal

pub returns-in_err-offer_check : goal.returns-in_err-offer_check
returns-in_err-offer_check c =
    let p = err_from_is_err_and c.from_residual.result c.from_residual.ensures.1 in
    let e = entry_in c.args.words.now c.args.t.account in
    let more = (e.acked, AlreadyAcked) ∷ (above_balance e c.args.t, InsufficientFunds) ∷ [] in
    rw (p.1, p.2) (fails (offer_rules (ledger_in c.args.words.now) e c.args.t) more _ c.in_err-offer_check.ensures)
