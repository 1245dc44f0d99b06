-- A refused page leaves the words; one that no rule refuses opens.
use Rattle.std.proofs.lemmas.Result.{err_from_is_err_and}
use Rattle.opening.proofs.Opening.{refuses, opens}
use Rattle.opening.proofs.open_page.Goals as goal

pub returns-in_err-total : goal.returns-in_err-total
returns-in_err-total c =
    let p = err_from_is_err_and c.from_residual.result c.from_residual.ensures.1 in
    rw (p.1, p.2) (refuses c.args.words.now c.args.page _ c.in_err-total.ensures)

pub returns : goal.returns
returns c = opens c.args.words.now _ _ _ c.in_ok-total.ensures.0 c.in_ok-total.ensures.1 c.put_ledger.ensures
