-- Each answer is the definition's next, the checks before it being passed.
use Rattle.std.proofs.Common.{◌≡◌, true, false, rules}
use Rattle.std.proofs.lemmas.Result.{err_from_is_err_and}
use Rattle.model.specs.Basics.{same}
use Rattle.reader.specs.Promises.{opening_body}
use Rattle.evidence.proofs.Joining.{few, first_refused, second_refused, pages_differ, pages_agree, all_told}
use Rattle.evidence.proofs.join.Goals as goal

pub returns-in_err-checked : goal.returns-in_err-checked
returns-in_err-checked c =
    let e = err_from_is_err_and c.from_residual.result c.from_residual.ensures.1 in
    rw (e.1, e.2) (first_refused c.args.first.now c.args.second.now c.args.ruled c.in_err-checked.ensures)

pub returns-in_err-checked-2 : goal.returns-in_err-checked-2
returns-in_err-checked-2 c =
    let e = err_from_is_err_and c.from_residual-in_err-checked-2.result c.from_residual-in_err-checked-2.ensures.1 in
    rw (e.1, e.2) (second_refused c.args.first.now c.args.second.now c.args.ruled c.in_ok-checked.ensures c.in_err-checked-2.ensures)

pub returns-then-not-is_same : goal.returns-then-not-is_same
returns-then-not-is_same c =
    let apart : same (opening_body c.args.first.now) (opening_body c.args.second.now) ≡ false = cc in
    pages_differ c.args.first.now c.args.second.now c.args.ruled c.in_ok-checked.ensures c.in_ok-checked-2.ensures apart

pub earliest_pair-requires : goal.earliest_pair-requires
earliest_pair-requires c = few c.args.second.now _ c.in_ok-checked-2.ensures

pub returns : goal.returns
returns c =
    let alike : same (opening_body c.args.first.now) (opening_body c.args.second.now) ≡ true = cc in
    pages_agree c.args.first.now c.args.second.now c.args.ruled c.in_ok-checked.ensures c.in_ok-checked-2.ensures alike
    (rw (← c.earliest_pair.ensures) (all_told _ _ _ _ (search rules)))
