-- The sum of the bodies' lengths, behind the contents and the opening page's body.
use Rattle.std.proofs.Common.{◌≡◌, arith, rules, sum_by}
use Rattle.writer.proofs.Bundling.{body_size, sizes_short, written_length}
use Rattle.writer.proofs.Bundle.size.Goals as goal

pub overflow_add-result : goal.overflow_add-result
overflow_add-result c =
    let messages = c.args.self.now.messages.now in
    let bodies : c.sum-bodies.result ≡ sum_by body_size messages = search rules in
    omega (arith, c.args.self.now.few, sizes_short messages)

pub returns : goal.returns
returns c =
    let messages = c.args.self.now.messages.now in
    let bodies : c.sum-bodies.result ≡ sum_by body_size messages = search rules in
    let size = written_length c.args.self.now.page messages c.args.self.now.balances in
    omega (arith, c.first_start.ensures)
