-- n, f and k, and the balances behind them.
use Rattle.std.proofs.Common.{arith}
use Rattle.writer.proofs.Pages.{opening_right}
use Rattle.writer.proofs.bodies.put_opening.Goals as goal

pub returns : goal.returns
returns g c =
    let written = g.met.S.Sink.then _ _ _ _ _ c.put_all.ensures c.put_words.ensures.0 in
    (written, omega (arith, (opening_right c.args.page (omega arith)).size))
