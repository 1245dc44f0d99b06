-- Each byte is read at its own place.
use Rattle.std.proofs.Common.{rules, get_or, ◌∙◌}
use Rattle.std.proofs.Math.Seq.{get_or-drop}
use Rattle.pages.proofs.Made.{made_at}
use Rattle.pages.proofs.numbers.bytes_at.Goals as goal

pub returns-in-None : goal.returns-in-None
returns-in-None g c i h =
    made_at {value = λ k. get_or c.rest_at-rest.result.now k 0} (λ k y q made. search rules) c.from_fn.ensures.items i 0 h
    ∙ rw (c.rest_at-rest.ensures, get_or-drop c.args.at c.args.bytes.now i 0)
