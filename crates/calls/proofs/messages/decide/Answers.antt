-- Refused by its rules, or accepted.
use mathlib.Core.Path.{refl, sym}
use Rattle.basics.proofs.ReadBack.{passed}
use Rattle.model.specs.declared.Message.TheVariants.{Decision}
use Rattle.checks.proofs.Ranges.{fits}
use Rattle.calls.proofs.Taking.{refused, served}
use Rattle.calls.proofs.messages.decide.Goals as goal

pub returns-in-Err : goal.returns-in-Err
returns-in-Err c = refused c.args.words.now (Decision c.args.t) refl _ c.in-Err.ensures

pub returns-in-Ok : goal.returns-in-Ok
returns-in-Ok c =
    let fit = fits c.args.words.now c.args.t (passed _ (sym c.in-Ok.ensures)) in
    served c.args.words.now (Decision c.args.t) refl _ _ c.in-Ok.ensures (c.accept.ensures.settled fit.range.value)
