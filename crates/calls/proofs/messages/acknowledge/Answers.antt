-- Refused by its rules, or marked.
use mathlib.Core.Path.{refl}
use Rattle.model.specs.declared.Message.TheVariants.{Circulated}
use Rattle.laws.proofs.Sums.{impossible}
use Rattle.calls.proofs.Taking.{refused, served}
use Rattle.calls.proofs.messages.acknowledge.Goals as goal

pub returns-in-Err : goal.returns-in-Err
returns-in-Err c = refused c.args.words.now (Circulated c.args.t) refl _ c.in-Err.ensures

pub returns : goal.returns
returns c =
    served c.args.words.now (Circulated c.args.t) refl _ _ c.in_default.ensures
    (record { reply = refl; ledger = c.put_acked.ensures; not_refused = λ code e. impossible (cc) })
