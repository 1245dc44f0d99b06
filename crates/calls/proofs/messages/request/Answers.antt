-- Refused by its rules, or circulated; the words stay as they are.
use mathlib.Core.Path.{refl, sym}
use Rattle.model.specs.declared.Message.TheVariants.{Request}
use Rattle.laws.proofs.Sums.{impossible}
use Rattle.laws.proofs.Access.{with_entry_read}
use Rattle.layout.specs.Layout.{ledger_in}
use Rattle.calls.proofs.Taking.{refused, served}
use Rattle.calls.proofs.messages.request.Goals as goal

pub returns-in-Err : goal.returns-in-Err
returns-in-Err c = refused c.args.words.now (Request c.args.t) refl _ c.in-Err.ensures

pub returns-in-Ok : goal.returns-in-Ok
returns-in-Ok c =
    served c.args.words.now (Request c.args.t) refl _ _ c.in-Ok.ensures
    (record { reply = refl; ledger = sym (with_entry_read (ledger_in c.args.words.now) c.args.t.account); not_refused = λ code e. impossible (cc) })
