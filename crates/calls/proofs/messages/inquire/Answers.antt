-- Refused where there is no such account, else its balance; the words stay as they are.
use mathlib.Core.Path.{refl, ap, sym}
use borrow.Author.Tests.{le-leb, lt-leb}
use Rattle.model.specs.declared.Message.TheVariants.{Inquiry}
use Rattle.model.specs.declared.Refusal.TheVariants.{OutOfRange}
use Rattle.model.specs.declared.Reply.TheVariants.{Balance}
use Rattle.laws.proofs.Sums.{impossible}
use Rattle.laws.proofs.Access.{with_entry_read}
use Rattle.layout.specs.Layout.{ledger_in}
use Rattle.calls.proofs.Taking.{refused, served}
use Rattle.calls.proofs.messages.inquire.Goals as goal

pub returns-then-accounts_of-a : goal.returns-then-accounts_of-a
returns-then-accounts_of-a c =
    refused c.args.words.now (Inquiry c.args.a) refl OutOfRange (rw (← c.accounts_of.ensures, le-leb _ _ c.if-accounts_of-a.true))

pub returns : goal.returns
returns c =
    served c.args.words.now (Inquiry c.args.a) refl _ _ (rw (← c.accounts_of.ensures, lt-leb _ _ c.if-accounts_of-a.false))
    (record { reply = ap Balance c.balance_of.ensures; ledger = sym (with_entry_read (ledger_in c.args.words.now) c.args.a); not_refused = λ code e. impossible (cc) })
