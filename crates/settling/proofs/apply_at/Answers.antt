-- Payer first, then recipient, as in the definition.
use Rattle.std.proofs.Common.{◌≡◌, sym, ◌∙◌, Some, None}
use Rattle.model.specs.declared.Account.{Account}
use Rattle.model.specs.declared.Transfer.{Transfer}
use Rattle.model.specs.Types.{Ledger}
use Rattle.model.specs.Records.{entry_of, with_entries, with_entry}
use Rattle.model.specs.Settling.{credited, debited, apply}
use Rattle.layout.specs.Layout.{ledger_in}
use Rattle.settling.proofs.apply_at.Goals as goal

module _ (l : Ledger) (a : Account) where
  -- nothing waits at the account: booking changes nothing
  none_waits : (entry_of l a).pending ≡ None → l ≡ with_entries l (apply l.entries a)
  unfolding apply
  none_waits none = rw none

  -- the transfer t waits there: the payer's debit is stored, and then the recipient's credit
  received : (t : Transfer) → (entry_of l a).pending ≡ Some t → (m after : Ledger) → m ≡ with_entry l a (debited (entry_of l a) t)
      → after ≡ with_entry m t.recipient (credited (entry_of m t.recipient) t.value)
      → after ≡ with_entries l (apply l.entries a)
  unfolding apply
  received t waits m after paid given = given ∙ rw (paid, waits)

pub returns-in_default : goal.returns-in_default
returns-in_default c = none_waits (ledger_in c.args.words.now) c.args.a (sym c.pending_of.ensures ∙ c.in_default.is)

pub returns-in-Some : goal.returns-in-Some
returns-in-Some c =
    received (ledger_in c.args.words.now) c.args.a _ (sym c.pending_of.ensures ∙ c.in-Some.is) _ _ c.debit.ensures c.credit.ensures
