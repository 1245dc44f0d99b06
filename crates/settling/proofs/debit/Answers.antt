-- Two stores at one account are one.
use Rattle.std.proofs.Common.{◌-◌, ◌∙◌}
use Rattle.model.specs.Records.{with_balance, with_booked}
use Rattle.laws.proofs.Access.{with_entry_again}
use Rattle.layout.specs.Layout.{ledger_in, entry_in}
use Rattle.settling.proofs.debit.Goals as goal

pub returns : goal.returns
returns c =
    let ws = c.args.words.now in
    let a = c.args.a in
    let t = c.args.t in
    let e = entry_in ws a in
    c.put_booked.ensures
    ∙ rw (c.put_balance.ensures, c.saturating_sub.ensures, c.balance_of.ensures)
    (with_entry_again (ledger_in ws) a (with_balance e (e.balance - t.value)) (λ e. with_booked e t.number))
