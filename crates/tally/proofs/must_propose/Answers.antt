-- The tests are the definition's: the acks in words are all of the account and its next number.
use Prim.Native.Nat.{ℕ, ◌+◌, ◌-◌, ◌<◌}
use native.Mathlib.Omega.{arith}
use mathlib.Core.Path.{◌≡◌, ap, sym, ◌∙◌}
use mathlib.Core.Bool.{Bool, not, ◌&&◌}
use mathlib.Core.List.{List}
use lib.Dec.{leb, ltb}
use Rattle.std.proofs.lemmas.Bool.Decides.{nat_tests}
use Rattle.model.specs.declared.Account.{Account}
use Rattle.model.specs.declared.Transfer.{Transfer}
use Rattle.model.specs.Acks.{two_conflict}
use Rattle.layout.specs.Layout.{ledger_in, entry_in}
use Rattle.layout.proofs.Entries.{ack_of_next}
use Rattle.tally.specs.declared.Tally.{Tally}
use Rattle.tally.specs.Results.{tally_of, Decides}
use Rattle.tally.proofs.Conflicts.{AllOf, two_conflict_fewer}
use Rattle.tally.proofs.must_propose.Goals as goal

-- the tally tells whether two conflict
conflict_told : (ws : List ℕ) (a : Account) (y : Tally) (t : Transfer) → t.account ≡ a → t.number ≡ (entry_in ws a).current + 1
    → y ≡ tally_of t (entry_in ws a).acks → 0 < y.equal → ltb y.equal y.recorded ≡ two_conflict (entry_in ws a).acks
conflict_told ws a y t account number tally some =
    rw tally (two_conflict_fewer t (entry_in ws a).acks all (rw tally at some))
  where
    all : AllOf t (entry_in ws a).acks
    all i u e = let of = ack_of_next ws a (record { 0 = i }) u e in (of.0 ∙ sym account, of.1 ∙ sym number)

-- and so what the model's test is
decides : (ws : List ℕ) (a : Account) (y : Tally) (r : Bool) → r ≡ (leb ((ledger_in ws).seats - (ledger_in ws).faults) y.recorded && ltb y.equal y.recorded && not (entry_in ws a).proposed) → Decides ws a y r
decides ws a y r e =
    record {
      told = e;
      decided =
          λ t account number tally some.
          e
          ∙ ap
          (λ b. leb ((ledger_in ws).seats - (ledger_in ws).faults) y.recorded && b && not (entry_in ws a).proposed)
          (conflict_told ws a y t account number tally some);
    }

pub returns-then-y : goal.returns-then-y
returns-then-y c = decides c.args.words.now c.args.a c.args.y _ (grind (arith, nat_tests))

pub returns-else-y : goal.returns-else-y
returns-else-y c = decides c.args.words.now c.args.a c.args.y _ (grind (arith, nat_tests))
