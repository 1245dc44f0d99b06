-- Entries stored one after another where the ledger lies, until they are the wanted ones.
use Prim.Native.Nat.{ℕ, ◌+◌, ◌≤◌, ◌<◌}
use native.Mathlib.Omega.{arith}
use mathlib.Core.Path.{◌≡◌, refl, ap, sym, ◌∙◌}
use mathlib.Core.List.{List}
use lib.ListN.{length, get_or}
use Rattle.model.specs.Types.{Entry}
use Rattle.model.specs.Records.{account_of, fresh_entry, with_entries, with_entry}
use Rattle.layout.specs.Layout.{ledger_in}
use Rattle.layout.proofs.Blocks.{entries_length}
use Rattle.basics.proofs.Filling.{Filled, filled_none, filled_more, filled_all}

-- The entries of the accounts before `i` are the wanted ones, and all but the entries is as it was.
pub record Entered (before : List ℕ) (wanted : List Entry) (now : List ℕ) (i : ℕ) : Type 0 where
  pub size : length now ≡ length before
  pub filled : Filled wanted (ledger_in now).entries i
  pub rest : ledger_in now ≡ with_entries (ledger_in before) (ledger_in now).entries

module _ (before : List ℕ) (wanted : List Entry) (count : length wanted ≡ 32) where
  pub none_entered : Entered before wanted before 0
  none_entered = record { size = refl; filled = filled_none (entries_length before ∙ sym count); rest = refl }

  module _ (now : List ℕ) (i : ℕ) (f : Entered before wanted now i) where
    pub one_entered : (after : List ℕ) (e : Entry) → i < 32 → length after ≡ length now → e ≡ get_or wanted i (fresh_entry 0)
        → ledger_in after ≡ with_entry (ledger_in now) (account_of i) e → Entered before wanted after (i + 1)
    one_entered after e h same right is =
        record {
          size = same ∙ f.size;
          filled = rw is (filled_more f.filled e (fresh_entry 0) (omega (arith, count)) right);
          rest = rw is (ap (λ l. with_entry l (account_of i) e) f.rest);
        }

    pub all_entered : 32 ≤ i → ledger_in now ≡ with_entries (ledger_in before) wanted
    all_entered h = f.rest ∙ ap (with_entries (ledger_in before)) (filled_all f.filled (omega (arith, count)))
