-- Accounts at opening, stored one after another where the ledger lies.
use Prim.Native.Nat.{ℕ, ◌+◌, ◌<◌}
use mathlib.Core.Path.{◌≡◌, sym, ◌∙◌}
use mathlib.Core.List.{List, map}
use lib.ListN.{length, get_or, length-map, get_or-map}
use Rattle.model.specs.declared.Account.{Account}
use Rattle.model.specs.Records.{account_of, fresh_entry, with_balance, with_booked, with_none_retained, entry_of, with_entry}
use Rattle.laws.proofs.Access.{with_entry_again}
use Rattle.layout.specs.Layout.{ledger_in, entry_in}
use Rattle.store.proofs.Entering.{Entered, none_entered, one_entered}

-- an account that was booked at 0, retains nothing and was given a balance is one at opening
pub fresh_put : (before booked mid after : List ℕ) (a : Account) (b : ℕ)
    → ledger_in booked ≡ with_entry (ledger_in before) a (with_booked (entry_in before a) 0)
    → ledger_in mid ≡ with_entry (ledger_in booked) a (with_none_retained (entry_in booked a))
    → ledger_in after ≡ with_entry (ledger_in mid) a (with_balance (entry_in mid a) b)
    → ledger_in after ≡ with_entry (ledger_in before) a (fresh_entry b)
fresh_put before booked mid after a b first second third =
    let l = ledger_in before in
    let bare : ledger_in mid ≡ with_entry l a (with_none_retained (with_booked (entry_of l a) 0)) =
    second ∙ rw first (with_entry_again l a (with_booked (entry_of l a) 0) with_none_retained) in
    third ∙ rw bare (with_entry_again l a (with_none_retained (with_booked (entry_of l a) 0)) (λ e. with_balance e b))

-- The accounts before `i` are at opening, and all but the entries is as it was.
abbrev pub Freshened : List ℕ → List ℕ → List ℕ → ℕ → Type 0
Freshened before balances now i = Entered before (map fresh_entry balances) now i

module _ (before balances : List ℕ) (count : length balances ≡ 32) where
  -- as many entries are wanted as there are balances
  wanted : length (map fresh_entry balances) ≡ 32
  wanted = length-map balances fresh_entry ∙ count

  pub none_fresh : Freshened before balances before 0
  none_fresh = none_entered before (map fresh_entry balances) wanted

  module _ (now : List ℕ) (i : ℕ) (f : Freshened before balances now i) where
    pub one_fresh : (after : List ℕ) → i < 32 → length after ≡ length now
        → ledger_in after ≡ with_entry (ledger_in now) (account_of i) (fresh_entry (get_or balances i 0))
        → Freshened before balances after (i + 1)
    one_fresh after h same is =
        one_entered before (map fresh_entry balances) wanted now i f after (fresh_entry (get_or balances i 0)) h same
        (sym (get_or-map fresh_entry balances i 0)) is
