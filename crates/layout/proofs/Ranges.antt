-- The group's numbers in words are in their ranges, whatever the words are.
use Prim.Native.Nat.{ℕ, ◌+◌, ◌≤◌}
use native.Mathlib.Omega.{arith}
use mathlib.Core.Path.{◌≡◌, refl}
use mathlib.Core.Bool.{Bool, true, false, cond}
use mathlib.Core.List.{List}
use lib.Dec.{leb}
use lib.ListN.{get_or}
use borrow.Author.Tests.{leb-true}
use Rattle.layout.specs.Layout.{group_place, up_to, ledger_in}

up_to_fits : (limit word : ℕ) → up_to limit word ≤ limit
up_to_fits limit word = go (leb word limit) refl
  where
    go : (b : Bool) → leb word limit ≡ b → cond b word 0 ≤ limit
    go true e = leb-true word limit e
    go false e = omega arith

pub seats_fit : (ws : List ℕ) → (ledger_in ws).seats ≤ 16
unfolding ledger_in
seats_fit ws = up_to_fits 16 (get_or ws group_place 0)

pub accounts_fit : (ws : List ℕ) → (ledger_in ws).accounts ≤ 32
unfolding ledger_in
accounts_fit ws = up_to_fits 32 (get_or ws (group_place + 2) 0)
