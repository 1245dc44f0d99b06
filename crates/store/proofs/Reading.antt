-- What stands in a place, told with a number.
use Rattle.std.specs.Prelude.{Some, None, is_some}
use Prim.Native.Nat.{ℕ, ◌+◌, ◌%◌}
use mathlib.Core.Path.{◌≡◌, refl}
use mathlib.Core.Bool.{Bool, true, false, cond}
use lib.Dec.{eqb}
use mathlib.Core.List.{List}
use borrow.Author.Tests.{eq-eqb}
use Rattle.model.specs.declared.Seat.{Seat}
use Rattle.model.specs.declared.Account.{Account}
use Rattle.model.specs.declared.Transfer.{Transfer}
use Rattle.model.specs.Types.{Slot}
use Rattle.model.specs.Records.{account_of}
use Rattle.model.specs.Transfers.{equal}
use Rattle.model.specs.Acks.{holds}
use Rattle.model.specs.Refusals.{ack_from}
use Rattle.layout.specs.Layout.{slot_by, entry_in}
use Rattle.layout.proofs.Entries.{ack_of_next}
use Rattle.store.specs.Stores.{with_number, numbered}

-- a place's words with another number
pub numbered_slot : (a value m n recipient : ℕ) → numbered n (slot_by a value m recipient) ≡ slot_by a value n recipient
numbered_slot a value m n recipient = go (eqb value 0)
  where
    slip : ℕ → Transfer
    slip k = record { account = account_of a; number = k; value = value; recipient = account_of (recipient % 256) }

    go : (b : Bool) → numbered n (cond b None (Some (slip m))) ≡ cond b None (Some (slip n))
    go true = refl
    go false = refl

-- of a slip that has the number
abbrev Of : ℕ → Slot → Type 0
Of n p = (u : Transfer) → p ≡ Some u → u.number ≡ n

numbered_same : (n : ℕ) (p : Slot) → Of n p → numbered n p ≡ p
numbered_same n None of = refl
numbered_same n (Some u) of = rw (← of u refl)

-- whether a place holds a slip, told with the slip's number, is whether it holds the slip told with the place's
holds_numbered : (t : Transfer) (n : ℕ) (p : Slot) → Of n p → holds t (numbered t.number p) ≡ holds (with_number t n) p
unfolding equal
holds_numbered t n None of = refl
holds_numbered t n (Some u) of = rw (eq-eqb t.number t.number refl, eq-eqb u.number n (of u refl))

pub full_numbered : (n : ℕ) (p : Slot) → is_some (numbered n p) ≡ is_some p
full_numbered n None = refl
full_numbered n (Some u) = refl

-- the same of an ack in words, whose number is the account's next
module _ (ws : List ℕ) (a : Account) (s : Seat) where
  next_of : Of ((entry_in ws a).current + 1) (ack_from (entry_in ws a) s)
  next_of u e = (ack_of_next ws a s u e).1

  pub ack_next : (n : ℕ) → n ≡ (entry_in ws a).current + 1 → numbered n (ack_from (entry_in ws a) s) ≡ ack_from (entry_in ws a) s
  ack_next n e = rw e (numbered_same ((entry_in ws a).current + 1) (ack_from (entry_in ws a) s) next_of)

  pub ack_holds : (t : Transfer) → holds t (numbered t.number (ack_from (entry_in ws a) s)) ≡ holds (with_number t ((entry_in ws a).current + 1)) (ack_from (entry_in ws a) s)
  ack_holds t = holds_numbered t ((entry_in ws a).current + 1) (ack_from (entry_in ws a) s) next_of
