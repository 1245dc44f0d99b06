-- The ack that was read, told with the number, is the seat's ack, and how many are equal to it is that ack's
-- count: so the test compares the two.
use Rattle.std.specs.Prelude.{Some, None}
use Prim.Native.Nat.{ℕ, ◌+◌, ◌≤◌, ◌<◌}
use native.Mathlib.Omega.{arith}
use mathlib.Core.Path.{◌≡◌, refl, ap, ◌∙◌}
use mathlib.Core.List.{List}
use borrow.Author.Tests.{lt-ltb, le-ltb}
use Rattle.model.specs.declared.Seat.{Seat}
use Rattle.model.specs.declared.Account.{Account}
use Rattle.model.specs.declared.Transfer.{Transfer}
use Rattle.model.specs.Types.{Slot, Entry}
use Rattle.model.specs.Acks.{acks_for}
use Rattle.model.specs.Refusals.{ack_from}
use Rattle.laws.proofs.Sums.{impossible}
use Rattle.layout.specs.Layout.{entry_in}
use Rattle.layout.proofs.Entries.{ack_of_next}
use Rattle.store.specs.Stores.{with_number, numbered}
use Rattle.tally.specs.declared.Leader.{Leader}
use Rattle.tally.specs.Results.{at_next, leader_of}
use Rattle.tally.proofs.better.Goals as goal

-- a slip told with another number, told with its own again
told_back : (n m : ℕ) (u v : Transfer) → u ≡ with_number v n → v.number ≡ m → with_number u m ≡ v
told_back n m u v tells number = rw (tells, ← number)

module _ (ws : List ℕ) (best : Leader) (a : Account) (number : ℕ) (s : Seat) (slot : Slot)
    (read : slot ≡ numbered number (ack_from (entry_in ws a) s)) where
  abbrev e : Entry
  e = entry_in ws a

  -- the seat's ack, of which u is told
  record Told (u : Transfer) : Type 0 where
    pub ack : Transfer
    pub is : ack_from e s ≡ Some ack
    pub tells : u ≡ with_number ack number
    pub account : ack.account ≡ a
    pub next : ack.number ≡ e.current + 1

  told : (u : Transfer) → slot ≡ Some u → Told u
  told u full = go (ack_from e s) refl
    where
      go : (p : Slot) → ack_from e s ≡ p → Told u
      go None is = impossible (let z : Some u ≡ None = rw (full, is) at read in cc)
      go (Some v) is =
          let same : Some u ≡ Some (with_number v number) = rw (full, is) at read in
          let of = ack_of_next ws a s v is in
          record { ack = v; is = is; tells = cc; account = of.0; next = of.1 }

  module _ (u : Transfer) (full : slot ≡ Some u) where
    account : u.account ≡ a
    account = let x = told u full in ap (λ (t : Transfer). t.account) x.tells ∙ x.account

    -- as one of the next number it is the seat's ack
    is_ack_lem : at_next e u ≡ (told u full).ack
    is_ack_lem = let x = told u full in told_back number (e.current + 1) u x.ack x.tells x.next

    module _ (n : ℕ) (found : n ≡ acks_for (at_next (entry_in ws u.account) u) (entry_in ws u.account).acks) where
      count : n ≡ acks_for (told u full).ack e.acks
      count =
          found
          ∙ ap (λ (b : Account). acks_for (at_next (entry_in ws b) u) (entry_in ws b).acks) account
          ∙ ap (λ (t : Transfer). acks_for t e.acks) is_ack_lem

      taken : best.acks < n → (record { transfer = u; acks = n }) ≡ leader_of e.acks number best (ack_from e s)
      taken more =
          let x = told u full in
          rw (x.is, ← count, lt-ltb best.acks n more)
          (ap (λ (t : Transfer). let l : Leader = record { transfer = t; acks = n } in l) x.tells)

      kept : n ≤ best.acks → best ≡ leader_of e.acks number best (ack_from e s)
      kept few = rw ((told u full).is, ← count, le-ltb best.acks n few)

pub returns-then-best-acks : goal.returns-then-best-acks
returns-then-best-acks c =
    taken c.args.words.now c.args.best c.args.t.account c.args.t.number c.args.s _ c.ack_from.ensures _ c.in-Some.is _ c.acks_for-acks.ensures (omega (arith, c.if-best-acks.true))

pub returns-else-best-acks : goal.returns-else-best-acks
returns-else-best-acks c =
    kept c.args.words.now c.args.best c.args.t.account c.args.t.number c.args.s _ c.ack_from.ensures _ c.in-Some.is _ c.acks_for-acks.ensures (omega (arith, c.if-best-acks.false))
