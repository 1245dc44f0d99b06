-- A slip that is of its account's next number is compared as it is.
use Rattle.std.specs.Prelude.{Some, None}
use Prim.Native.Nat.{ℕ, ◌+◌, ◌<◌}
use mathlib.Core.Path.{◌≡◌, refl, ap, ◌∙◌}
use mathlib.Core.Bool.{true}
use mathlib.Core.List.{List}
use Rattle.model.specs.declared.Transfer.{Transfer}
use Rattle.model.specs.Types.{Slot, AckSlot, Entry}
use Rattle.model.specs.Acks.{ack_at, holds, acks_for, most_acked}
use Rattle.laws.proofs.Sums.{impossible, some_counted}
use Rattle.laws.proofs.Proposals.{first_of_most}
use Rattle.layout.specs.Layout.{entry_in}
use Rattle.layout.proofs.Entries.{ack_of_next}
use Rattle.store.specs.Stores.{with_number}
use Rattle.tally.specs.declared.Tally.{Tally}
use Rattle.tally.specs.Results.{tally_of, at_next}

at_next_lem : (e : Entry) (t : Transfer) → t.number ≡ e.current + 1 → at_next e t ≡ t
at_next_lem e t next = rw (← next)

pub tally_next : (e : Entry) (t : Transfer) (y : Tally) → t.number ≡ e.current + 1 → y ≡ tally_of (at_next e t) e.acks → y ≡ tally_of t e.acks
tally_next e t y next h = h ∙ ap (λ (u : Transfer). tally_of u e.acks) (at_next_lem e t next)

-- and so is the one that is put forward: where acks are recorded, it is one of theirs
pub most_next : (ws : List ℕ) (t r : Transfer) → t.number ≡ (entry_in ws t.account).current + 1
    → 0 < acks_for t (entry_in ws t.account).acks → r ≡ with_number (most_acked (entry_in ws t.account).acks) t.number
    → r ≡ most_acked (entry_in ws t.account).acks
most_next ws t r next some is = is ∙ own (ack_at acks found.0) refl found.1
  where
    acks : List AckSlot
    acks = (entry_in ws t.account).acks

    found : (i : ℕ) × (holds t (ack_at acks i) ≡ true)
    found = some_counted (λ a. holds t a.slot) acks (record { slot = None }) some

    own : (p : Slot) → ack_at acks found.0 ≡ p → holds t p ≡ true → with_number (most_acked acks) t.number ≡ most_acked acks
    own None at h = impossible (cc)
    own (Some u) at h =
        let first = first_of_most acks found.0 u at in
        let of = ack_of_next ws t.account (record { 0 = first.seat }) (most_acked acks) first.acked in
        rw (next, ← of.1)
