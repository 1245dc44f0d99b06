-- What an ack of a known seat meets, once its transfer is not refused: the ack that the seat has recorded.
use Rattle.std.specs.Prelude.{Result, Ok}
use Prim.Native.Nat.{ℕ}
use mathlib.Core.Path.{◌≡◌, sym, ◌∙◌}
use mathlib.Core.Bool.{false}
use mathlib.Core.List.{List, [], ◌∷◌}
use Rattle.model.specs.declared.Refusal.{Refusal}
use Rattle.model.specs.declared.Refusal.TheVariants.{AckRepeated, AckConflicting}
use Rattle.model.specs.declared.Seat.{Seat}
use Rattle.model.specs.declared.Transfer.{Transfer}
use Rattle.model.specs.Types.{Slot}
use Rattle.model.specs.Acks.{holds, conflicts}
use Rattle.model.specs.Refusals.{Rule, first_refusal, check_of, ack_from, unknown_seat, transfer_rules, ack_rules}
use Rattle.layout.specs.Layout.{ledger_in, entry_in}
use Rattle.layout.proofs.Ranges.{seats_fit}
use Rattle.basics.proofs.ReadBack.{passed}
use Rattle.store.specs.Stores.{numbered}
use Rattle.store.proofs.Reading.{ack_next}
use Rattle.checks.proofs.Rules.{passes}
use Rattle.checks.proofs.Ranges.{fits}

-- the rules of the place where an ack of the seat stands, if one is recorded
abbrev pub recorded_rules : Transfer → Slot → List Rule
recorded_rules t a = (holds t a, AckRepeated) ∷ (conflicts t a, AckConflicting) ∷ []

pub by_recorded : (ws : List ℕ) (s : Seat) (t : Transfer) {a : Slot} {q : Result (Unit {0}) Refusal}
    → unknown_seat (ledger_in ws) s ≡ false
    → Ok tt ≡ check_of (first_refusal (transfer_rules (ledger_in ws) (entry_in ws t.account) t))
    → a ≡ numbered t.number (ack_from (entry_in ws t.account) s) → q ≡ check_of (first_refusal (recorded_rules t a))
    → q ≡ check_of (first_refusal (ack_rules (ledger_in ws) (entry_in ws t.account) s t))
by_recorded ws s t {q = q} known clear is h =
    let e = entry_in ws t.account in
    let fit = fits ws t (passed _ (sym clear)) in
    let recorded = is ∙ ack_next ws t.account s t.number fit.next in
    rw known
    (passes (transfer_rules (ledger_in ws) e t) (recorded_rules t (ack_from e s)) q clear (rw (← recorded) h))

-- that its seat has a place, and what it meets
pub ruleset of_ack = (seats_fit, by_recorded)
