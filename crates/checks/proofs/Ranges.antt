-- What a slip has that its rules did not refuse: a place in the words, and what its place will tell of it.
use Rattle.std.proofs.lemmas.Bool.{or_parts}
use Rattle.std.specs.Prelude.{None}
use Prim.Native.Nat.{ℕ, ◌+◌, ◌<◌}
use native.Mathlib.Omega.{arith}
use mathlib.Core.Path.{◌≡◌}
use mathlib.Core.Bool.{false, ◌||◌}
use mathlib.Core.List.{List}
use lib.Dec.{eqb, ltb}
use borrow.Author.Tests.{leb-false, eqb-false}
use Rattle.model.specs.declared.Seat.{Seat}
use Rattle.model.specs.declared.Account.{Account}
use Rattle.model.specs.declared.Transfer.{Transfer}
use Rattle.model.specs.Refusals.{first_refusal, unknown_seat, unknown_account, out_of_range, past_number, future_number, transfer_rules, offer_rules, circulated_rules, ack_rules}
use Rattle.laws.proofs.Refusing.{none_holds, next_number_lem}
use Rattle.layout.specs.Layout.{ledger_in, entry_in}
use Rattle.layout.proofs.Ranges.{seats_fit, accounts_fit}

-- an account or a seat that is known has its place
pub account_place : (ws : List ℕ) (a : Account) → unknown_account (ledger_in ws) a ≡ false → a.0 < 32
account_place ws a known = omega (arith, leb-false (ledger_in ws).accounts a.0 known, accounts_fit ws)

pub seat_place : (ws : List ℕ) (s : Seat) → unknown_seat (ledger_in ws) s ≡ false → s.0 < 16
seat_place ws s known = omega (arith, leb-false (ledger_in ws).seats s.0 known, seats_fit ws)

module _ (ws : List ℕ) (t : Transfer) where
  -- the tests of 5, apart
  pub record InRange : Type 0 where
    pub account : t.account.0 < 32
    pub value : 0 < t.value

  pub in_range : out_of_range (ledger_in ws) t ≡ false → InRange
  in_range inside =
      let l = ledger_in ws in
      let below = unknown_account l t.account || unknown_account l t.recipient in
      let above = or_parts (below || eqb t.number 0 || eqb t.value 0) (ltb l.total t.value) inside in
      let value = or_parts (below || eqb t.number 0) (eqb t.value 0) above.0 in
      let number = or_parts below (eqb t.number 0) value.0 in
      let accounts = or_parts (unknown_account l t.account) (unknown_account l t.recipient) number.0 in
      record { account = account_place ws t.account accounts.0; value = omega (arith, eqb-false t.value 0 value.1) }

  -- A slip that 5 to 8 do not refuse: its account has a place, it has a value, and its number is the next.
  pub record Fits : Type 0 where
    pub range : InRange
    pub next : t.number ≡ (entry_in ws t.account).current + 1

  fits_by : out_of_range (ledger_in ws) t ≡ false → past_number (entry_in ws t.account) t ≡ false
      → future_number (entry_in ws t.account) t ≡ false → Fits
  fits_by inside past future =
      record { range = in_range inside; next = next_number_lem (entry_in ws t.account) t past future }

  pub fits : first_refusal (transfer_rules (ledger_in ws) (entry_in ws t.account) t) ≡ None → Fits
  fits passed =
      let fail = none_holds (transfer_rules (ledger_in ws) (entry_in ws t.account) t) passed in
      fits_by fail.0 fail.1.0 fail.1.1.0

  -- the same of what a request or slip meets first, of a slip, and of an ack, whose seat has its place too
  pub offer_fits : first_refusal (offer_rules (ledger_in ws) (entry_in ws t.account) t) ≡ None → Fits
  offer_fits passed =
      let fail = none_holds (offer_rules (ledger_in ws) (entry_in ws t.account) t) passed in
      fits_by fail.0 fail.1.1.0 fail.1.1.1.0

  pub circulated_fits : first_refusal (circulated_rules (ledger_in ws) (entry_in ws t.account) t) ≡ None → Fits
  circulated_fits passed =
      let fail = none_holds (circulated_rules (ledger_in ws) (entry_in ws t.account) t) passed in
      fits_by fail.0 fail.1.1.0 fail.1.1.1.0

  pub ack_fits : (s : Seat) → first_refusal (ack_rules (ledger_in ws) (entry_in ws t.account) s t) ≡ None
      → Fits × (s.0 < 16)
  ack_fits s passed =
      let fail = none_holds (ack_rules (ledger_in ws) (entry_in ws t.account) s t) passed in
      (fits_by fail.1.0 fail.1.1.0 fail.1.1.1.0, seat_place ws s fail.0)
