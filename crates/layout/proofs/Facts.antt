-- Worked facts, computed: the words that are all 0, and one book written out.
use Rattle.std.specs.Prelude.{Some, None}
use Prim.Native.Nat.{ℕ, ◌*◌, ◌-◌}
use mathlib.Core.Path.{◌≡◌, refl}
use mathlib.Core.Bool.{true, false}
use mathlib.Core.List.{List, [], ◌∷◌, ◌++◌}
use lib.ListN.{length, set, replicate}
use Rattle.model.specs.declared.Message.{Message}
use Rattle.model.specs.declared.Refusal.{Refusal}
use Rattle.model.specs.Types.{Slot, Entry, Ledger}
use Rattle.model.specs.Records.{account_of, no_acks, no_ledger, with_none_retained, entry_of}
use Rattle.model.specs.Switches.{since_request3, switched}
use Rattle.model.specs.Calls.{step}
use Rattle.laws.proofs.Refusing.{refusal, no_ledger_refuses}
use Rattle.layout.specs.Layout.{book_words, held_book_words, slot_by, entry_by, entries_in, ledger_in, held_entries_in, held_in}

-- words that are all 0 are the ledger with nothing in it, which refuses every message
pub zeros : ledger_in (replicate book_words 0) ≡ no_ledger
unfolding no_acks entry_by entries_in ledger_in
zeros = refl

pub zeros_refuse : (m : Message) → (r : Refusal) × (step (ledger_in (replicate book_words 0)) m ≡ refusal r (ledger_in (replicate book_words 0)))
zeros_refuse m = rw zeros (no_ledger_refuses m)

-- Account 0 was acked, has the ack of seat 15, and retains a slip, of any number, for which one was put forward; for
-- account 1 a slip was put forward, and one waits; account 31 has a balance. A number or a recipient where the value
-- is 0 means nothing, and a mark is any word but 0. What is retained stands at the end of each block, so it is left
-- out in a book held from before.
abbrev book_with : List ℕ → List ℕ → ℕ → ℕ → ℕ → ℕ → List ℕ
book_with first second width n f k =
    7 ∷ 2 ∷ 1 ∷ 0 ∷ 0 ∷ 6 ∷ 8 ∷ set (replicate 16 0) 15 5 ++ set (replicate 16 0) 15 1 ++ first
    ++ 9 ∷ 4 ∷ 0 ∷ 2 ∷ 12 ∷ 5 ∷ 31 ∷ replicate 16 0 ++ set (replicate 16 0) 0 3 ++ second
    ++ replicate (29 * width) 0
    ++ 3 ∷ replicate (width - 1) 0
    ++ n ∷ f ∷ k ∷ 19 ∷ []

abbrev book : ℕ → ℕ → ℕ → List ℕ
book = book_with (4 ∷ 9 ∷ 258 ∷ 7 ∷ []) (0 ∷ 4 ∷ 1 ∷ 0 ∷ []) 43

abbrev held_book : ℕ → ℕ → ℕ → List ℕ
held_book = book_with [] [] 39

abbrev ledger : ℕ → ℕ → ℕ → Ledger
ledger n f k = ledger_in (book n f k)

abbrev entry : ℕ → Entry
entry a = entry_of (ledger 6 1 2) (account_of a)

abbrev slip_of : ℕ → ℕ → ℕ → ℕ → Slot
slip_of a number value recipient = Some (record { account = account_of a; number = number; value = value; recipient = account_of recipient })

size : (length (book 6 1 2) ≡ book_words) × (length (held_book 6 1 2) ≡ held_book_words)
size = (refl, refl)

-- n, f, k and the opening sum: read as they are at the ends of their ranges, and as 0 outside them
numbers : ((ledger 16 16 32).seats ≡ 16) × ((ledger 16 16 32).faults ≡ 16) × ((ledger 16 16 32).accounts ≡ 32) × ((ledger 16 16 32).total ≡ 19)
unfolding ledger_in
numbers = (refl, refl, refl, refl)

out_of_range_lem : ((ledger 17 17 33).seats ≡ 0) × ((ledger 17 17 33).faults ≡ 0) × ((ledger 17 17 33).accounts ≡ 0)
unfolding ledger_in
out_of_range_lem = (refl, refl, refl)

balances : ((entry 0).balance ≡ 7) × ((entry 1).balance ≡ 9) × ((entry 2).balance ≡ 0) × ((entry 31).balance ≡ 3)
unfolding entry_by entries_in ledger_in
balances = (refl, refl, refl, refl)

currents : ((entry 0).current ≡ 2) × ((entry 1).current ≡ 4) × ((entry 31).current ≡ 0)
unfolding entry_by entries_in ledger_in
currents = (refl, refl, refl)

marks : ((entry 0).acked ≡ true) × ((entry 0).proposed ≡ false) × ((entry 1).acked ≡ false) × ((entry 1).proposed ≡ true)
unfolding entry_by entries_in ledger_in
marks = (refl, refl, refl, refl)

waiting : ((entry 0).pending ≡ None) × ((entry 1).pending ≡ slip_of 1 5 12 31)
unfolding entry_by entries_in ledger_in
waiting = (refl, refl)

acks : ((entry 0).acks ≡ set no_acks 15 (record { slot = slip_of 0 3 5 1 })) × ((entry 1).acks ≡ no_acks)
unfolding no_acks entry_by entries_in ledger_in
acks = (refl, refl)

retained : ((entry 0).retained ≡ slip_of 0 9 4 2) × ((entry 0).retained_proposed ≡ true) × ((entry 1).retained ≡ None) × ((entry 1).retained_proposed ≡ false)
unfolding entry_by entries_in ledger_in
retained = (refl, refl, refl, refl)

-- the same in a book held from before request 5: what is not retained is as it was
abbrev held : ℕ → ℕ → ℕ → Ledger
held n f k = held_in (held_book n f k)

held_numbers : ((held 16 16 32).seats ≡ 16) × ((held 16 16 32).faults ≡ 16) × ((held 16 16 32).accounts ≡ 32) × ((held 16 16 32).total ≡ 19) × ((held 17 17 33).seats ≡ 0) × ((held 17 17 33).accounts ≡ 0)
unfolding held_in
held_numbers = (refl, refl, refl, refl, refl, refl)

held_entries :
    (entry_of (held 6 1 2) (account_of 0) ≡ with_none_retained (entry 0))
    × (entry_of (held 6 1 2) (account_of 1) ≡ with_none_retained (entry 1))
    × (entry_of (held 6 1 2) (account_of 31) ≡ entry 31)
unfolding no_acks entry_by entries_in ledger_in held_entries_in held_in
held_entries = (refl, refl, refl)

-- and what it becomes at the switch: account 0, at which nothing waits, retains nothing; account 1
-- retains what waits, with its mark
taken_over_lem :
    ((entry_of (switched since_request3 (held 6 1 2)) (account_of 0)).retained ≡ None)
    × ((entry_of (switched since_request3 (held 6 1 2)) (account_of 1)).retained ≡ slip_of 1 5 12 31)
    × ((entry_of (switched since_request3 (held 6 1 2)) (account_of 1)).retained_proposed ≡ true)
    × ((entry_of (switched since_request3 (held 6 1 2)) (account_of 1)).pending ≡ slip_of 1 5 12 31)
unfolding no_acks entry_by held_entries_in held_in
taken_over_lem = (refl, refl, refl, refl)

-- a recipient is a byte
bytes : slot_by 0 5 3 257 ≡ slip_of 0 3 5 1
bytes = refl
