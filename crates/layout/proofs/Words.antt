-- The words of a ledger are that ledger: the statement is `WordsAre` in specs/Words.antt.
use Rattle.std.specs.Prelude.{Some, None}
use Prim.Native.Nat.{ℕ, zero, suc, ◌+◌, ◌-◌, ◌*◌, ◌/◌, ◌%◌, ◌≤◌, ◌<◌}
use native.Mathlib.Decide.{dec_lt}
use native.Mathlib.Omega.{arith}
use native.Mathlib.Nat.{add-zero, zero-add}
use mathlib.Core.Path.{◌≡◌, refl, ap, sym, ◌∙◌}
use mathlib.Core.Bool.{Bool, true, false}
use mathlib.Core.List.{List, [], ◌∷◌}
use lib.ListN.{length, get_or}
use borrow.Author.Tests.{lt-ltb, le-ltb, le-leb}
use Rattle.model.specs.declared.Account.{Account}
use Rattle.model.specs.declared.Transfer.{Transfer}
use Rattle.model.specs.Types.{Slot, Entry, Ledger}
use Rattle.model.specs.Basics.{bit}
use Rattle.model.specs.Records.{seat_of, account_of, fresh_entry, RetainsNothing, entry_of}
use Rattle.model.specs.Refusals.{ack_from}
use Rattle.layout.specs.Layout.{block_words, held_block_words, Block, block_of, block, held_block, mark, slot_by, ack_in, table_from, entry_by, entries_by, entries_in, ledger_by, ledger_in, held_entries_in, held_in}
use Rattle.layout.proofs.Blocks.{table_at}
use Rattle.layout.proofs.Entries.{slip_by}
use Rattle.layout.specs.Words.{value_word, number_word, recipient_word, entry_word, ledger_word, words_of, ToldBy, EntryTold, LedgerTold, WordsAre, HeldWordsAre}

-- a table of what a list has at its places is that list
table_is : {A : Type 0} (f : ℕ → A) (xs : List A) (i : ℕ) (d : A) → ((k : ℕ) → k < length xs → f (i + k) ≡ get_or xs k d) → table_from f (length xs) i ≡ xs
table_is f [] i d same = refl
table_is f (x ∷ xs) i d same =
    let first : f i ≡ x = ap f (omega arith) ∙ same 0 (omega arith) in
    rw (first, table_is f xs (suc i) d (λ k h. ap f (omega arith) ∙ same (suc k) (omega arith)))

-- a mark's word is that mark
mark_bit : (b : Bool) → mark (bit b) ≡ b
mark_bit true = refl
mark_bit false = refl

-- the words of a slip that its place can tell are that slip
slot_told : (a : Account) (number : ℕ) (p : Slot) → ((t : Transfer) → p ≡ Some t → ToldBy a number t)
    → slot_by a.0 (value_word p) number (recipient_word p) ≡ p
slot_told a number None told = refl
slot_told a number (Some t) told =
    let tells = told t refl in
    rw (← tells.account, ← tells.number) (slip_by t tells.value tells.recipient)

pending_told : (a : Account) (p : Slot) → ((t : Transfer) → p ≡ Some t → ToldBy a t.number t)
    → slot_by a.0 (value_word p) (number_word p) (recipient_word p) ≡ p
pending_told a None told = refl
pending_told a (Some t) told = slot_told a t.number (Some t) (λ u h. let same : t ≡ u = cc in rw (← same) (told t refl))

-- the words of a seat's ack
module _ (e : Entry) (k : ℕ) (seat : k < 16) where
  value_word_lem : entry_word e (7 + k) ≡ value_word (ack_from e (seat_of k))
  value_word_lem =
      let place : 7 + k - 7 ≡ k = omega arith in
      rw (le-ltb (7 + k) 7 (omega arith), lt-ltb (7 + k) 23 (omega arith), place)

  recipient_word_lem : entry_word e (23 + k) ≡ recipient_word (ack_from e (seat_of k))
  recipient_word_lem =
      let place : 23 + k - 23 ≡ k = omega arith in
      rw (le-ltb (23 + k) 7 (omega arith), le-ltb (23 + k) 23 (omega arith), lt-ltb (23 + k) 39 (omega arith), place)

-- a block with an entry's words is that entry
module _ (a : Account) (e : Entry) (w : Block) (told : EntryTold a e) (is : (i : ℕ) → i < block_words → w i ≡ entry_word e i) where
  ack_told : (k : ℕ) → k < 16 → ack_in a.0 w k ≡ get_or e.acks k (record { slot = None })
  ack_told k h =
      rw (is (7 + k) (omega arith), is (23 + k) (omega arith), is 1 (omega arith), value_word_lem e k h, recipient_word_lem e k h)
      (ap (λ (p : Slot). record { slot = p }) (slot_told a (e.current + 1) (ack_from e (seat_of k)) (told.acks (seat_of k))))

  acks_told : table_from (ack_in a.0 w) 16 0 ≡ e.acks
  acks_told =
      ap (λ (n : ℕ). table_from (ack_in a.0 w) n 0) (sym told.acks_size)
      ∙ table_is (ack_in a.0 w) e.acks 0 (record { slot = None })
      (λ k h. ap (ack_in a.0 w) (zero-add k) ∙ ack_told k (omega (arith, told.acks_size)))

  entry_told : entry_by a.0 w ≡ e
  unfolding entry_by
  entry_told =
      let acked : mark (w 2) ≡ e.acked = rw (is 2 (omega arith)) (mark_bit e.acked) in
      let proposed : mark (w 3) ≡ e.proposed = rw (is 3 (omega arith)) (mark_bit e.proposed) in
      let pending : slot_by a.0 (w 4) (w 5) (w 6) ≡ e.pending =
      rw (is 4 (omega arith), is 5 (omega arith), is 6 (omega arith)) (pending_told a e.pending told.pending) in
      let retained : slot_by a.0 (w 39) (w 40) (w 41) ≡ e.retained =
      rw (is 39 (omega arith), is 40 (omega arith), is 41 (omega arith)) (pending_told a e.retained told.retained) in
      let late : mark (w 42) ≡ e.retained_proposed = rw (is 42 (omega arith)) (mark_bit e.retained_proposed) in
      rw (acks_told, is 0 (omega arith), is 1 (omega arith), acked, proposed, pending, retained, late)

-- The words of a ledger, each at its place, with blocks of a width: 43, or 39 in a book held from before.
module _ (width : ℕ) (l : Ledger) where
  word_at : (i : ℕ) → i < 32 * width + 4 → get_or (words_of width l) i 0 ≡ ledger_word width l i
  unfolding words_of
  word_at i h = table_at (ledger_word width l) (32 * width + 4) 0 i 0 h ∙ ap (ledger_word width l) (zero-add i)

  block_word : (a i : ℕ) → i < width → a * width + i < 32 * width → (a * width + i) / width ≡ a → (a * width + i) % width ≡ i
      → block_of width (words_of width l) a i ≡ entry_word (entry_of l (account_of a)) i
  block_word a i inside below payer place =
      rw (
        lt-ltb i width inside,
        word_at (a * width + i) (omega arith),
        lt-ltb (a * width + i) (32 * width) below,
        payer,
        place,
      )

  -- blocks with the words of each entry are the ledger's entries
  entries_told : LedgerTold l → ((a i : ℕ) → a < 32 → i < block_words → block_of width (words_of width l) a i ≡ entry_word (entry_of l (account_of a)) i)
      → entries_by (block_of width (words_of width l)) ≡ l.entries
  entries_told told is =
      ap (λ (n : ℕ). table_from entry n 0) (sym told.size)
      ∙ table_is entry l.entries 0 (fresh_entry 0) (λ k h. ap entry (zero-add k) ∙ at k (omega (arith, told.size)))
    where
      entry : ℕ → Entry
      entry a = entry_by a (block_of width (words_of width l) a)

      at : (a : ℕ) → a < 32 → entry a ≡ entry_of l (account_of a)
      at a h = entry_told (account_of a) (entry_of l (account_of a)) (block_of width (words_of width l) a) (told.each (account_of a)) (λ i. is a i h)

  -- and with the group's words they are the ledger
  ledger_told : LedgerTold l → (entries : List Entry) → entries ≡ l.entries → ledger_by (words_of width l) (32 * width) entries ≡ l
  ledger_told told entries same =
      rw (
        ap (λ (i : ℕ). get_or (words_of width l) i 0) (sym (add-zero (32 * width))) ∙ group_word 0 (omega arith),
        group_word 1 (omega arith),
        group_word 2 (omega arith),
        group_word 3 (omega arith),
        le-leb l.seats 16 told.seats_fit,
        le-leb l.faults 16 told.faults_fit,
        le-leb l.accounts 32 told.accounts_fit,
        same,
      )
    where
      group_word : (k : ℕ) → k < 4 → get_or (words_of width l) (32 * width + k) 0 ≡ get_or (l.seats ∷ l.faults ∷ l.accounts ∷ l.total ∷ []) k 0
      group_word k h =
          let place : 32 * width + k - 32 * width ≡ k = omega arith in
          word_at (32 * width + k) (omega arith) ∙ rw (le-ltb (32 * width + k) (32 * width) (omega arith), place)

pub words_are : WordsAre
unfolding entries_in ledger_in
words_are l told =
    ledger_told block_words l told (entries_by (block (words_of block_words l)))
    (entries_told block_words l told (λ a i account inside. block_word block_words l a i inside (omega arith) (omega arith) (omega arith)))

-- in a book held from before, what stands behind a block is 0, as the words of what is retained are where nothing is
pub held_words_are : HeldWordsAre
unfolding held_entries_in held_in
held_words_are l told none =
    ledger_told held_block_words l told (entries_by (held_block (words_of held_block_words l))) (entries_told held_block_words l told word)
  where
    behind : (e : Entry) → RetainsNothing e → (i : ℕ) → 39 ≤ i → i < block_words → 0 ≡ entry_word e i
    behind e nothing i from inside =
        rw (le-ltb i 7 (omega arith), le-ltb i 23 (omega arith), le-ltb i 39 (omega arith), nothing.0, nothing.1) (zeros (i - 39) (omega arith))
      where
        zeros : (k : ℕ) → k < 4 → 0 ≡ get_or {A = ℕ} (0 ∷ 0 ∷ 0 ∷ 0 ∷ []) k 0
        zeros zero h = refl
        zeros (suc zero) h = refl
        zeros (suc (suc zero)) h = refl
        zeros (suc (suc (suc zero))) h = refl
        zeros (suc (suc (suc (suc k)))) h = absurd (omega arith)

    word : (a i : ℕ) → a < 32 → i < block_words → held_block (words_of held_block_words l) a i ≡ entry_word (entry_of l (account_of a)) i
    word a i account inside = go (dec_lt i held_block_words)
      where
        go : Dec (i < held_block_words) → held_block (words_of held_block_words l) a i ≡ entry_word (entry_of l (account_of a)) i
        go (yes low) = block_word held_block_words l a i low (omega arith) (omega arith) (omega arith)
        go (no high) =
            let past : held_block (words_of held_block_words l) a i ≡ 0 = rw (le-ltb i held_block_words (omega arith)) in
            past ∙ behind (entry_of l (account_of a)) (none (account_of a)) i (omega arith) inside
