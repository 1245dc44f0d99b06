-- The book as words: the ledger that they are, for every content of them. Words that are all 0 are a ledger
-- with no seats and no accounts, which refuses every message. What a place tells is not stored again: an ack
-- stands in its account's block, and its number is that account's next; a slip that was taken never has
-- value 0, so a value of 0 is an empty place.
use Rattle.std.specs.Prelude.{ℕ, zero, suc, ◌+◌, ◌*◌, ◌%◌, Bool, not, cond, List, [], ◌∷◌, eqb, leb, ltb, get_or, Some, None}
use Rattle.model.specs.Types.{Slot, AckSlot, Entry, Ledger}
use Rattle.model.specs.declared.Account.{Account}
use Rattle.model.specs.Records.{account_of, entry_of}

-- The layout, by the names of the constants in src/lib.rt. Each of the 32 accounts has a block of so many words;
abbrev pub block_words : ℕ
block_words = 43

-- in it stand the balance and the current number,
abbrev pub balance_place : ℕ
balance_place = 0

abbrev pub current_place : ℕ
current_place = 1

-- the marks that this seat has acked the next number, and that a slip was put forward for it,
abbrev pub acked_place : ℕ
acked_place = 2

abbrev pub proposed_place : ℕ
proposed_place = 3

-- the accepted slip that waits,
abbrev pub pending_value_place : ℕ
pending_value_place = 4

abbrev pub pending_number_place : ℕ
pending_number_place = 5

abbrev pub pending_recipient_place : ℕ
pending_recipient_place = 6

-- the acks of 16 seats for the next number: all values, then all recipients,
abbrev pub ack_values_place : ℕ
ack_values_place = 7

abbrev pub ack_recipients_place : ℕ
ack_recipients_place = 23

-- and the retained slip, with the mark that a slip was put forward for its number.
abbrev pub retained_value_place : ℕ
retained_value_place = 39

abbrev pub retained_number_place : ℕ
retained_number_place = 40

abbrev pub retained_recipient_place : ℕ
retained_recipient_place = 41

abbrev pub retained_proposed_place : ℕ
retained_proposed_place = 42

-- Behind the blocks stand n, f, k and the opening sum.
abbrev pub group_place : ℕ
group_place = 32 * block_words

-- how many words a book has
abbrev pub book_words : ℕ
book_words = group_place + 4

-- A book held from before request 5 has blocks that end before the retained slip, and the rest at the same places.
abbrev pub held_block_words : ℕ
held_block_words = retained_value_place

abbrev pub held_group_place : ℕ
held_group_place = 32 * held_block_words

abbrev pub held_book_words : ℕ
held_book_words = held_group_place + 4

-- an account's block: its words by their places, and 0 behind the last
abbrev pub Block : Type 0
Block = ℕ → ℕ

-- the block of an account in words with blocks of this width
abbrev pub block_of : ℕ → List ℕ → ℕ → Block
block_of width ws a i = cond (ltb i width) (get_or ws (a * width + i) 0) 0

abbrev pub block : List ℕ → ℕ → Block
block ws a = block_of block_words ws a

abbrev pub held_block : List ℕ → ℕ → Block
held_block ws a = block_of held_block_words ws a

-- a block as it is read: behind the last account zeros
abbrev pub as_read : ℕ → Block → Block
as_read a w i = cond (ltb a 32) (w i) 0

-- a mark is any word but 0
abbrev pub mark : ℕ → Bool
mark word = not (eqb word 0)

-- a place with the words of a slip's value, number and recipient, in the block of the account that
-- pays. An account's number is a byte
abbrev pub slot_by : ℕ → ℕ → ℕ → ℕ → Slot
slot_by a value number recipient =
    cond (eqb value 0) None (Some (record { account = account_of a; number = number; value = value; recipient = account_of (recipient % 256) }))

-- the ack of a seat: its account is the block's, and its number the next
abbrev pub ack_in : ℕ → Block → ℕ → AckSlot
ack_in a w s = record { slot = slot_by a (w (ack_values_place + s)) (w current_place + 1) (w (ack_recipients_place + s)) }

-- the list of what a function gives for `left` numbers from i on
abbrev pub table_from : {A : Type 0} → (ℕ → A) → ℕ → ℕ → List A
table_from f zero i = []
table_from f (suc left) i = f i ∷ table_from f left (suc i)

-- the entry that an account's block is
unfoldable pub entry_by : ℕ → Block → Entry
entry_by a w =
    record {
      balance = w balance_place;
      current = w current_place;
      acked = mark (w acked_place);
      acks = table_from (ack_in a w) 16 0;
      proposed = mark (w proposed_place);
      pending = slot_by a (w pending_value_place) (w pending_number_place) (w pending_recipient_place);
      retained = slot_by a (w retained_value_place) (w retained_number_place) (w retained_recipient_place);
      retained_proposed = mark (w retained_proposed_place);
    }

-- the entries of the 32 accounts, given their blocks
abbrev pub entries_by : (ℕ → Block) → List Entry
entries_by blocks = table_from (λ a. entry_by a (blocks a)) 32 0

unfoldable pub entries_in : List ℕ → List Entry
entries_in ws = entries_by (block ws)

-- a number that is at most the limit; any other is read as 0
abbrev pub up_to : ℕ → ℕ → ℕ
up_to limit word = cond (leb word limit) word 0

-- the ledger with these entries, and n, f, k and the opening sum from this place on
abbrev pub ledger_by : List ℕ → ℕ → List Entry → Ledger
ledger_by ws from entries =
    record {
      seats = up_to 16 (get_or ws from 0);
      faults = up_to 16 (get_or ws (from + 1) 0);
      accounts = up_to 32 (get_or ws (from + 2) 0);
      total = get_or ws (from + 3) 0;
      entries = entries;
    }

-- The ledger that words are.
unfoldable pub ledger_in : List ℕ → Ledger
ledger_in ws = ledger_by ws group_place (entries_in ws)

-- its entry for an account
abbrev pub entry_in : List ℕ → Account → Entry
entry_in ws a = entry_of (ledger_in ws) a

-- The ledger that the words of a book are that is held from before request 5: nothing is retained in it.
unfoldable pub held_entries_in : List ℕ → List Entry
held_entries_in ws = entries_by (held_block ws)

unfoldable pub held_in : List ℕ → Ledger
held_in ws = ledger_by ws held_group_place (held_entries_in ws)
