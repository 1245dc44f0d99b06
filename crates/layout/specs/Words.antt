-- The words of a ledger: for every ledger whose stored slips are as their places tell, words that are this ledger. The
-- proof is in proofs/Words.antt.
use Rattle.std.specs.Prelude.{ℕ, ◌+◌, ◌-◌, ◌*◌, ◌/◌, ◌%◌, ◌≤◌, ◌<◌, ◌≡◌, cond, List, [], ◌∷◌, ltb, length, get_or, Some, None}
use Rattle.model.specs.declared.Seat.{Seat}
use Rattle.model.specs.declared.Account.{Account}
use Rattle.model.specs.declared.Transfer.{Transfer}
use Rattle.model.specs.Types.{Slot, Entry, Ledger}
use Rattle.model.specs.Basics.{bit}
use Rattle.model.specs.Records.{seat_of, account_of, RetainsNothing, entry_of}
use Rattle.model.specs.Refusals.{ack_from}
use Rattle.layout.specs.Layout.{block_words, held_block_words, ack_values_place, ack_recipients_place, retained_value_place, table_from, ledger_in, held_in}

-- a slip's value, number and recipient as words, 0 where there is none
abbrev pub value_word : Slot → ℕ
value_word None = 0
value_word (Some t) = t.value

abbrev pub number_word : Slot → ℕ
number_word None = 0
number_word (Some t) = t.number

abbrev pub recipient_word : Slot → ℕ
recipient_word None = 0
recipient_word (Some t) = t.recipient.0

-- the words of an account's block: those before the acks, in the order of their places; then the values of the 16
-- seats' acks, and their recipients; then those of what is retained
abbrev pub first_words : Entry → List ℕ
first_words e =
    e.balance
    ∷ e.current
    ∷ bit e.acked
    ∷ bit e.proposed
    ∷ value_word e.pending
    ∷ number_word e.pending
    ∷ recipient_word e.pending
    ∷ []

abbrev pub last_words : Entry → List ℕ
last_words e =
    value_word e.retained ∷ number_word e.retained ∷ recipient_word e.retained ∷ bit e.retained_proposed ∷ []

abbrev pub entry_word : Entry → ℕ → ℕ
entry_word e i =
    cond (ltb i ack_values_place) (get_or (first_words e) i 0)
    (cond (ltb i ack_recipients_place) (value_word (ack_from e (seat_of (i - ack_values_place))))
    (cond (ltb i retained_value_place) (recipient_word (ack_from e (seat_of (i - ack_recipients_place)))) (get_or (last_words e) (i - retained_value_place) 0)))

-- a word of the ledger, with blocks of this width: those of the blocks, then the group's
abbrev pub ledger_word : ℕ → Ledger → ℕ → ℕ
ledger_word width l i =
    cond (ltb i (32 * width)) (entry_word (entry_of l (account_of (i / width))) (i % width))
    (get_or (l.seats ∷ l.faults ∷ l.accounts ∷ l.total ∷ []) (i - 32 * width) 0)

unfoldable pub words_of : ℕ → Ledger → List ℕ
words_of width l = table_from (ledger_word width l) (32 * width + 4) 0

-- A place can tell its slip: it is of this account and number, has a value, and its recipient's number is a byte.
pub record ToldBy (a : Account) (n : ℕ) (t : Transfer) : Type 0 where
  pub account : t.account ≡ a
  pub number : t.number ≡ n
  pub value : 0 < t.value
  pub recipient : t.recipient.0 < 256

-- The places of an account's entry can tell what stands in them.
pub record EntryTold (a : Account) (e : Entry) : Type 0 where
  pub acks_size : length e.acks ≡ 16
  pub acks : (s : Seat) (t : Transfer) → ack_from e s ≡ Some t → ToldBy a (e.current + 1) t
  pub pending : (t : Transfer) → e.pending ≡ Some t → ToldBy a t.number t
  pub retained : (t : Transfer) → e.retained ≡ Some t → ToldBy a t.number t

pub record LedgerTold (l : Ledger) : Type 0 where
  pub seats_fit : l.seats ≤ 16
  pub faults_fit : l.faults ≤ 16
  pub accounts_fit : l.accounts ≤ 32
  pub size : length l.entries ≡ 32
  pub each : (a : Account) → EntryTold a (entry_of l a)

-- The words of such a ledger are that ledger.
abbrev pub WordsAre : Type 0
WordsAre = (l : Ledger) → LedgerTold l → ledger_in (words_of block_words l) ≡ l

-- So are, in a book held from before request 5, the words of such a ledger that retains nothing.
abbrev pub HeldWordsAre : Type 0
HeldWordsAre = (l : Ledger) → LedgerTold l → ((a : Account) → RetainsNothing (entry_of l a)) → held_in (words_of held_block_words l) ≡ l
