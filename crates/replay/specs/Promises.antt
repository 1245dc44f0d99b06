-- What replaying promises.
use Rattle.std.specs.Prelude.{ℕ, ◌+◌, ◌-◌, ◌*◌, ◌≤◌, ◌<◌, ◌≡◌, List, ◌++◌, length, take, drop, Result, Ok, Err}
use Rattle.model.specs.Bundles.{entry_count, check_bundle}
use Rattle.model.specs.Types.{OpenReply, BundleReply}
use Rattle.model.specs.declared.BundleError.{BundleError}
use Rattle.model.specs.Records.{fresh_ledger}
use Rattle.basics.specs.declared.output.Output.{Output}
use Rattle.basics.specs.Outputs.{Appends}
use Rattle.layout.specs.Layout.{ledger_in}
use Rattle.bundle.specs.Promises.{longest}
use Rattle.replay.specs.Text.{ledger_from, lines_from, text_of, opening_page, opened}

-- How long a text can be. The longest line of an entry is that of P: the entry in 3 digits, the letter, account and
-- recipient in 3 digits each, number and value in 10 each, their spaces and the end of the line: 36 bytes, for 999
-- entries. The line of an account has 27, for 32.
abbrev pub lines_most : ℕ
lines_most = 36 * 999

abbrev pub closing_most : ℕ
closing_most = 27 * 32

abbrev pub text_most : ℕ
text_most = lines_most + closing_most

-- The whole of it: the buffer's front is this text, what stands behind it is as it was, and the reply is the text's
-- length. The text fits, whatever the bytes are.
pub record Replayed (text before after : List ℕ) (r : ℕ) : Type 0 where
  pub front : after ≡ text ++ drop (length text) before
  pub size : r ≡ length text
  pub fits : length text ≤ length before

-- The whole of it for what was read of an input: the text of what was read, and of every input that leaves these bytes
-- in the buffer, as many of its first bytes as there is room for, or the whole of it if it is shorter. A count above
-- the buffer's size counts as that size.
pub record ReplayedInput (input : List ℕ) (read : ℕ) (before after : List ℕ) (r : ℕ) : Type 0 where
  pub replayed : Replayed (text_of (take read input)) before after r
  pub whole : (bytes : List ℕ) → take (length input) bytes ≡ take read input → text_of bytes ≡ text_of (take read input)

-- Of an input, one byte more than the longest bundle has is enough: its first n bytes have the text of the whole.
abbrev pub SameText : Type 0
SameText = (n : ℕ) → longest < n → (bytes : List ℕ) → text_of (take n bytes) ≡ text_of bytes

-- All entries from 1 on: their lines are put out, and the words are the ledger that is left, whose closing lines are
-- still to come.
pub record PlayedAll (bytes words left : List ℕ) (before after : Output) : Type 0 where
  pub ledger : ledger_in left ≡ ledger_from bytes (entry_count bytes - 1) 1 (ledger_in words)
  pub writes : Appends before (lines_from bytes (entry_count bytes - 1) 1 (ledger_in words)) lines_most after

-- the refusal that keeps a bundle's page 0 from opening a book: the bundle's, or the opening's, which names entry 0
abbrev pub opened_by : BundleReply → OpenReply → Result (Unit {0}) BundleError
opened_by (Err e) o = Err e
opened_by (Ok m) (Err r) = Err (record { refusal = r; entry = 0 })
opened_by (Ok m) (Ok u) = Ok tt

-- A bundle's page 0 opens a book in these words, a fresh one, whatever they were; or it meets that refusal, and not one
-- of the words changes.
pub record OpensBook (bytes before : List ℕ) (r : Result (Unit {0}) BundleError) (after : List ℕ) : Type 0 where
  pub meets : r ≡ opened_by (check_bundle bytes) (opened bytes)
  pub fresh : r ≡ Ok tt → ledger_in after ≡ fresh_ledger (opening_page bytes)
  pub kept : (e : BundleError) → r ≡ Err e → after ≡ before
