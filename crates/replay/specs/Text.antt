-- Document 01, "The program `daybook`": the whole text that it writes for a bundle, as a list of bytes.
use Rattle.std.specs.Prelude.{ℕ, zero, suc, ◌-◌, List, [], ◌∷◌, ◌++◌, Option, Some, None, Err, Ok}
use Rattle.model.specs.Types.{Entry, Ledger}
use Rattle.model.specs.declared.Message.{Message}
use Rattle.model.specs.declared.Opening.{Opening}
use Rattle.model.specs.Types.{OpenReply}
use Rattle.model.specs.Types.{BundleReply}
use Rattle.model.specs.Records.{account_of, entry_of, fresh_ledger}
use Rattle.model.specs.Replies.{code_of}
use Rattle.model.specs.Openings.{open_reply}
use Rattle.model.specs.Calls.{step}
use Rattle.model.specs.Bundles.{page_at, message_of, opening_of, check_bundle}
use Rattle.layout.specs.Layout.{table_from}
use Rattle.text.specs.Lines.{refusal_line, reply_line, account_line}

-- "one line per entry from 1: entry, reply letter, and what it carries". A page with no message, which no sound bundle
-- has behind page 0, adds nothing.
abbrev pub entry_line : ℕ → Ledger → Option Message → List ℕ
entry_line i l None = []
entry_line i l (Some m) = reply_line i (step l m).reply

-- the ledger after the entry
abbrev pub ledger_after : Ledger → Option Message → Ledger
ledger_after l None = l
ledger_after l (Some m) = (step l m).next

-- the ledger after the `left` entries from i on
abbrev pub ledger_from : List ℕ → ℕ → ℕ → Ledger → Ledger
ledger_from bytes zero i l = l
ledger_from bytes (suc left) i l = ledger_from bytes left (suc i) (ledger_after l (message_of (page_at bytes i)))

-- what a closing line tells of its account
pub record Row : Type 0 where
  pub balance : ℕ
  pub current : ℕ

-- "then per account `= account balance current`": the lines of these rows, the first of which is account a's
abbrev pub row_lines : ℕ → List Row → List ℕ
row_lines a [] = []
row_lines a (row ∷ rows) = account_line a row.balance row.current ++ row_lines (suc a) rows

-- the rows of a ledger, one for each of its k accounts
abbrev pub row_of : Entry → Row
row_of e = record { balance = e.balance; current = e.current }

abbrev pub rows_of : Ledger → List Row
rows_of l = table_from (λ a. row_of (entry_of l (account_of a))) l.accounts 0

abbrev pub closing : Ledger → List ℕ
closing l = row_lines 0 (rows_of l)

-- the lines of the `left` entries from i on
abbrev pub lines_from : List ℕ → ℕ → ℕ → Ledger → List ℕ
lines_from bytes zero i l = []
lines_from bytes (suc left) i l =
    let asked = message_of (page_at bytes i) in
    entry_line i l asked ++ lines_from bytes left (suc i) (ledger_after l asked)

-- the lines of the `left` entries from 1 on, then the closing lines of the ledger that they leave
abbrev pub played_text : List ℕ → ℕ → Ledger → List ℕ
played_text bytes left l = lines_from bytes left 1 l ++ closing (ledger_from bytes left 1 l)

-- "page 0 is the opening page"
abbrev pub opening_page : List ℕ → Opening
opening_page bytes = opening_of (page_at bytes 0).body

-- what it is answered
abbrev pub opened : List ℕ → OpenReply
opened bytes = open_reply (opening_page bytes)

-- the text of an opening's answer. "`F code entry` for a bundle or opening that is refused
-- (entry 0 for codes 1, 2, 3 ..)"
abbrev pub opened_text : List ℕ → ℕ → OpenReply → List ℕ
opened_text bytes m (Err r) = refusal_line (code_of r) 0
opened_text bytes m (Ok u) = played_text bytes (m - 1) (fresh_ledger (opening_page bytes))

-- the text of the check's answer: nothing is opened before the whole bundle is checked
abbrev pub checked_text : List ℕ → BundleReply → List ℕ
checked_text bytes (Err e) = refusal_line (code_of e.refusal) e.entry
checked_text bytes (Ok m) = opened_text bytes m (opened bytes)

-- what `daybook` writes for these bytes
abbrev pub text_of : List ℕ → List ℕ
text_of bytes = checked_text bytes (check_bundle bytes)
