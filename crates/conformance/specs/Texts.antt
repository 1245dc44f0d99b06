-- The lines of a text that `daybook` writes are a run at one seat. The proofs are in
-- proofs/Texts.antt and proofs/Reading.antt.
use Rattle.std.specs.Prelude.{ℕ, zero, suc, ◌-◌, ◌<◌, ◌≡◌, List, [], ◌∷◌, ◌++◌, map, length, get_or, Some, Ok}
use Rattle.model.specs.Bundles.{entry_count, page_at, message_of, check_bundle}
use Rattle.model.specs.Basics.{sum_of}
use Rattle.model.specs.Switches.{newest}
use Rattle.laws.specs.Types.{Seat, Account, Opening, Message, Inquiry, Reply, Balance, ListReply}
use Rattle.runs.specs.Runs.{message, waiting_list, Event, Run, start, ◌▹◌, ledger_at, Obeys}
use Rattle.runs.specs.Slates.{slate_at}
use Rattle.runs.specs.Facts.{count_of, Facts}
use Rattle.text.specs.Lines.{reply_line}
use Rattle.replay.specs.Text.{Row, row_lines, rows_of, opening_page, opened, text_of}
use Rattle.replay.specs.Lists.{ListOf}

-- a message with its reply, and the call that it is at a seat
pub record Exchange : Type 0 where
  pub asked : Message
  pub reply : Reply

abbrev pub event_of : Seat → Exchange → Event
event_of s x = record { at = s; call = message x.asked x.reply }

-- the run that goes on with these exchanges at one seat, in their order; and the run of nothing else, with every seat
-- under the newest rules from the start
abbrev pub run_from : Seat → Run → List Exchange → Run
run_from s run [] = run
run_from s run (x ∷ xs) = run_from s (run ▹ event_of s x) xs

abbrev pub begins : Run
begins = start (λ s. newest)

abbrev pub run_of : Seat → List Exchange → Run
run_of s xs = run_from s begins xs

-- these exchanges have the messages of the `left` entries from i on, one for each
abbrev pub AskedFrom : List ℕ → ℕ → ℕ → List Exchange → Type 0
AskedFrom bytes zero i [] = Unit {0}
AskedFrom bytes zero i (x ∷ xs) = ⊥
AskedFrom bytes (suc left) i [] = ⊥
AskedFrom bytes (suc left) i (x ∷ xs) = (message_of (page_at bytes i) ≡ Some x.asked) × AskedFrom bytes left (suc i) xs

-- A run of a bundle at seat s: each entry from 1 is one of its calls, and no other is; and
-- it obeys, by the newest rules.
pub record RunOfBundle (bytes : List ℕ) (s : Seat) (xs : List Exchange) : Type 0 where
  pub asked : AskedFrom bytes (entry_count bytes - 1) 1 xs
  pub obeys : Obeys (opening_page bytes) (run_of s xs)

-- the lines of these replies, the first of which is entry i's
abbrev pub reply_lines : ℕ → List Exchange → List ℕ
reply_lines i [] = []
reply_lines i (x ∷ xs) = reply_line i x.reply ++ reply_lines (suc i) xs

-- the rows of its last ledger
abbrev pub last_rows : Opening → Seat → List Exchange → List Row
last_rows o s xs = rows_of (ledger_at o s (run_of s xs))

-- the text of such a run: the lines of its replies, and the closing lines of its last ledger
abbrev pub text_of_run : List ℕ → Seat → List Exchange → List ℕ
text_of_run bytes s xs = reply_lines 1 xs ++ row_lines 0 (last_rows (opening_page bytes) s xs)

-- A text is read in one way: replies and rows that have the same lines are the same, however many there
-- are and whatever their numbers.
abbrev pub OneReading : Type 0
OneReading =
    (xs ys : List Exchange) (rows others : List Row)
    → reply_lines 1 xs ++ row_lines 0 rows ≡ reply_lines 1 ys ++ row_lines 0 others
    → (map (λ x. x.reply) xs ≡ map (λ y. y.reply) ys) × (rows ≡ others)

-- behind the last row
abbrev pub no_row : Row
no_row = record { balance = 0; current = 0 }

-- What the replies of a run at one seat, and the rows of its last ledger, tell of one another and of the
-- slate that is fed these calls.
pub record Accounted (o : Opening) (s : Seat) (xs : List Exchange) (rows : List Row) : Type 0 where
  -- there is a row for each of the k accounts
  pub row_each : length rows ≡ o.accounts
  -- the balances add up to the opening sum
  pub balances_sum : sum_of (λ row. row.balance) rows ≡ sum_of (λ b. b) o.balances
  -- the current numbers add up to the counts of all K
  pub currents_sum : sum_of (λ row. row.current) rows ≡ sum_of (λ x. count_of x.reply) xs
  -- each row is the slate's balance and count
  pub slate_rows : (a : Account) → a.0 < o.accounts
      → get_or rows a.0 no_row ≡ record { balance = (slate_at o s (run_of s xs)).balance a; current = (slate_at o s (run_of s xs)).count a }
  -- "the balance in each reply B is the slate's for that account", as it was before that line
  pub told : (before after : List Exchange) (a : Account) (b : ℕ)
      → xs ≡ before ++ record { asked = Inquiry a; reply = Balance b } ∷ after → b ≡ (slate_at o s (run_of s before)).balance a

-- What a text tells its reader: it is the text of a run of the bundle, of which all is true that is true of every run;
-- and its replies and rows, the only ones that have its lines (`OneReading`), account for one another.
pub record TellsReader (bytes text : List ℕ) (s : Seat) : Type 0 where
  pub exchanges : List Exchange
  pub run : RunOfBundle bytes s exchanges
  pub lines : text ≡ text_of_run bytes s exchanges
  pub facts : Facts (opening_page bytes) (run_of s exchanges)
  pub accounted : Accounted (opening_page bytes) s exchanges (last_rows (opening_page bytes) s exchanges)

-- The text of each bundle that is sound and opens tells this, whichever seat is taken for the one that it is of.
abbrev pub EveryText : Type 0
EveryText = (bytes : List ℕ) (m : ℕ) (s : Seat) → check_bundle bytes ≡ Ok m → opened bytes ≡ Ok tt → TellsReader bytes (text_of bytes) s

-- And every run of such a bundle has its text.
abbrev pub EveryRun : Type 0
EveryRun =
    (bytes : List ℕ) (m : ℕ) (s : Seat) (xs : List Exchange)
    → check_bundle bytes ≡ Ok m → opened bytes ≡ Ok tt → RunOfBundle bytes s xs → text_of bytes ≡ text_of_run bytes s xs

-- The waiting list that a host asks for behind the last entry is one more call of such a run.
abbrev pub EveryList : Type 0
EveryList =
    (bytes : List ℕ) (m : ℕ) (s : Seat) (xs : List Exchange) (before : List ℕ) (reply : ListReply) (after : List ℕ)
    → check_bundle bytes ≡ Ok m → opened bytes ≡ Ok tt → RunOfBundle bytes s xs → ListOf bytes before reply after
    → Obeys (opening_page bytes) (run_of s xs ▹ record { at = s; call = waiting_list before reply after })
