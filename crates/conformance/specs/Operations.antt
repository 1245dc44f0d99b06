-- An operation that keeps its contract is a call of a run, at a seat under the newest rules. What a seat holds are
-- words, and the ledger that they are is the run's: under the rules before request 5 they are words of a book held from
-- before, with its layout. The proofs are in proofs/Operations.antt.
use Rattle.std.specs.Prelude.{ℕ, ◌≡◌, Bool, true, false, List, Ok}
use Rattle.laws.specs.Types.{Seat, Ledger, Opening, Refusal, Message, Reply, Refuse, ListReply}
use Rattle.runs.specs.Runs.{Opens, FewBad, Call, message, waiting_list, switch, Event, Run, start, ◌▹◌, at_honest, same_seat, rules_after, rules_at, next_ledger, ledger_at, MayReply, MayList, Conforms, Obeys}
use Rattle.runs.specs.Premises.{Premises}
use Rattle.runs.specs.Claims.{Claim}
use Rattle.runs.specs.Facts.{Facts}
use Rattle.model.specs.Openings.{open_reply, open_ledger}
use Rattle.model.specs.Switches.{Rules, first_rules, since_request3, since_request5, newest, next_rules, switched, step_under}
use Rattle.layout.specs.Layout.{ledger_in, held_in}
use Rattle.ledger.specs.Promises.{Answered, OpenedAs, SwitchedAs, ListedAs}

-- The ledger that a seat's words are under its rules.
abbrev pub ledger_under : Rules → List ℕ → Ledger
ledger_under first_rules words = held_in words
ledger_under since_request3 words = held_in words
ledger_under since_request5 words = ledger_in words

-- A message as an operation answers it under a set of rules, on the words that it is lent: what these rules allow; the
-- ledger after it; and a refusal leaves each word.
pub record Served (v : Rules) (words : List ℕ) (m : Message) (r : Reply) (next : List ℕ) : Type 0 where
  pub replied : MayReply v (ledger_under v words) m r
  pub ledger : ledger_under v next ≡ (step_under v (ledger_under v words) m).next
  pub kept : (code : Refusal) → r ≡ Refuse code → next ≡ words

-- An operation that keeps today's contract is one under the newest rules.
abbrev pub ContractServes : Type 0
ContractServes = (words : List ℕ) (m : Message) (r : Reply) (next : List ℕ) → Answered words m r next → Served newest words m r next

-- A call as an operation makes it: the words that it is lent, with what it was asked and replied, and the words after
-- it. The waiting list is lent the words to read: they stay. A seat that switches "goes on with the book it holds":
-- with words of what its ledger becomes.
abbrev pub Operated : Rules → List ℕ → Call → List ℕ → Type 0
Operated v words (message m r) next = Served v words m r next
Operated v words (waiting_list before r after) next = MayList (ledger_under v words) before r after × (next ≡ words)
Operated v words switch next = ledger_under (next_rules v) next ≡ switched v (ledger_under v words)

-- A waiting list that keeps today's contract is one of those, of a seat under the newest rules.
abbrev pub ContractLists : Type 0
ContractLists =
    (words before : List ℕ) (r : ListReply) (after : List ℕ) → ListedAs (ledger_in words) before r after → Operated newest words (waiting_list before r after) words

-- Taking a held book over, as its contract has it, is the switch from the rules since request 3.
abbrev pub ContractSwitches : Type 0
ContractSwitches = (held next : List ℕ) → SwitchedAs held next → Operated since_request3 held switch next

-- It conforms in a run, and the ledger after it is the run's.
abbrev pub OperatedConforms : Type 0
OperatedConforms =
    (v : Rules) (words : List ℕ) (c : Call) (next : List ℕ)
    → Operated v words c next
    → Conforms v (ledger_under v words) c × (ledger_under (rules_after v c) next ≡ next_ledger v (ledger_under v words) c)

-- What an opening under a set of rules leaves that is not refused.
pub record OpenedUnder (v : Rules) (before : List ℕ) (o : Opening) (after : List ℕ) : Type 0 where
  pub reply : open_reply o ≡ Ok tt
  pub ledger : ledger_under v after ≡ open_ledger o (ledger_under v before)

-- An opening that keeps today's contract is one under the newest rules.
abbrev pub ContractOpens : Type 0
ContractOpens = (before : List ℕ) (o : Opening) (after : List ℕ) → OpenedAs before o (Ok tt) after → OpenedUnder newest before o after

-- "each holds a book just opened from that page": what an opening left that was not refused, under the rules that the
-- seat starts with, whatever a book's words were before it. It is said of every seat; of one that makes no call
-- nothing depends on what it holds.
abbrev pub OpenedAll : Opening → (Seat → Rules) → (Seat → List ℕ) → Type 0
OpenedAll o from held = (s : Seat) → (before : List ℕ) × OpenedUnder (from s) before o (held s)

-- "Each call gets the book that the call before it at that seat left": an operation on the words that its seat holds,
-- under the seat's rules; then the seat holds the words after it. "nobody else writes to a book meanwhile": each
-- other seat holds what it held.
pub record Called (v : Rules) (before : Seat → List ℕ) (e : Event) (after : Seat → List ℕ) : Type 0 where
  pub operated : Operated v (before e.at) e.call (after e.at)
  pub others : (z : Seat) → same_seat e.at z ≡ false → after z ≡ before z

-- A group at work: what its seats hold, and the run of what they did.
abbrev pub Works : Opening → (Seat → List ℕ) → Run → Type 0
Works o held (start from) = OpenedAll o from held
Works o held (run ▹ e) = (before : Seat → List ℕ) × Works o before run × Called (rules_at e.at run) before e held

-- Such a run obeys the definitions, and what the seats hold are the run's ledgers.
pub record ObeysAndHolds (o : Opening) (held : Seat → List ℕ) (run : Run) : Type 0 where
  pub obeys : Obeys o run
  pub ledgers : (s : Seat) → ledger_under (rules_at s run) (held s) ≡ ledger_at o s run

abbrev pub WorksObeys : Type 0
WorksObeys = (o : Opening) (held : Seat → List ℕ) (run : Run) → Works o held run → ObeysAndHolds o held run

-- And every run that obeys is one that such operations could make, on some words. Words are plain numbers here, also
-- such as no 32 bits could hold.
abbrev pub ObeysWorks : Type 0
ObeysWorks = (o : Opening) (run : Run) → Opens o → Obeys o run → (held : Seat → List ℕ) × Works o held run

-- So demand 3, under its premises, and what holds of every run, hold of what groups at work do.
abbrev pub WorksDemand3 : Type 0
WorksDemand3 =
    (o : Opening) (bad : Seat → Bool) (held : Seat → List ℕ) (run : Run)
    → Opens o → FewBad o bad → at_honest o bad run ≡ true → Works o held run → Premises o bad run → Claim o bad run

abbrev pub WorksFacts : Type 0
WorksFacts = (o : Opening) (held : Seat → List ℕ) (run : Run) → Opens o → Works o held run → Facts o run
