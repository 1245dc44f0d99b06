-- What the opening, the switch and the waiting list promise, by the documents' definitions in the model, of the ledger
-- that the words are: for every content of the words and every argument the reply, the ledger after it and each lent
-- buffer. What a message promises is `Answered`, of crate calls. "Each enum answer has a definition that gives this
-- paper's number and values for each of its cases. The promises use that definition": the fields `told`.
use Rattle.std.specs.Prelude.{ℕ, ◌≡◌, List, [], ◌∷◌, length, Option, Some, None}
use Rattle.model.specs.Types.{Ledger, OpenReply, ListReply}
use Rattle.model.specs.declared.Opening.{Opening}
use Rattle.model.specs.declared.Refusal.{Refusal}
use Rattle.model.specs.Refusals.{first_refusal, list_refusal}
use Rattle.model.specs.Replies.{code_of, values_of_open, values_of_list}
use Rattle.model.specs.Openings.{open_rules}
use Rattle.model.specs.Calls.{waiting_accounts, ListsBy}
use Rattle.model.specs.Switches.{since_request3, switched}
use Rattle.layout.specs.Layout.{ledger_in, held_in}
use Rattle.opening.specs.Promises.{Opens}
pub use Rattle.calls.specs.Promises.{Answered}

-- the code of a refusal, 0 where there is none
abbrev pub code_if_any : Option Refusal → ℕ
code_if_any None = 0
code_if_any (Some r) = code_of r

-- An opening: the reply and the ledger.
pub record OpenedAs (before : List ℕ) (page : Opening) (r : OpenReply) (after : List ℕ) : Type 0 where
  pub opens : Opens before page r after
  pub told : values_of_open r ≡ code_if_any (first_refusal (open_rules page)) ∷ []

-- The switch of a book held from before request 5: what the ledger that it is becomes.
pub record SwitchedAs (held after : List ℕ) : Type 0 where
  pub ledger : ledger_in after ≡ switched since_request3 (held_in held)

-- the code and the count of a list of so many accounts
abbrev pub list_values : Option Refusal → ℕ → List ℕ
list_values None count = 0 ∷ count ∷ []
list_values (Some r) count = code_of r ∷ []

-- A list of these accounts: the reply, given the refusal that it meets, if any, and the buffer after
-- it, given the buffer before it.
pub record ListedBy (q : Option Refusal) (accounts before : List ℕ) (r : ListReply) (after : List ℕ) : Type 0 where
  pub lists : ListsBy q accounts before r after
  pub told : values_of_list r ≡ list_values q (length accounts)

-- The waiting list: of the accounts at which a slip waits, lowest first.
abbrev pub ListedAs : Ledger → List ℕ → ListReply → List ℕ → Type 0
ListedAs l before r after = ListedBy (list_refusal before) (waiting_accounts l) before r after
