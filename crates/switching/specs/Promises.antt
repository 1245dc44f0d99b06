-- What taking a held book over promises, by the model's definitions.
use Rattle.std.specs.Prelude.{ℕ, ◌≡◌, List}
use Rattle.model.specs.Records.{with_entries}
use Rattle.model.specs.Switches.{since_request3, switched}
use Rattle.layout.specs.Layout.{ledger_in, held_in}

-- the ledger with the entries that the held ledger's become
pub record EntriesTaken (held before after : List ℕ) : Type 0 where
  pub taken : ledger_in after ≡ with_entries (ledger_in before) (switched since_request3 (held_in held)).entries
