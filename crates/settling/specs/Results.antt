-- What settling leaves, given by the model's definitions.
use Rattle.std.specs.Prelude.{◌≡◌, ℕ, List}
use Rattle.model.specs.Records.{with_entries}
use Rattle.model.specs.Settling.{settle}
use Rattle.layout.specs.Layout.{ledger_in}

-- The ledger with what settling makes of its entries, and how many slips were booked.
pub record Settles (before after : List ℕ) (applied : ℕ) : Type 0 where
  pub ledger : ledger_in after ≡ with_entries (ledger_in before) (settle (ledger_in before).entries).entries
  pub count : applied ≡ (settle (ledger_in before).entries).applied
