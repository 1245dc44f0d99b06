-- What an opening promises, by the model's definitions.
use Rattle.std.specs.Prelude.{ℕ, ◌≤◌, ◌≡◌, List, map, Err}
use Rattle.model.specs.declared.Opening.{Opening}
use Rattle.model.specs.declared.Refusal.{Refusal}
use Rattle.model.specs.Types.{OpenReply}
use Rattle.model.specs.Basics.{sum_of}
use Rattle.model.specs.Records.{fresh_entry, fresh_ledger, with_entries}
use Rattle.model.specs.Openings.{open_reply, open_ledger}
use Rattle.layout.specs.Layout.{ledger_in}

-- the ledger with the entries of accounts at opening
pub record FreshEntries (before balances after : List ℕ) : Type 0 where
  pub fresh : ledger_in after ≡ with_entries (ledger_in before) (map fresh_entry balances)

-- the ledger just opened from a page whose numbers are in their ranges, given its opening sum
pub record FreshLedger (page : Opening) (total : ℕ) (after : List ℕ) : Type 0 where
  pub fresh : page.seats ≤ 16 → page.faults ≤ 16 → page.accounts ≤ 32 → total ≡ sum_of (λ b. b) page.balances
      → ledger_in after ≡ fresh_ledger page

-- An opening: the reply, and the ledger after it. "A refusal replies its code and changes
-- nothing": not one of the words.
pub record Opens (before : List ℕ) (page : Opening) (r : OpenReply) (after : List ℕ) : Type 0 where
  pub reply : r ≡ open_reply page
  pub ledger : ledger_in after ≡ open_ledger page (ledger_in before)
  pub kept : (code : Refusal) → r ≡ Err code → after ≡ before
