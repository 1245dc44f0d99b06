-- One turn of settling, said of the words before and after it.
use Rattle.std.proofs.Common.{◌≡◌, ℕ, suc, ◌+◌, ◌<◌, ◌≤◌, List, sym, ap, ◌∙◌, add-one, arith, Some, None}
use Rattle.model.specs.declared.Account.{Account}
use Rattle.model.specs.Types.{Entry, Ledger}
use Rattle.model.specs.Records.{with_entries}
use Rattle.model.specs.Settling.{is_waiting, waiting, lowest_affordable, apply}
use Rattle.laws.proofs.Booking.{apply_waiting}
use Rattle.laws.proofs.Settles.{lowest_affordable_lem, settle_none, settle_some, settle_waiting}
use Rattle.basics.proofs.Counting.{count_most}
use Rattle.layout.specs.Layout.{ledger_in}
use Rattle.layout.proofs.Blocks.{entries_length}
use Rattle.settling.specs.Results.{Settles}

-- the entries of words, and how many slips wait in them
abbrev entries : List ℕ → List Entry
entries ws = (ledger_in ws).entries

abbrev pub waiting_in : List ℕ → ℕ
waiting_in ws = waiting (entries ws)

-- settling books no more than wait, and that is at most 32
pub few_applied : (ws after : List ℕ) (applied : ℕ) → Settles ws after applied → applied ≤ 32
few_applied ws after applied s =
    omega (arith, s.count, settle_waiting (entries ws), count_most is_waiting (entries ws), entries_length ws)

-- nothing is affordable: settling leaves the words as they are
pub ended : (ws : List ℕ) → lowest_affordable (entries ws) ≡ None → Settles ws ws 0
ended ws nothing = record { ledger = rw (settle_none (entries ws) nothing); count = rw (settle_none (entries ws) nothing) }

-- the lowest affordable account is found, and what waits there is applied
module _ (ws : List ℕ) (a : Account) (found : lowest_affordable (entries ws) ≡ Some a) where
  pub found_inside : a.0 < 32
  found_inside = omega (arith, (lowest_affordable_lem (entries ws) a found).affords_it.inside, entries_length ws)

  module _ (mid : List ℕ) (applied : ledger_in mid ≡ with_entries (ledger_in ws) (apply (entries ws) a)) where
    -- one slip fewer waits
    pub one_fewer : waiting_in ws ≡ suc (waiting_in mid)
    one_fewer =
        apply_waiting (entries ws) a (lowest_affordable_lem (entries ws) a found).affords_it ∙ ap (λ (l : Ledger). suc (waiting l.entries)) (sym applied)

    -- with what settling makes of the rest, it is what settling makes of the whole
    pub whole : (after : List ℕ) (rest : ℕ) → Settles mid after rest → Settles ws after (rest + 1)
    whole after rest s =
        record {
          ledger = rw (settle_some (entries ws) a found) (rw applied at s.ledger);
          count = rw (settle_some (entries ws) a found, add-one rest) (ap suc (rw applied at s.count));
        }
