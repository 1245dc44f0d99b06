-- What is found among the 32 accounts is the lowest.
use Rattle.std.proofs.Common.{◌≡◌, ℕ, Bool, List, Option, option_map, refl, rules}
use Rattle.model.specs.Basics.{first_where}
use Rattle.model.specs.Records.{account_of}
use Rattle.model.specs.Settling.{affordable, lowest_affordable}
use Rattle.layout.specs.Layout.{ledger_in, entry_in}
use Rattle.layout.proofs.Blocks.{entries_length}
use Rattle.basics.proofs.Searching.{found_first}
use Rattle.settling.proofs.lowest_affordable.Goals as goal

module _ (ws : List ℕ) where
  abbrev test : ℕ → Bool
  test a = affordable (entry_in ws (account_of a))

  lowest : (o : Option ℕ) → o ≡ first_where test 32 0 → option_map account_of o ≡ lowest_affordable (ledger_in ws).entries
  unfolding lowest_affordable
  lowest o found = rw (entries_length ws, found)

pub returns : goal.returns
returns c =
    let ws = c.args.words.now in
    let h = lowest ws _ (found_first (test ws) 32 _ refl c.find.ensures.ran (λ x b q k. search rules)) in search rules
