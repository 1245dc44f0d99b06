-- The seats whose acks are equal are as many as the acks that are.
use Rattle.std.proofs.Common.{◌≡◌, ℕ, zero, suc, ◌<◌, Bool, cond, List, ◌∷◌, None, length, refl, ap, sym, ◌∙◌, rules, add-one}
use native.Mathlib.Nat.{zero-add}
use Rattle.std.specs.List.{filter, range_with_len}
use Rattle.std.proofs.lemmas.Iterator.{YieldsList-from_range}
use Rattle.std.proofs.lemmas.Iterator.Consumers.{YieldsList-from_filter, count_from_yields_List}
use Rattle.model.specs.declared.Transfer.{Transfer}
use Rattle.model.specs.Types.{Entry}
use Rattle.model.specs.Basics.{all_where}
use Rattle.model.specs.Records.{seat_of}
use Rattle.model.specs.Acks.{holds, acks_for}
use Rattle.model.specs.Refusals.{ack_from}
use Rattle.laws.proofs.Searches.{all_number}
use Rattle.layout.specs.Layout.{entry_in}
use Rattle.layout.proofs.Entries.{acks_length}
use Rattle.store.specs.Stores.{numbered}
use Rattle.store.proofs.Reading.{ack_holds}
use Rattle.tally.specs.Results.{at_next}
use Rattle.tally.proofs.acks_for.Goals as goal

-- the numbers of a range that pass a test
filtered : (p : ℕ → Bool) (n i : ℕ) → filter p (range_with_len i n) ≡ all_where p n i
filtered p zero i = refl
filtered p (suc n) i = ap (λ (xs : List ℕ). cond (p i) (i ∷ xs) xs) (rw add-one (filtered p n (suc i)))

module _ (ws : List ℕ) (t : Transfer) where
  abbrev e : Entry
  e = entry_in ws t.account

  -- the ack from a seat, told with the slip's number, is equal to the slip
  abbrev test : ℕ → Bool
  test s = holds t (numbered t.number (ack_from e (seat_of s)))

  number : length (filter test (range_with_len 0 16)) ≡ acks_for (at_next e t) e.acks
  number =
      ap length (filtered test 16 0)
      ∙ ap (λ (n : ℕ). length (all_where test n 0)) (sym (acks_length ws t.account))
      ∙ all_number (λ a. holds (at_next e t) a.slot) (record { slot = None }) e.acks test 0 (λ k below. rw (zero-add k) (ack_holds ws t.account (seat_of k) t))

pub returns : goal.returns
returns c =
    let ws = c.args.words.now in
    count_from_yields_List c.filter.result c.count.result c.count.ensures.ran
    (YieldsList-from_filter _ (test ws c.args.t) (YieldsList-from_range 0 16 16 c.filter.ensures.source refl) c.filter.ensures.closure (λ x b q k. search rules))
    ∙ number ws c.args.t
