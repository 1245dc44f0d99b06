-- What the loop over the accounts knows of the buffer: in front are those before `i` at which a slip
-- waits, and at the end all of them.
use Rattle.std.specs.Prelude.{Ok}
use Prim.Native.Nat.{ℕ, suc, ◌+◌, ◌≤◌, ◌<◌}
use native.Mathlib.Nat.{zero-add}
use native.Mathlib.Numerals.{add-one}
use native.Mathlib.Omega.{arith}
use mathlib.Core.Path.{◌≡◌, ap, sym, ◌∙◌}
use mathlib.Core.Bool.{true, false}
use mathlib.Core.List.{List, [], ◌∷◌, ◌++◌, append-nil}
use lib.ListN.{length, get_or, drop, set, length-append, length-set}
use lib.Seq.{drop-cons, append_snoc, set_at}
use borrow.Author.Tests.{le-ltb}
use Rattle.model.specs.Types.{Ledger}
use Rattle.model.specs.Basics.{all_where}
use Rattle.model.specs.Calls.{waits_at, waiting_accounts, Lists}
use Rattle.laws.proofs.Searches.{alone, all_more}

module _ (l : Ledger) (before : List ℕ) where
  -- the accounts before i at which a slip waits
  abbrev passed : ℕ → List ℕ
  passed i = all_where (waits_at l) i 0

  -- so many are listed when the loop has passed i accounts, and the buffer holds this now
  pub record ListedBelow (i n : ℕ) (now : List ℕ) : Type 0 where
    pub many : n ≡ length (passed i)
    pub few : n ≤ i
    pub size : length now ≡ length before
    pub front : now ≡ passed i ++ drop n before

  passed_more : (i : ℕ) → passed (i + 1) ≡ passed i ++ alone (waits_at l i) i
  passed_more i = rw (add-one i) (rw (zero-add i) at (all_more (waits_at l) i 0))

  module _ (i n : ℕ) (now : List ℕ) (h : ListedBelow i n now) where
    -- no slip waits at the next account: the buffer stays
    pub listed_same : waits_at l i ≡ false → ListedBelow (i + 1) n now
    listed_same e =
        let same : passed (i + 1) ≡ passed i = passed_more i ∙ (rw e) ∙ append-nil (passed i) in
        record { many = rw same h.many; few = omega (arith, h.few); size = h.size; front = rw same h.front }

    -- one does: the buffer has one more
    pub listed_more : waits_at l i ≡ true → n < length before → ListedBelow (i + 1) (n + 1) (set now n i)
    listed_more e room =
        let longer : passed (i + 1) ≡ passed i ++ (i ∷ []) = passed_more i ∙ (rw e) in
        let stored = set_at (passed i) (get_or before n 0) (drop (suc n) before) i n (sym h.many) in
        record {
          many = rw (longer, length-append (passed i) (i ∷ [])) (omega (arith, h.many));
          few = omega (arith, h.few);
          size = length-set now n i ∙ h.size;
          front =
              rw (h.front, drop-cons before n 0 room, stored, longer, add-one n)
              (sym (append_snoc (passed i) i (drop (suc n) before)));
        }

    -- after the last account the list is done
    pub listed_all : i ≡ length l.entries → 32 ≤ length before → Lists (waiting_accounts l) before (Ok n) now
    unfolding waiting_accounts
    listed_all all room =
        let many : n ≡ length (passed (length l.entries)) = h.many ∙ ap (λ (k : ℕ). length (passed k)) all in
        record {
          reply = rw (le-ltb (length before) 32 room, ← many);
          buffer = h.front ∙ ap (λ (k : ℕ). passed k ++ drop n before) all;
        }
