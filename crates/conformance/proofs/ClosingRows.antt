-- What the replies of a run at one seat and its closing rows tell of one another: the statement is
-- `Accounted` in specs/Texts.antt.
use Prim.Native.Nat.{ℕ, zero, suc, ◌+◌, ◌≤◌}
use native.Mathlib.Omega.{arith}
use mathlib.Core.Path.{◌≡◌, refl, ap, sym, ◌∙◌}
use mathlib.Core.List.{List, [], ◌∷◌, ◌++◌, map}
use lib.ListN.{length, take, drop, length-map, get_or-map}
use lib.Seq.{length-take-le, drop-cons, get_or-take}
use Rattle.model.specs.Basics.{sum_of}
use Rattle.model.specs.Records.{account_of, fresh_entry, sum_currents, entry_of}
use Rattle.laws.proofs.Sums.{sum_front, sum_map}
use Rattle.laws.specs.Types.{Seat, Account, Entry, Ledger, Opening, Inquiry, Balance}
use Rattle.runs.specs.Runs.{Opens, Run, ◌▹◌, Within, at_end, ledger_at, Obeys}
use Rattle.runs.specs.Slates.{slate_at}
use Rattle.runs.specs.Facts.{count_of, Facts}
use Rattle.agreement.proofs.Places.{obeys_before}
use Rattle.agreement.proofs.Soundness.{group}
use Rattle.agreement.proofs.Reachable.{sound}
use Rattle.agreement.proofs.Slated.{told_slate}
use Rattle.agreement.proofs.Always.{always}
use Rattle.layout.specs.Layout.{table_from}
use Rattle.replay.specs.Text.{Row, row_of}
use Rattle.conformance.specs.Texts.{Exchange, event_of, run_from, begins, run_of, last_rows, Accounted}
use Rattle.conformance.proofs.EntryRuns.{from_within, call_within}

-- The current numbers add up to the counts.
module _ (o : Opening) (opens : Opens o) (s : Seat) where
  -- before the first, all current numbers are 0
  none_counted : sum_currents (ledger_at o s begins).entries ≡ 0
  unfolding slate_at
  none_counted =
      sym
      (sum_front (λ e. e.current) (ledger_at o s begins).entries (fresh_entry 0) 0
      (λ i above. ((always o begins opens tt).plain begins s (account_of i) at_end).1))

  counts_sum : (xs : List Exchange) (run : Run) → Obeys o (run_from s run xs)
      → sum_currents (ledger_at o s (run_from s run xs)).entries ≡ sum_currents (ledger_at o s run).entries + sum_of (λ x. count_of x.reply) xs
  counts_sum [] run obeys = omega arith
  counts_sum (x ∷ xs) run obeys =
      let next = run ▹ event_of s x in
      let rise = (always o next opens (obeys_before o obeys (from_within s next xs))).count_is_rise run (event_of s x) _ _ at_end refl in
      omega (arith, counts_sum xs next obeys, rise)

-- the rows of accounts that have entries are those of their entries
rows_are : (l : Ledger) (left a : ℕ) → a + left ≤ length l.entries
    → table_from (λ b. row_of (entry_of l (account_of b))) left a ≡ map row_of (take left (drop a l.entries))
rows_are l zero a fits = refl
rows_are l (suc left) a fits =
    rw (drop-cons l.entries a (fresh_entry 0) (omega arith))
    (ap (λ (rest : List Row). row_of (entry_of l (account_of a)) ∷ rest) (rows_are l left (suc a) (omega arith)))

module _ (o : Opening) (opens : Opens o) (s : Seat) (xs : List Exchange) (obeys : Obeys o (run_of s xs)) where
  abbrev last : Ledger
  last = ledger_at o s (run_of s xs)

  all_fit : o.accounts ≤ length last.entries
  all_fit = omega (arith, (sound o opens s (run_of s xs) obeys).size, (group o opens).accounts_fit)

  -- the k first entries, and the rows of these
  abbrev front : List Entry
  front = take o.accounts last.entries

  last_rows_lem : last_rows o s xs ≡ map row_of front
  last_rows_lem =
      ap (λ (k : ℕ). table_from (λ b. row_of (entry_of last (account_of b))) k 0) (sound o opens s (run_of s xs) obeys).accounts_same
      ∙ rows_are last o.accounts 0 (omega (arith, all_fit))

  pub accounted : Accounted o s xs (last_rows o s xs)
  accounted =
      rw last_rows_lem
      record {
        row_each = length-map front row_of ∙ length-take-le o.accounts last.entries all_fit;
        balances_sum = sum_map (λ row. row.balance) row_of front ∙ facts.accounts_sum (run_of s xs) s at_end;
        currents_sum =
            sum_map (λ row. row.current) row_of front
            ∙ (sum_front (λ e. e.current) last.entries (fresh_entry 0) o.accounts behind ∙ counted);
        slate_rows = λ a known.
            let match = facts.plain (run_of s xs) s a at_end in
            get_or-map row_of front a.0 (fresh_entry 0)
            ∙ (ap row_of (get_or-take o.accounts last.entries a.0 (fresh_entry 0) known)
            ∙ (λ i. record { balance = match.0 i; current = match.1 i }));
        told = λ early late a b is. told_slate o (run_of s xs) (run_of s early) _ a b opens obeys (placed early late a b is) refl;
      }
    where
      facts : Facts o (run_of s xs)
      facts = always o (run_of s xs) opens obeys

      behind : (i : ℕ) → o.accounts ≤ i → (entry_of last (account_of i)).current ≡ 0
      behind i above = (facts.behind (run_of s xs) s (account_of i) at_end above).1

      counted : sum_currents last.entries ≡ sum_of (λ x. count_of x.reply) xs
      counted = omega (arith, counts_sum o opens s xs begins obeys, none_counted o opens s)

      placed : (early late : List Exchange) (a : Account) (b : ℕ) → xs ≡ early ++ record { asked = Inquiry a; reply = Balance b } ∷ late
          → Within (run_of s early ▹ event_of s (record { asked = Inquiry a; reply = Balance b })) (run_of s xs)
      placed early late a b is = rw is (call_within s begins early late (record { asked = Inquiry a; reply = Balance b }))
