-- What the loop over the accounts knows at each turn: the lines that are written, followed by those of the accounts
-- that are left, are all closing lines.
use Prim.Native.Nat.{ℕ, suc, ◌+◌, ◌*◌, ◌-◌, ◌≤◌, ◌<◌}
use native.Mathlib.Nat.{sub-zero}
use native.Mathlib.Numerals.{add-one}
use native.Mathlib.Omega.{arith}
use mathlib.Core.Path.{◌≡◌, sym, ◌∙◌}
use mathlib.Core.List.{List, [], ◌++◌, append_assoc, append-nil}
use lib.ListN.{length}
use Rattle.model.specs.Types.{Ledger}
use Rattle.model.specs.Records.{account_of, entry_of}
use Rattle.basics.specs.declared.output.Output.{Output}
use Rattle.basics.specs.Outputs.{Appends}
use Rattle.basics.proofs.Writing.{nothing, then, within}
use Rattle.layout.specs.Layout.{table_from}
use Rattle.text.specs.Lines.{decimal, account_line}
use Rattle.text.proofs.Decimals.{two_digits}
use Rattle.replay.specs.Text.{Row, row_lines, row_of, closing}
use Rattle.replay.specs.Promises.{closing_most}

module _ (l : Ledger) (before : Output) where
  -- the row of an account
  abbrev row : ℕ → Row
  row a = row_of (entry_of l (account_of a))

  -- the lines of the accounts below a are written
  pub record ClosedTo (a : ℕ) (after : Output) : Type 0 where
    pub lines : List ℕ
    pub goes_on : lines ++ row_lines a (table_from row (l.accounts - a) a) ≡ closing l
    pub writes : Appends before lines (27 * a) after

  pub closed_none : ClosedTo 0 before
  closed_none = record { lines = []; goes_on = rw sub-zero; writes = nothing }

  module _ {a : ℕ} {mid : Output} (p : ClosedTo a mid) where
    pub closed_more : {after : Output} {balance current : ℕ} → balance ≡ (row a).balance → current ≡ (row a).current → a < l.accounts → l.accounts ≤ 32
        → Appends mid (account_line a balance current) (length (decimal a) + 25) after → ClosedTo (a + 1) after
    closed_more balance_is current_is inside few w =
        let line = account_line a (row a).balance (row a).current in
        let one : l.accounts - a ≡ suc (l.accounts - suc a) = omega arith in
        record {
          lines = p.lines ++ line;
          goes_on = rw (add-one a, append_assoc p.lines line (row_lines (suc a) (table_from row (l.accounts - suc a) (suc a)))) (rw one at p.goes_on);
          writes = within (omega (arith, two_digits a (omega arith))) (then p.writes (rw (balance_is, current_is) at w));
        }

    pub closed_all : l.accounts ≤ a → a ≤ 32 → Appends before (closing l) closing_most mid
    closed_all over few =
        let none_left : l.accounts - a ≡ 0 = omega arith in
        let all : p.lines ≡ closing l = sym (append-nil p.lines) ∙ (rw none_left at p.goes_on) in
        rw (← all) (within (omega arith) p.writes)
