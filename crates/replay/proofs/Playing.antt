-- What the loop over the entries knows at each turn: the lines that are written, followed by those of the entries that
-- are left, are the lines of all of them.
use Rattle.std.specs.Prelude.{Option, Some, None}
use Prim.Native.Nat.{ℕ, suc, ◌+◌, ◌*◌, ◌-◌, ◌≤◌, ◌<◌}
use native.Mathlib.Numerals.{add-one}
use native.Mathlib.Omega.{arith}
use mathlib.Core.Path.{◌≡◌, refl, sym, subst, ◌∙◌}
use mathlib.Core.List.{List, [], ◌++◌, append_assoc, append-nil}
use lib.ListN.{length}
use Rattle.model.specs.Types.{Ledger}
use Rattle.model.specs.declared.Message.{Message}
use Rattle.model.specs.declared.Reply.{Reply}
use Rattle.model.specs.Calls.{step}
use Rattle.model.specs.Bundles.{entry_count, Page, page_at, message_of}
use Rattle.basics.specs.declared.output.Output.{Output}
use Rattle.basics.specs.Outputs.{Appends}
use Rattle.basics.proofs.Writing.{nothing, then, within}
use Rattle.text.specs.Lines.{decimal, reply_line}
use Rattle.text.proofs.Decimals.{three_digits}
use Rattle.replay.specs.Text.{entry_line, ledger_after, ledger_from, lines_from}
use Rattle.layout.specs.Layout.{ledger_in}
use Rattle.replay.specs.Promises.{PlayedAll}

-- One entry: what it adds to the text is put out, and the ledger is the one after it.
pub record PlayedEntry (i : ℕ) (l : Ledger) (asked : Option Message) (before after : Output) (next : Ledger) : Type 0 where
  pub writes : Appends before (entry_line i l asked) (length (decimal i) + 33) after
  pub ledger_after_lem : next ≡ ledger_after l asked

-- what one entry does: nothing without a message; else the line of the reply and the ledger that the call leaves
module _ {i : ℕ} {l : Ledger} {asked : Option Message} {before : Output} where
  pub entry_none : asked ≡ None → PlayedEntry i l asked before before l
  entry_none e = rw e (record { writes = nothing; ledger_after_lem = refl })

  pub entry_some : {m : Message} {r : Reply} {next : Ledger} {after : Output} → asked ≡ Some m → r ≡ (step l m).reply → next ≡ (step l m).next
      → Appends before (reply_line i r) (length (decimal i) + 33) after → PlayedEntry i l asked before after next
  entry_some e reply ledger w = rw e (record { writes = rw reply at w; ledger_after_lem = ledger })

module _ (bytes : List ℕ) (l : Ledger) (before : Output) where
  -- the entries from 1 to i - 1 are played
  pub record PlayedTo (i : ℕ) (so_far : Ledger) (after : Output) : Type 0 where
    pub lines : List ℕ
    pub from_one : 1 ≤ i
    pub few : i ≤ 1_000
    pub goes_on : lines ++ lines_from bytes (entry_count bytes - i) i so_far ≡ lines_from bytes (entry_count bytes - 1) 1 l
    pub left : ledger_from bytes (entry_count bytes - i) i so_far ≡ ledger_from bytes (entry_count bytes - 1) 1 l
    pub writes : Appends before lines (36 * (i - 1)) after

  pub played_none : PlayedTo 1 l before
  played_none =
      record {
        lines = [];
        from_one = omega arith;
        few = omega arith;
        goes_on = refl;
        left = refl;
        writes = nothing;
      }

  module _ {i : ℕ} {so_far : Ledger} {mid : Output} (p : PlayedTo i so_far mid) where
    pub played_more : {after : Output} {next_ledger : Ledger} (page : Page) {next : ℕ}
        → (i < entry_count bytes) × (page ≡ page_at bytes i) × (next ≡ i + 1) → entry_count bytes ≤ 1_000
        → PlayedEntry i so_far (message_of page) mid after next_ledger
        → PlayedTo next next_ledger after
    played_more {after} {next_ledger} page {next} taken few played =
        record {
          lines = p.lines ++ line;
          from_one = omega (arith, taken.2);
          few = omega (arith, taken.0, taken.2);
          goes_on =
              rw (taken.2, add-one i, e.ledger_after_lem, append_assoc p.lines line (lines_from bytes (entry_count bytes - suc i) (suc i) after_it))
              (rw one at p.goes_on);
          left = rw (taken.2, add-one i, e.ledger_after_lem) (rw one at p.left);
          writes =
              within
              (omega (arith, taken.2, three_digits i (omega (arith, taken.0)), p.from_one))
              (then p.writes e.writes);
        }
      where
        e : PlayedEntry i so_far (message_of (page_at bytes i)) mid after next_ledger
        e = subst (λ (x : Page). PlayedEntry i so_far (message_of x) mid after next_ledger) taken.1 played

        one : entry_count bytes - i ≡ suc (entry_count bytes - suc i)
        one = let inside = taken.0 in omega arith

        line : List ℕ
        line = entry_line i so_far (message_of (page_at bytes i))

        after_it : Ledger
        after_it = ledger_after so_far (message_of (page_at bytes i))

-- after the last entry: the words so far are the ledger that is left
pub played_all : (bytes words : List ℕ) (before : Output) {i : ℕ} {left : List ℕ} {after : Output} → PlayedTo bytes (ledger_in words) before i (ledger_in left) after
    → entry_count bytes ≤ i → PlayedAll bytes words left before after
played_all bytes words before {i} {left} p over =
    let none_left : entry_count bytes - i ≡ 0 = omega arith in
    let all : p.lines ≡ lines_from bytes (entry_count bytes - 1) 1 (ledger_in words) = sym (append-nil p.lines) ∙ (rw none_left at p.goes_on) in
    record {
      ledger = rw none_left at p.left;
      writes = rw (← all) (within (omega (arith, p.few)) p.writes);
    }
