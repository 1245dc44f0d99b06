-- Worked facts about the lines' definitions as the rows of one table, and one theorem, computed, that all of them hold.
use Prim.Native.Nat.{ℕ}
use Prim.Native.Char.{code}
use Prim.Native.String.{String, [] as noText, ◌∷◌ as ◌first◌}
use native.Mathlib.Omega.{arith}
use mathlib.Core.Path.{◌≡◌, refl}
use mathlib.Core.List.{List, [], ◌∷◌}
use Rattle.model.specs.declared.Refusal.TheVariants.{OutOfRange}
use Rattle.model.specs.declared.Reply.TheVariants.{Accept, Propose, Note, Refuse}
use Rattle.model.proofs.Rows.{slip}
use Rattle.text.specs.Lines.{decimal, refusal_line, reply_line, account_line}
use Rattle.text.proofs.Decimals.{decimal_digits}

-- a text's bytes in ASCII
abbrev pub bytes_of : String → List ℕ
bytes_of noText = []
bytes_of (c first text) = code c ∷ bytes_of text

-- bytes, and the text that they are
abbrev pub Row : Type 0
Row = List ℕ × String

infix 70 ◌reads◌
abbrev ◌reads◌ : List ℕ → String → Row
bytes reads text = (bytes, text)

-- each row is an equation
abbrev pub Hold : List Row → Type 0
Hold [] = Unit {0}
Hold (row ∷ rows) = (row.0 ≡ bytes_of row.1) × Hold rows

pub table : List Row
table =
    decimal 0 reads "0"
    ∷ decimal 10 reads "10"
    ∷ decimal 4_294_967_295 reads "4294967295"
    ∷ reply_line 6 (Accept 1) reads "6 K 1\n"
    ∷ reply_line 5 (Propose (slip 0 1 4 1)) reads "5 P 0 1 4 1\n"
    ∷ reply_line 2 Note reads "2 N\n"
    ∷ reply_line 3 (Refuse OutOfRange) reads "3 R 5\n"
    ∷ refusal_line 13 0 reads "F 13 0\n"
    ∷ account_line 0 6 1 reads "= 0 6 1\n"
    ∷ []

-- the largest number: to compute it with as many digits allowed as it is large takes too long, so ten are
largest : decimal 4_294_967_295 ≡ bytes_of "4294967295"
largest = decimal_digits 9 4_294_967_295 (omega arith)

-- Every row holds of the definitions: the checker computes each.
pub facts : Hold table
unfolding table decimal
facts = (refl, (refl, (largest, (refl, (refl, (refl, (refl, (refl, (refl, tt)))))))))
