-- Document 01, "The program `daybook`": its lines, as bytes of ASCII. A space is 32, the end of a line 10.
use Rattle.std.specs.Prelude.{ℕ, zero, suc, ◌+◌, ◌/◌, ◌%◌, cond, List, [], ◌∷◌, ◌++◌, ltb}
use Rattle.model.specs.declared.Reply.{Reply}
use Rattle.model.specs.Replies.{letter_of, values_of}

-- a digit: 0 is 48
abbrev pub digit : ℕ → ℕ
digit d = 48 + d

-- the decimal digits of a number, the highest first, at most `most` of them
abbrev pub digits : ℕ → ℕ → List ℕ
digits zero n = []
digits (suc most) n = cond (ltb n 10) (digit n ∷ []) (digits most (n / 10) ++ (digit (n % 10) ∷ []))

-- "All numbers here are decimal." No number n has more than n + 1 digits.
unfoldable pub decimal : ℕ → List ℕ
decimal n = digits (suc n) n

-- what a line carries: each number behind a space
abbrev pub carried : List ℕ → List ℕ
carried [] = []
carried (v ∷ vs) = 32 ∷ decimal v ++ carried vs

-- a letter and what it carries, to the end of the line
abbrev pub lettered : ℕ → List ℕ → List ℕ
lettered letter vs = letter ∷ carried vs ++ (10 ∷ [])

-- "`F code entry` for a bundle or opening that is refused"
abbrev pub refusal_line : ℕ → ℕ → List ℕ
refusal_line code entry = lettered 70 (code ∷ entry ∷ [])

-- "entry, reply letter, and what it carries"
abbrev pub reply_line : ℕ → Reply → List ℕ
reply_line entry r = decimal entry ++ (32 ∷ lettered (letter_of r) (values_of r))

-- "per account `= account balance current`"
abbrev pub account_line : ℕ → ℕ → ℕ → List ℕ
account_line account balance current = lettered 61 (account ∷ balance ∷ current ∷ [])
