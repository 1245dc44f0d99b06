-- Document 01's whole output of `daybook`, and the texts of some other bundles, computed from their bytes.
use Prim.Native.Nat.{ℕ}
use mathlib.Core.Path.{◌≡◌, refl}
use mathlib.Core.List.{List, [], ◌∷◌, ◌++◌}
use lib.ListN.{set, replicate}
use Rattle.model.specs.Records.{no_acks}
use Rattle.model.specs.Transfers.{equal, conflict}
use Rattle.model.specs.Openings.{open_reply}
use Rattle.model.specs.Acks.{has_most}
use Rattle.model.specs.Settling.{lowest_affordable, apply, settle_at_most, settle}
use Rattle.model.specs.Calls.{step}
use Rattle.model.specs.Bundles.{check_bundle}
use Rattle.text.specs.Lines.{decimal}
use Rattle.text.proofs.Facts.{bytes_of}
use Rattle.replay.specs.Text.{text_of}

-- the body of an opening page with n 6, f 1 and two balances below 256
abbrev opening : ℕ → ℕ → List ℕ
opening a b = 6 ∷ 1 ∷ 2 ∷ a ∷ 0 ∷ 0 ∷ 0 ∷ b ∷ replicate 123 0

-- the body of a slip of account 0 with number 1, for account 1
abbrev body : ℕ → List ℕ
body value = 0 ∷ 1 ∷ 0 ∷ 0 ∷ 0 ∷ value ∷ 0 ∷ 0 ∷ 0 ∷ 1 ∷ []

-- the sum of the slip (0, 1, 4, 1)
abbrev sum : List ℕ
sum = 6 ∷ 205 ∷ 124 ∷ 148 ∷ []

-- "n 6, f 1, k 2, balances 10 and 3, entries: slip (0, 1, 4, 1), acks of it from seats 0 to 4, question 1"
unfoldable pub case : List ℕ
case =
    (8 ∷ 0 ∷ [])
    ++ (0 ∷ 0 ∷ 66 ∷ 0 ∷ 122 ∷ 23 ∷ 148 ∷ 160 ∷ [])
    ++ (2 ∷ 0 ∷ 197 ∷ 0 ∷ sum)
    ++ (3 ∷ 0 ∷ 207 ∷ 0 ∷ sum)
    ++ (3 ∷ 1 ∷ 217 ∷ 0 ∷ sum)
    ++ (3 ∷ 2 ∷ 227 ∷ 0 ∷ sum)
    ++ (3 ∷ 3 ∷ 237 ∷ 0 ∷ sum)
    ++ (3 ∷ 4 ∷ 247 ∷ 0 ∷ sum)
    ++ (5 ∷ 0 ∷ 1 ∷ 1 ∷ 1 ∷ 0 ∷ 0 ∷ 0 ∷ [])
    ++ opening 10 3
    ++ body 4 ++ body 4 ++ body 4 ++ body 4 ++ body 4 ++ body 4
    ++ (1 ∷ [])

abbrev pub nine_lines : List ℕ
nine_lines = bytes_of "1 A\n2 N\n3 N\n4 N\n5 N\n6 K 1\n7 B 7\n= 0 6 1\n= 1 7 0\n"

-- "Balances 10 and 5": slips of 16, of 11 and of 10, of which two are refused
pub funds : List ℕ
funds =
    (4 ∷ 0 ∷ [])
    ++ (0 ∷ 0 ∷ 34 ∷ 0 ∷ 56 ∷ 190 ∷ 6 ∷ 217 ∷ [])
    ++ (2 ∷ 0 ∷ 165 ∷ 0 ∷ 18 ∷ 231 ∷ 37 ∷ 149 ∷ [])
    ++ (2 ∷ 0 ∷ 175 ∷ 0 ∷ 141 ∷ 113 ∷ 223 ∷ 148 ∷ [])
    ++ (2 ∷ 0 ∷ 185 ∷ 0 ∷ 12 ∷ 90 ∷ 209 ∷ 148 ∷ [])
    ++ opening 10 5
    ++ body 16 ++ body 11 ++ body 10

-- the smallest bundle: an opening page of zeros, which is refused
pub zeros : List ℕ
zeros = (1 ∷ 0 ∷ 0 ∷ 0 ∷ 10 ∷ 0 ∷ 0 ∷ 0 ∷ 0 ∷ 0 ∷ []) ++ replicate 131 0

-- Each bundle's text, computed: the whole output; refused messages; a refused opening; a changed byte of
-- the first case's slip; no bytes.
pub texts : (text_of case ≡ nine_lines)
    × (text_of funds ≡ bytes_of "1 R 5\n2 R 11\n3 A\n= 0 10 0\n= 1 5 0\n")
    × (text_of zeros ≡ bytes_of "F 1 0\n")
    × (text_of (set case 200 1) ≡ bytes_of "F 16 1\n")
    × (text_of [] ≡ bytes_of "F 13 0\n")
unfolding case funds zeros decimal no_acks equal conflict has_most open_reply lowest_affordable apply settle_at_most settle step check_bundle
texts = (refl, refl, refl, refl, refl)
