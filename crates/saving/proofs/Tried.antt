-- The definitions on small inputs: a book whose words are all 0, and each answer of a load
-- where a later test would hold too.
use Rattle.std.specs.Prelude.{Err}
use Prim.Native.Nat.{ℕ, zero, suc, ◌<◌}
use native.Mathlib.Omega.{arith}
use mathlib.Core.Path.{◌≡◌, refl}
use mathlib.Core.List.{[], ◌∷◌, ◌++◌}
use lib.ListN.{take, drop, get_or, replicate}
use Rattle.model.specs.Writing.{number_bytes}
use Rattle.layout.specs.Layout.{book_words}
use Rattle.saving.specs.declared.LoadError.TheVariants.{WrongMark, UnknownFormat, WrongLength, WrongSum}
use Rattle.saving.specs.Saved.{mark, format, saved, load_reply, words_saved}
use Rattle.saving.specs.RoundTrips.{BookWords}

-- words that are all 0 are those of a book: what is said of every book's words is said of some
small_zeros : (n i : ℕ) → get_or (replicate n 0) i 0 < 4_294_967_296
small_zeros zero i = omega arith
small_zeros (suc n) zero = omega arith
small_zeros (suc n) (suc i) = small_zeros n i

pub zeros_book : BookWords (replicate book_words 0)
zeros_book = record { size = refl; small = small_zeros book_words }

-- "in this order": the bytes of each row have every fault from its own on
pub in_order : (load_reply (1 ∷ []) ≡ Err WrongMark)
    × (load_reply mark ≡ Err UnknownFormat)
    × (load_reply (mark ++ number_bytes 4 2) ≡ Err UnknownFormat)
    × (load_reply (mark ++ number_bytes 4 format) ≡ Err WrongLength)
    × (load_reply (mark ++ number_bytes 4 format ++ replicate 5_525 0) ≡ Err WrongLength)
    × (load_reply (mark ++ number_bytes 4 format ++ replicate 5_524 0) ≡ Err WrongSum)
unfolding load_reply
in_order = (refl, refl, refl, refl, refl, refl)

-- a byte that is missing is no byte of the mark
pub no_mark : (load_reply [] ≡ Err WrongMark) × (load_reply (83 ∷ 65 ∷ 80 ∷ []) ≡ Err WrongMark)
unfolding load_reply
no_mark = (refl, refl)

-- the form: mark, format, words lowest byte first, and the sum behind them
pub the_form : (take 12 (saved (258 ∷ replicate 1_379 0)) ≡ 83 ∷ 65 ∷ 80 ∷ 76 ∷ 1 ∷ 0 ∷ 0 ∷ 0 ∷ 2 ∷ 1 ∷ 0 ∷ 0 ∷ [])
    × (drop 5_528 (saved (258 ∷ replicate 1_379 0)) ≡ 40 ∷ 236 ∷ 137 ∷ 99 ∷ [])
unfolding saved
the_form = (refl, refl)

-- the words stand behind mark and format
pub the_words : take 2 (words_saved (mark ++ number_bytes 4 format ++ number_bytes 4 258 ++ number_bytes 4 7)) ≡ 258 ∷ 7 ∷ []
unfolding words_saved
the_words = refl
