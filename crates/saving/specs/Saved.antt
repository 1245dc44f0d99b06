-- A book as bytes that its host keeps: "a mark, the number of its format, the words, and document 01's sum over all
-- bytes before it", little-endian.
use Rattle.std.specs.Prelude.{ℕ, ◌+◌, ◌*◌, ◌≡◌, Bool, not, cond, List, [], ◌∷◌, ◌++◌, eqb, length, take, Result, Ok, Err}
use Rattle.model.specs.Bundles.{number4, words_from, body_sum}
use Rattle.model.specs.Writing.{number_bytes, word_bytes}
use Rattle.layout.specs.Layout.{book_words}
use Rattle.saving.specs.declared.LoadError.{LoadError}
use Rattle.saving.specs.declared.LoadError.TheVariants.{WrongMark, UnknownFormat, WrongLength, WrongSum}

-- the mark: the letters S, A, P, L
abbrev pub mark : List ℕ
mark = 83 ∷ 65 ∷ 80 ∷ 76 ∷ []

-- the number of the format: today's layout, of 1,380 words
abbrev pub format : ℕ
format = 1

-- where the words and the sum stand, and how many bytes there are
abbrev pub words_at : ℕ
words_at = 8

abbrev pub sum_at : ℕ
sum_at = words_at + 4 * book_words

abbrev pub saved_size : ℕ
saved_size = sum_at + 4

-- all bytes before the sum
abbrev pub summed : List ℕ → List ℕ
summed words = mark ++ number_bytes 4 format ++ word_bytes words

-- The saved form of a book's words.
unfoldable pub saved : List ℕ → List ℕ
saved words = summed words ++ number_bytes 4 (body_sum (summed words))

-- What a load asks of the bytes. A byte that is missing reads as 0, which is no byte of the mark.
abbrev pub wrong_mark : List ℕ → Bool
wrong_mark bytes = not (eqb (number4 bytes 0) (number4 mark 0))

abbrev pub unknown_format : List ℕ → Bool
unknown_format bytes = not (eqb (number4 bytes 4) format)

-- "a length that is not that format's"
abbrev pub wrong_length : List ℕ → Bool
wrong_length bytes = not (eqb (length bytes) saved_size)

abbrev pub wrong_sum : List ℕ → Bool
wrong_sum bytes = not (eqb (number4 bytes sum_at) (body_sum (take sum_at bytes)))

-- What a load is answered: nothing more, or why the bytes are not loaded.
abbrev pub LoadReply : Type 0
LoadReply = Result (Unit {0}) LoadError

-- "a wrong mark, an unknown format, a length that is not that format's, a wrong sum, in this
-- order, each with its own answer"
unfoldable pub load_reply : List ℕ → LoadReply
load_reply bytes =
    cond (wrong_mark bytes) (Err WrongMark)
    (cond (unknown_format bytes) (Err UnknownFormat)
    (cond (wrong_length bytes) (Err WrongLength)
    (cond (wrong_sum bytes) (Err WrongSum) (Ok tt))))

-- the words that the bytes hold
unfoldable pub words_saved : List ℕ → List ℕ
words_saved bytes = words_from book_words words_at bytes

-- the words after a load: those that the bytes hold; "a refusal leaves the store as it was"
abbrev pub words_after : LoadReply → List ℕ → List ℕ → List ℕ
words_after (Ok done) bytes before = words_saved bytes
words_after (Err e) bytes before = before

-- A load: the reply, and the words after it.
pub record LoadedAs (before bytes : List ℕ) (r : LoadReply) (after : List ℕ) : Type 0 where
  pub reply : r ≡ load_reply bytes
  pub words : after ≡ words_after (load_reply bytes) bytes before
