-- What is saved is loaded, and nothing else is.
use Rattle.std.specs.Prelude.{ℕ, ◌<◌, ◌≡◌, ◌≢◌, List, ◌++◌, length, get_or, Ok, Err}
use Rattle.model.specs.Bundles.{body_sum}
use Rattle.model.specs.Writing.{number_bytes, Bytes}
use Rattle.layout.specs.Layout.{book_words}
use Rattle.saving.specs.declared.LoadError.TheVariants.{WrongSum}
use Rattle.saving.specs.Saved.{saved_size, summed, saved, load_reply, words_saved, words_after}

-- the words of a book: so many numbers of 4 bytes
pub record BookWords (words : List ℕ) : Type 0 where
  pub size : length words ≡ book_words
  pub small : (i : ℕ) → get_or words i 0 < 4_294_967_296

-- "loading what was saved gives the same words", whatever words it is loaded into
pub record LoadsBack (words : List ℕ) : Type 0 where
  pub size : length (saved words) ≡ saved_size
  pub bytes : Bytes (saved words)
  pub loads : load_reply (saved words) ≡ Ok tt
  pub same : (before : List ℕ) → words_after (load_reply (saved words)) (saved words) before ≡ words

abbrev pub SaveThenLoad : Type 0
SaveThenLoad = (words : List ℕ) → BookWords words → LoadsBack words

-- Bytes that are loaded are the saved form of the words that they give: so no others are,
-- and no two files are of one book.
pub record SavesBack (bytes words : List ℕ) : Type 0 where
  pub book : BookWords words
  pub same : saved words ≡ bytes

abbrev pub LoadThenSave : Type 0
LoadThenSave = (bytes : List ℕ) → Bytes bytes → load_reply bytes ≡ Ok tt → SavesBack bytes (words_saved bytes)

-- a book's words with another sum behind them have a wrong sum
abbrev pub OtherSum : Type 0
OtherSum =
    (words : List ℕ) → BookWords words → (s : ℕ) → s < 4_294_967_296 → s ≢ body_sum (summed words)
    → load_reply (summed words ++ number_bytes 4 s) ≡ Err WrongSum
