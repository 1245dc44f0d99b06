-- What is saved is loaded, and what is loaded was saved. The statements are in specs/RoundTrips.antt.
use Rattle.std.specs.Prelude.{Ok, Err}
use Prim.Native.Nat.{ℕ, ◌+◌, ◌*◌, ◌<◌}
use native.Mathlib.Omega.{arith}
use mathlib.Core.Path.{◌≡◌, refl, ap, sym, ◌∙◌}
use mathlib.Core.Bool.{Bool, true, false, cond}
use mathlib.Core.List.{List, [], ◌++◌, append-nil}
use lib.ListN.{length, get_or, take, drop, length-append}
use lib.Seq.{take_all, drop-drop, drop-append_seam, take-append_seam, take-add}
use borrow.Author.Tests.{eq-eqb, ne_eqb}
use Rattle.model.specs.Bundles.{number4, words_from, body_sum}
use Rattle.model.specs.Writing.{number_bytes, word_bytes, Bytes}
use Rattle.laws.proofs.Numbers.{number_read, number_written, number_bytes_lem, more_bytes, joined, words_length, word_bytes_lem, words_count, words_at_lem, words_read, words_back, words_small, sum_below_lem}
use Rattle.laws.proofs.Sums.{impossible}
use Rattle.bundle.proofs.Longest.{no_difference}
use Rattle.layout.specs.Layout.{book_words}
use Rattle.saving.specs.declared.LoadError.TheVariants.{WrongMark, UnknownFormat, WrongLength, WrongSum}
use Rattle.saving.specs.Saved.{mark, format, words_at, sum_at, saved_size, summed, saved, wrong_mark, unknown_format, wrong_length, wrong_sum, LoadReply, load_reply, words_saved}
use Rattle.saving.specs.RoundTrips.{SaveThenLoad, SavesBack, LoadThenSave, OtherSum}

-- the answer by its four tests
abbrev pub reply_by : Bool → Bool → Bool → Bool → LoadReply
reply_by m f l s = cond m (Err WrongMark) (cond f (Err UnknownFormat) (cond l (Err WrongLength) (cond s (Err WrongSum) (Ok tt))))

pub summed_length : (words : List ℕ) → length words ≡ book_words → length (summed words) ≡ sum_at
summed_length words size = omega (arith, words_length words)

summed_bytes : (words : List ℕ) → Bytes (summed words)
summed_bytes words =
    more_bytes mark (number_bytes 4 format ++ word_bytes words) (number_bytes_lem 4 (number4 mark 0))
    (more_bytes (number_bytes 4 format) (word_bytes words) (number_bytes_lem 4 format) (word_bytes_lem words))

-- a book's words with any sum behind them
module _ (words : List ℕ) (size : length words ≡ book_words) (s : ℕ) (small : s < 4_294_967_296) where
  abbrev bytes : List ℕ
  bytes = summed words ++ number_bytes 4 s

  bytes_length : length bytes ≡ saved_size
  bytes_length = rw (length-append (summed words) (number_bytes 4 s)) (omega (arith, summed_length words size))

  front : take sum_at bytes ≡ summed words
  front = ap (λ (n : ℕ). take n bytes) (sym (summed_length words size)) ∙ take-append_seam (summed words) (number_bytes 4 s)

  behind : drop sum_at bytes ≡ number_bytes 4 s ++ []
  behind =
      ap (λ (n : ℕ). drop n bytes) (sym (summed_length words size)) ∙ drop-append_seam (summed words) (number_bytes 4 s)
      ∙ sym (append-nil (number_bytes 4 s))

  sum_there : number4 bytes sum_at ≡ s
  sum_there = number_read 4 s sum_at bytes [] small behind

  by_sum : (wrong : Bool) → wrong_sum bytes ≡ wrong → load_reply bytes ≡ reply_by false false false wrong
  unfolding load_reply
  by_sum wrong is = rw (eq-eqb (length bytes) saved_size bytes_length, is)

-- "loading what was saved gives the same words"
pub save_then_load : SaveThenLoad
unfolding saved words_saved
save_then_load words book =
    let small = sum_below_lem (summed words) in
    let sum = sum_there words book.size _ small ∙ ap body_sum (sym (front words book.size _ small)) in
    let loads = by_sum words book.size _ small false (rw (eq-eqb _ _ sum)) in
    record {
      size = bytes_length words book.size _ small;
      bytes = more_bytes (summed words) (number_bytes 4 (body_sum (summed words))) (summed_bytes words) (number_bytes_lem 4 (body_sum (summed words)));
      loads = loads;
      same = λ before. rw loads (ap (λ (n : ℕ). words_from n words_at (saved words)) (sym book.size) ∙ words_read words words_at (saved words) _ book.small refl);
    }

pub other_sum : OtherSum
other_sum words book s small differs =
    by_sum words book.size s small true
    (rw (ne_eqb (number4 (summed words ++ number_bytes 4 s) sum_at) (body_sum (take sum_at (summed words ++ number_bytes 4 s))) (λ e. differs (sym (sum_there words book.size s small) ∙ e ∙ ap body_sum (front words book.size s small)))))

-- the words that bytes hold: so many, and each of them
pub saved_count : (bytes : List ℕ) → length (words_saved bytes) ≡ book_words
unfolding words_saved
saved_count bytes = words_count book_words words_at bytes

pub saved_at : (bytes : List ℕ) (i : ℕ) → i < book_words → get_or (words_saved bytes) i 0 ≡ number4 bytes (words_at + 4 * i)
unfolding words_saved
saved_at bytes i h = words_at_lem book_words words_at i bytes h

-- a load that is not refused met no test
all_passed : (m f l s : Bool) → reply_by m f l s ≡ Ok tt → (m ≡ false) × (f ≡ false) × (l ≡ false) × (s ≡ false)
all_passed true f l s e = impossible (cc)
all_passed false true l s e = impossible (cc)
all_passed false false true s e = impossible (cc)
all_passed false false false true e = impossible (cc)
all_passed false false false false e = (refl, refl, refl, refl)

module _ (loaded : List ℕ) (bytes_small : Bytes loaded) where
  abbrev words : List ℕ
  words = words_saved loaded

  saved_small : (i : ℕ) → get_or words i 0 < 4_294_967_296
  unfolding words_saved
  saved_small = words_small loaded bytes_small book_words words_at

  module _ (is_mark : number4 loaded 0 ≡ number4 mark 0) (is_format : number4 loaded 4 ≡ format) (size : length loaded ≡ saved_size) where
    front_back : summed words ≡ take sum_at loaded
    unfolding words_saved
    front_back =
        let first = ap (number_bytes 4) (sym is_mark) ∙ number_written 4 loaded 0 bytes_small (omega arith) in
        let second = ap (number_bytes 4) (sym is_format) ∙ number_written 4 loaded 4 bytes_small (omega arith) in
        let others = words_back loaded bytes_small book_words words_at (omega arith) ∙ ap (take (4 * book_words)) (sym (drop-drop 4 4 loaded)) in
        joined first (joined second others ∙ sym (take-add 4 (4 * book_words) (drop 4 loaded))) ∙ sym (take-add 4 (4 + 4 * book_words) loaded)

    saves_back : number4 loaded sum_at ≡ body_sum (take sum_at loaded) → SavesBack loaded words
    unfolding saved
    saves_back is_sum =
        let last = ap (λ (front : List ℕ). number_bytes 4 (body_sum front)) front_back ∙ ap (number_bytes 4) (sym is_sum) ∙ number_written 4 loaded sum_at bytes_small (omega arith) in
        record {
          book = record { size = saved_count loaded; small = saved_small };
          same = joined front_back last ∙ sym (take-add sum_at 4 loaded) ∙ take_all saved_size loaded (omega arith);
        }

pub load_then_save : LoadThenSave
unfolding load_reply
load_then_save bytes small loads =
    let passed = all_passed (wrong_mark bytes) (unknown_format bytes) (wrong_length bytes) (wrong_sum bytes) loads in
    saves_back bytes small
    (no_difference (number4 bytes 0) (number4 mark 0) passed.0)
    (no_difference (number4 bytes 4) format passed.1)
    (no_difference (length bytes) saved_size passed.2)
    (no_difference (number4 bytes sum_at) (body_sum (take sum_at bytes)) passed.3)
