-- A part of an account's block, stored at once.
use Prim.Native.Nat.{ℕ, ◌+◌, ◌*◌, ◌-◌, ◌≤◌, ◌<◌}
use native.Mathlib.Decide.{dec_lt}
use native.Mathlib.Omega.{arith}
use mathlib.Core.Path.{◌≡◌, sym, ap, ◌∙◌, fun_ext}
use mathlib.Core.List.{List}
use lib.ListN.{length, get_or, get_or-append, take, drop, length-drop}
use lib.Seq.{length-take-le}
use borrow.Rule.Slice.PartMut.{put_mid, same_len_mid, mid_of}
use borrow.Author.Tests.{lt-ltb, le-ltb}
use Rattle.std.proofs.lemmas.List.{get_or-append_right, get_or-take, get_or-drop}
use Rattle.layout.specs.Layout.{block_words, book_words, Block, block}
use Rattle.layout.specs.Blocks.{Changes}

pub part_length : (ws : List ℕ) (s k : ℕ) → s + k ≤ length ws → length (mid_of s k ws) ≡ k
part_length ws s k h = length-take-le k (drop s ws) (omega (arith, length-drop s ws))

-- the words from s on, k of them, are these, and the others are as they were
module _ (ws ys : List ℕ) (s k : ℕ) (inside : s + k ≤ length ws) (count : length ys ≡ k) where
  front : length (take s ws) ≡ s
  front = length-take-le s ws (omega arith)

  word_there : (i : ℕ) → s ≤ i → i < s + k → get_or (put_mid s k ws ys) i 0 ≡ get_or ys (i - s) 0
  word_there i l h = get_or-append_right (take s ws) _ s i 0 front l ∙ get_or-append ys _ 0 (i - s) (omega arith)

  word_else : (i : ℕ) → (s ≤ i → i < s + k → ⊥) → get_or (put_mid s k ws ys) i 0 ≡ get_or ws i 0
  word_else i out = go (dec_lt i s)
    where
      go : Dec (i < s) → get_or (put_mid s k ws ys) i 0 ≡ get_or ws i 0
      go (yes h) = get_or-append (take s ws) _ 0 i (omega (arith, front)) ∙ get_or-take s ws i 0 h
      go (no h) =
          let behind : s + k ≤ i = omega arith in
          get_or-append_right (take s ws) _ s i 0 front (omega arith)
          ∙ get_or-append_right ys _ k (i - s) 0 count (omega arith)
          ∙ get_or-drop k (drop s ws) (i - s - k) 0
          ∙ get_or-drop s ws (k + (i - s - k)) 0
          ∙ ap (λ j. get_or ws j 0) (omega arith)

-- The account's block is w, of which these are the places from `from` on, and whose others are as they were.
module _ (ws ys : List ℕ) (a from s k : ℕ) (w : Block)
    (size : length ws ≡ book_words) (account : a < 32) (start : s ≡ a * block_words + from) (inside : from + k ≤ block_words)
    (as_many : length ys ≡ length (mid_of s k ws))
    (these : (j : ℕ) → from ≤ j → j < from + k → w j ≡ get_or ys (j - from) 0)
    (others : (j : ℕ) → (from ≤ j → j < from + k → ⊥) → w j ≡ block ws a j)
  where
    fits : s + k ≤ length ws
    fits = omega arith

    count : length ys ≡ k
    count = as_many ∙ part_length ws s k fits

    outside : (i : ℕ) → (s ≤ i → i < s + k → ⊥) → get_or (put_mid s k ws ys) i 0 ≡ get_or ws i 0
    outside = word_else ws ys s k fits count

    kept : (b j : ℕ) → (j < block_words → s ≤ b * block_words + j → b * block_words + j < s + k → ⊥) → block (put_mid s k ws ys) b j ≡ block ws b j
    kept b j out = go (dec_lt j block_words)
      where
        go : Dec (j < block_words) → block (put_mid s k ws ys) b j ≡ block ws b j
        go (yes l) = rw (lt-ltb j block_words l) (outside (b * block_words + j) (out l))
        go (no l) = rw (le-ltb j block_words (omega arith))

    here : (j : ℕ) → block (put_mid s k ws ys) a j ≡ w j
    here j = go (dec_lt j from) (dec_lt j (from + k))
      where
        else : (from ≤ j → j < from + k → ⊥) → block (put_mid s k ws ys) a j ≡ w j
        else out = kept a j (λ l p q. out (omega arith) (omega arith)) ∙ sym (others j out)

        go : Dec (j < from) → Dec (j < from + k) → block (put_mid s k ws ys) a j ≡ w j
        go (yes p) q = else (λ l r. absurd (omega arith))
        go (no p) (no q) = else (λ l r. q r)
        go (no p) (yes q) =
            rw (lt-ltb j block_words (omega arith))
            (word_there ws ys s k fits count (a * block_words + j) (omega arith) (omega arith) ∙ ap (λ i. get_or ys i 0) (omega arith))
            ∙ sym (these j (omega arith) q)

    pub part_stored : Changes ws a w (put_mid s k ws ys)
    part_stored =
        record {
          size = same_len_mid s k ws ys as_many;
          here = fun_ext here;
          others = λ b h. fun_ext (λ j. kept b j (λ l p q. h (omega arith)));
          group = λ i h. outside i (λ l r. absurd (omega arith));
        }
