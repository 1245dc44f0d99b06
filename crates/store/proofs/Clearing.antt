-- A part of a block cleared.
use Prim.Native.Nat.{ℕ, ◌+◌, ◌*◌, ◌-◌, ◌≤◌, ◌<◌}
use native.Mathlib.Decide.{dec_lt}
use native.Mathlib.Omega.{arith}
use mathlib.Core.Path.{◌≡◌, sym, ap, ◌∙◌}
use mathlib.Core.List.{List}
use lib.ListN.{length, get_or, replicate}
use Rattle.std.proofs.lemmas.List.{get_or-replicate, length-replicate}
use borrow.Author.Tests.{lt-ltb, le-ltb, le-leb, lt-leb}
use borrow.Rule.Slice.PartMut.{mid_of, put_mid}
use Rattle.layout.specs.Layout.{block_words, book_words, Block, block}
use Rattle.layout.specs.Blocks.{Changes}
use Rattle.store.specs.Stores.{cleared}
use Rattle.store.proofs.Parts.{part_length, part_stored}

-- what is at a place that is cleared, and at one that is not
cleared_inside : (w : Block) (i n j : ℕ) → i ≤ j → j < n → cleared w i n j ≡ 0
cleared_inside w i n j l h = rw (le-leb i j l, lt-ltb j n h)

cleared_outside : (w : Block) (i n j : ℕ) → (i ≤ j → j < n → ⊥) → cleared w i n j ≡ w j
cleared_outside w i n j out = go (dec_lt j i)
  where
    go : Dec (j < i) → cleared w i n j ≡ w j
    go (yes h) = rw (lt-leb i j h)
    go (no h) = rw (le-leb i j (omega arith), le-ltb j n (omega arith))

pub part_cleared : (ws ys : List ℕ) (a from to s k : ℕ) → length ws ≡ book_words → a < 32 → s ≡ a * block_words + from → from + k ≡ to → to ≤ block_words
    → ys ≡ replicate (length (mid_of s k ws)) 0 → Changes ws a (cleared (block ws a) from to) (put_mid s k ws ys)
part_cleared ws ys a from to s k size account start end inside zeros =
    part_stored ws ys a from s k _ size account start (omega arith) (ap length zeros ∙ length-replicate (length (mid_of s k ws)) 0)
    (λ j l h. cleared_inside (block ws a) from to j l (omega arith)
    ∙ sym (ap (λ zs. get_or zs (j - from) 0) zeros ∙ get_or-replicate (length (mid_of s k ws)) (j - from) 0 0 (omega (arith, part_length ws s k (omega arith)))))
    (λ j out. cleared_outside (block ws a) from to j (λ l h. out l (omega arith)))
