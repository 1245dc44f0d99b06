-- Laws of writing: bytes behind bytes are written as one, the buffer keeps its length, and a buffer with
-- enough room has the bytes in it.
use Prim.Native.Nat.{ℕ, suc, ◌+◌, ◌≤◌, ◌<◌}
use native.Mathlib.Nat.{zero-add}
use native.Mathlib.Numerals.{add-one}
use native.Mathlib.Omega.{arith}
use mathlib.Core.Path.{◌≡◌, refl, ap, sym, ◌∙◌}
use mathlib.Core.Bool.{Bool, true, false, cond}
use mathlib.Core.List.{List, [], ◌∷◌, ◌++◌, append-nil, append_assoc}
use lib.Dec.{ltb}
use lib.ListN.{length, set, drop, take, length-append, length-set}
use lib.Seq.{sets, sets-eq}
use borrow.Author.Tests.{lt-ltb, le-ltb}
use Rattle.basics.specs.declared.output.Output.{Output}
use Rattle.basics.specs.Outputs.{Content, content, with_byte, with_bytes, Writes, Appends}

-- a byte, where there is room and where there is none
pub byte_stored : (before : List ℕ) (at b : ℕ) → at < length before → Writes before at (b ∷ []) 1 (set before at b) (at + 1)
byte_stored before at b h = record { written = rw (lt-ltb at (length before) h); short = omega arith }

pub byte_refused : (before : List ℕ) (at b : ℕ) → length before ≤ at → Writes before at (b ∷ []) 1 before at
byte_refused before at b h = record { written = rw (le-ltb at (length before) h); short = omega arith }

-- no bytes at all
pub nothing : {o : Output} {n : ℕ} → Appends o [] n o
nothing = record { same_buffer = refl; writes = record { written = refl; short = omega arith } }

pub written_append : (o : Content) (xs ys : List ℕ) → with_bytes o (xs ++ ys) ≡ with_bytes (with_bytes o xs) ys
written_append o [] ys = refl
written_append o (x ∷ xs) ys = written_append (with_byte o x) xs ys

module _ {before after : Output} {xs : List ℕ} {m : ℕ} (w : Appends before xs m after) where
  -- another bound that the bytes keep
  pub bounded : {n : ℕ} → length xs ≤ n → Appends before xs n after
  bounded h = record { same_buffer = w.same_buffer; writes = record { written = w.writes.written; short = h } }

  -- equal bytes
  pub instead : {ys : List ℕ} → xs ≡ ys → Appends before ys m after
  instead e = rw e at w

  -- more bytes behind them
  pub then : {final : Output} {ys : List ℕ} {n : ℕ} → Appends after ys n final → Appends before (xs ++ ys) (m + n) final
  then {ys = ys} v =
      record {
        same_buffer = v.same_buffer ∙ w.same_buffer;
        writes =
            record {
              written = v.writes.written ∙ ap (λ o. with_bytes o ys) w.writes.written ∙ sym (written_append (content before.buffer.now before.filled) xs ys);
              short = simp length-append (omega (arith, w.writes.short, v.writes.short));
            };
      }

-- a larger bound
pub within : {before after : Output} {xs : List ℕ} {m n : ℕ} → m ≤ n → Appends before xs m after → Appends before xs n after
within h w = bounded w (omega (arith, w.writes.short))

byte_length : (o : Content) (b : ℕ) → length (with_byte o b).buffer ≡ length o.buffer
byte_length o b = go (ltb o.filled (length o.buffer))
  where
    go : (fits : Bool) → length (cond fits (content (set o.buffer o.filled b) (o.filled + 1)) o).buffer ≡ length o.buffer
    go true = length-set o.buffer o.filled b
    go false = refl

written_length : (o : Content) (bs : List ℕ) → length (with_bytes o bs).buffer ≡ length o.buffer
written_length o [] = refl
written_length o (b ∷ bs) = written_length (with_byte o b) bs ∙ byte_length o b

-- the buffer keeps its length
pub same_length : {before after xs : List ℕ} {at r m : ℕ} → Writes before at xs m after r → length after ≡ length before
same_length {before} {after} {xs} {at} w = ap (λ o. length o.buffer) w.written ∙ written_length (content before at) xs

-- where there is room, no byte is left out
stored : (bs before : List ℕ) (at : ℕ) → at + length bs ≤ length before → with_bytes (content before at) bs ≡ content (sets before at bs) (at + length bs)
stored [] before at h = ap (content before) (omega arith)
stored (b ∷ bs) before at h =
    ap (λ o. with_bytes o bs) (sym (byte_stored before at b (omega arith)).written ∙ ap (content (set before at b)) (add-one at))
    ∙ stored bs (set before at b) (suc at) (rw length-set (omega arith))
    ∙ ap (content (sets (set before at b) (suc at) bs)) (omega arith)

-- the buffer as it was, with the bytes in their place
pub placed : (before bs : List ℕ) (at : ℕ) → at + length bs ≤ length before
    → with_bytes (content before at) bs ≡ content (take at before ++ bs ++ drop (at + length bs) before) (at + length bs)
placed before bs at h = stored bs before at h ∙ ap (λ l. content l (at + length bs)) (sets-eq bs before at h)

-- the buffer's front is the bytes, the rest is as before
pub whole : {before after xs : List ℕ} {r m : ℕ} → Writes before 0 xs m after r → length xs ≤ length before
    → (after ≡ xs ++ drop (length xs) before) × (r ≡ length xs)
whole {before} {after} {xs} w h =
    let e = w.written ∙ placed before xs 0 (omega arith) in
    (ap (λ o. o.buffer) e ∙ rw zero-add, ap (λ o. o.filled) e ∙ omega arith)

-- What a loop that writes a whole piece by piece knows at each turn: some bytes are written, and with those
-- that are left they are the whole.
pub record Pieces (before : Output) (all left : List ℕ) (most : ℕ) (after : Output) : Type 0 where
  pub done : List ℕ
  pub goes_on : done ++ left ≡ all
  pub writes : Appends before done most after

pub pieces_more : {before mid after : Output} {all : List ℕ} {most n : ℕ} (piece left : List ℕ) → Pieces before all (piece ++ left) most mid → Appends mid piece n after
    → Pieces before all left (most + n) after
pieces_more piece left so_far w =
    record {
      done = so_far.done ++ piece;
      goes_on = append_assoc so_far.done piece left ∙ so_far.goes_on;
      writes = then so_far.writes w;
    }

pub pieces_all : {before after : Output} {all : List ℕ} {most : ℕ} → Pieces before all [] most after → Appends before all most after
pieces_all so_far = instead so_far.writes (sym (append-nil so_far.done) ∙ so_far.goes_on)
