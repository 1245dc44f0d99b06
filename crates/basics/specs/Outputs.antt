-- A lent buffer that is written from its front.
use Rattle.std.specs.Prelude.{ℕ, ◌+◌, ◌≤◌, ◌≡◌, cond, List, [], ◌∷◌, ltb, length, set}
use Rattle.basics.specs.declared.output.Output.{Output}

-- the buffer, and how much of its front is written
pub record Content : Type 0 where
  pub buffer : List ℕ
  pub filled : ℕ

abbrev pub content : List ℕ → ℕ → Content
content buffer filled = record { buffer = buffer; filled = filled }

-- one byte more; a buffer that is full stays as it is
abbrev pub with_byte : Content → ℕ → Content
with_byte o b =
    cond (ltb o.filled (length o.buffer)) (content (set o.buffer o.filled b) (o.filled + 1)) o

abbrev pub with_bytes : Content → List ℕ → Content
with_bytes o [] = o
with_bytes o (b ∷ bs) = with_bytes (with_byte o b) bs

-- The bytes are written at a place of the buffer, and the place behind them is replied; they are no more than `most`.
pub record Writes (before : List ℕ) (at : ℕ) (bytes : List ℕ) (most : ℕ) (after : List ℕ) (r : ℕ) : Type 0 where
  pub written : content after r ≡ with_bytes (content before at) bytes
  pub short : length bytes ≤ most

-- The same of an output: the bytes are written behind what it has, in the same buffer.
pub record Appends (before : Output) (bytes : List ℕ) (most : ℕ) (after : Output) : Type 0 where
  pub same_buffer : after.buffer.ghost_name ≡ before.buffer.ghost_name
  pub writes : Writes before.buffer.now before.filled bytes most after.buffer.now after.filled
