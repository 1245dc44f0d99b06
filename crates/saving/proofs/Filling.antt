-- A saved book, written into a buffer of its size.
use Prim.Native.Nat.{ℕ}
use native.Mathlib.Omega.{arith}
use mathlib.Core.Path.{◌≡◌, ap, sym, ◌∙◌}
use mathlib.Core.List.{List, ◌++◌, append-nil}
use lib.ListN.{length, take, drop, length-append, drop_of_length-le}
use lib.Seq.{take-append_seam}
use Rattle.model.specs.Bundles.{body_sum}
use Rattle.model.specs.Writing.{number_bytes}
use Rattle.basics.specs.declared.output.Output.{Output}
use Rattle.basics.specs.Outputs.{Appends}
use Rattle.basics.proofs.Writing.{then, whole}
use Rattle.layout.specs.Layout.{book_words}
use Rattle.saving.specs.Saved.{sum_at, saved_size, summed, saved}
use Rattle.saving.proofs.RoundTrips.{summed_length}

-- an empty output of such a buffer, and after it all bytes before the sum
module _ (words out : List ℕ) {start mid : Output} (size : length words ≡ book_words) (room : length out ≡ saved_size)
    (empty : (start.buffer.now ≡ out) × (start.filled ≡ 0)) {m : ℕ} (front : Appends start (summed words) m mid) where
  -- their sum is that of what stands there
  front_there : take sum_at mid.buffer.now ≡ summed words
  front_there =
      let all = summed_length words size in
      let filled = (whole (rw (empty.0, empty.1) at front.writes) (omega arith)).0 in
      ap (λ (n : ℕ). take n mid.buffer.now) (sym all) ∙ ap (take (length (summed words))) filled
      ∙ take-append_seam (summed words) (drop (length (summed words)) out)

  -- with the sum behind them the buffer is full
  pub all_saved : {s n : ℕ} {final : Output} → s ≡ body_sum (take sum_at mid.buffer.now) → Appends mid (number_bytes 4 s) n final
      → final.buffer.now ≡ saved words
  unfolding saved
  all_saved {s} is last =
      let bytes = summed words ++ number_bytes 4 s in
      let count = length-append (summed words) (number_bytes 4 s) in
      let all = summed_length words size in
      let filled = (whole (rw (empty.0, empty.1) at (then front last).writes) (omega arith)).0 in
      let none = drop_of_length-le out {i = length bytes} (omega arith) in
      filled ∙ ap (λ (rest : List ℕ). bytes ++ rest) none ∙ append-nil bytes
      ∙ ap (λ (sum : ℕ). summed words ++ number_bytes 4 sum) (is ∙ ap body_sum front_there)
