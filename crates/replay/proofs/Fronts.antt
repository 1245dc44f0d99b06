-- As much of an input as the longest bundle has, and one byte more, gives the text of the whole: a longer
-- bundle is refused, and by its front.
use Rattle.std.specs.Prelude.{Ok, Err}
use Prim.Native.Nat.{ℕ, ◌<◌, min}
use native.Mathlib.Decide.{dec_lt}
use native.Mathlib.Omega.{arith}
use mathlib.Core.Path.{◌≡◌, refl, ap, sym, ◌∙◌}
use mathlib.Core.List.{List}
use lib.ListN.{length, take}
use lib.Seq.{take_all}
use Rattle.model.specs.Types.{BundleReply}
use Rattle.model.specs.Bundles.{check_bundle}
use Rattle.bundle.proofs.Longest.{front, read_front}
use Rattle.bundle.specs.Promises.{longest}
use Rattle.replay.specs.Text.{checked_text, text_of}
use Rattle.replay.specs.Promises.{Replayed, ReplayedInput, SameText}

pub same_text : SameText
same_text n large bytes = rw (front bytes n large) (go (check_bundle bytes) refl)
  where
    go : (r : BundleReply) → check_bundle bytes ≡ r → checked_text (take n bytes) r ≡ checked_text bytes r
    go (Ok m) e = rw (read_front bytes n m large e)
    go (Err q) e = refl

-- so the text of what was read into a buffer of more bytes than the longest bundle has is that of the input
pub text_of_input : (input : List ℕ) (read n : ℕ) {before after : List ℕ} {r : ℕ} → longest < length input → take n input ≡ take read input
    → Replayed (text_of (take n input)) before after r → ReplayedInput input read before after r
text_of_input input read n large all w =
    record { replayed = rw all at w; whole = λ bytes first. sym (same_text (length input) large bytes) ∙ ap text_of first }

-- as many bytes as were read, or the whole
pub first_of_input : (input : List ℕ) (read n : ℕ) {size : ℕ} → length input ≡ size → n ≡ min read size → take n input ≡ take read input
first_of_input input read n {size} long is = go (dec_lt read size)
  where
    go : Dec (read < size) → take n input ≡ take read input
    go (yes l) = ap (λ (k : ℕ). take k input) (omega (arith, is))
    go (no l) = take_all n input (omega (arith, is, long)) ∙ sym (take_all read input (omega (arith, long)))
