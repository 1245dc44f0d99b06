-- What takes bytes, a lent buffer and a sum: and that bytes taken behind bytes are taken as one.
use Rattle.std.specs.Prelude.{ℕ, ◌+◌, ◌*◌, ◌%◌, ◌≡◌, List, [], ◌∷◌, ◌++◌, length, refl}
use Rattle.std.proofs.Common.{ap, sym, ◌∙◌}
use native.Mathlib.Nat.{le_refl}
use Rattle.model.specs.Bundles.{sum_from}
use Rattle.basics.specs.declared.output.Output.{Output}
use Rattle.basics.specs.Outputs.{Appends}
use Rattle.basics.proofs.Writing.{bounded, then, nothing}
use Rattle.writer.specs.declared.sinks.Sum.{Sum}

-- the bytes are written behind what the output has
abbrev pub OutputTakes : Output → List ℕ → Output → Type 0
OutputTakes before bytes after = Appends before bytes (length bytes) after

pub output_nothing : (a : Output) → OutputTakes a [] a
output_nothing a = nothing

pub output_then : (a b c : Output) (xs ys : List ℕ) → OutputTakes a xs b → OutputTakes b ys c → OutputTakes a (xs ++ ys) c
output_then a b c xs ys v w = bounded (then v w) (le_refl (length (xs ++ ys)))

-- the sum goes on over the bytes
abbrev pub SumTakes : Sum → List ℕ → Sum → Type 0
SumTakes before bytes after = after.0 ≡ sum_from before.0 bytes

pub sum_nothing : (a : Sum) → SumTakes a [] a
sum_nothing a = refl

sum_append : (s : ℕ) (xs ys : List ℕ) → sum_from s (xs ++ ys) ≡ sum_from (sum_from s xs) ys
sum_append s [] ys = refl
sum_append s (x ∷ xs) ys = sum_append ((31 * s + x) % 4_294_967_296) xs ys

pub sum_then : (a b c : Sum) (xs ys : List ℕ) → SumTakes a xs b → SumTakes b ys c → SumTakes a (xs ++ ys) c
sum_then a b c xs ys v w = w ∙ ap (λ (s : ℕ). sum_from s ys) v ∙ sym (sum_append a.0 xs ys)
