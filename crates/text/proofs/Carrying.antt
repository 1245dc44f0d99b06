-- Laws of lines: values behind values, and a letter with its values to the end of the line.
use Prim.Native.Nat.{ℕ, ◌+◌, ◌≤◌}
use native.Mathlib.Omega.{arith}
use mathlib.Core.Path.{◌≡◌, refl, ap, sym}
use mathlib.Core.List.{List, [], ◌∷◌, ◌++◌, append-nil, append_assoc}
use lib.ListN.{length}
use Rattle.basics.specs.declared.output.Output.{Output}
use Rattle.basics.specs.Outputs.{Appends}
use Rattle.basics.proofs.Writing.{bounded, instead, then, within}
use Rattle.text.specs.Lines.{decimal, carried, lettered}

carried_append : (vs ws : List ℕ) → carried (vs ++ ws) ≡ carried vs ++ carried ws
carried_append [] ws = refl
carried_append (v ∷ vs) ws = rw (carried_append vs ws, append_assoc)

-- The values are written, each behind a space.
pub record Carries (before : Output) (vs : List ℕ) (most : ℕ) (after : Output) : Type 0 where
  pub writes : Appends before (carried vs) most after

module _ {a b : Output} where
  -- a space and the digits are one value
  pub value : {c : Output} {m : ℕ} (n : ℕ) → Appends a (32 ∷ []) 1 b → Appends b (decimal n) m c → Appends a (carried (n ∷ [])) (1 + m) c
  value n v w = instead (then v w) (rw append-nil)

  -- values that are written; their list is not found by itself
  pub carries : {m : ℕ} (vs : List ℕ) → Appends a (carried vs) m b → Carries a vs m b
  carries vs w = record { writes = w }

  -- one value, with a bound from its digits
  pub narrow : {m d : ℕ} (n : ℕ) → Appends a (carried (n ∷ [])) m b → length (decimal n) ≤ d → Carries a (n ∷ []) (1 + d) b
  narrow n w h = record { writes = bounded w (omega (arith, ap length (append-nil (decimal n)))) }

  -- values behind values
  pub carry : {c : Output} {vs ws : List ℕ} {m n : ℕ} → Carries a vs m b → Carries b ws n c → Carries a (vs ++ ws) (m + n) c
  carry {vs = vs} {ws} v w = record { writes = instead (then v.writes w.writes) (sym (carried_append vs ws)) }

  -- a letter, values, and the end of the line
  pub line : {c d : Output} {vs : List ℕ} {letter m : ℕ} → Appends a (letter ∷ []) 1 b → Carries b vs m c → Appends c (10 ∷ []) 1 d
      → Appends a (lettered letter vs) (m + 2) d
  line l v e = within (omega arith) (then l (then v.writes e))
