-- Rules tried one list after the other.
use Rattle.std.specs.Prelude.{Result, Ok, Err}
use mathlib.Core.Path.{◌≡◌, refl}
use mathlib.Core.Bool.{Bool, true, false}
use mathlib.Core.List.{List, [], ◌∷◌, ◌++◌}
use Rattle.model.specs.declared.Refusal.{Refusal}
use Rattle.model.specs.Refusals.{Rule, first_refusal, check_of}
use Rattle.laws.proofs.Sums.{impossible}

-- where none of the first rules holds, those after them decide
pub passes : (rules more : List Rule) (q : Result (Unit {0}) Refusal) → Ok tt ≡ check_of (first_refusal rules)
    → q ≡ check_of (first_refusal more) → q ≡ check_of (first_refusal (rules ++ more))
passes [] more q none h = h
passes (rule ∷ rules) more q none h = go rule.0 refl (λ rest. passes rules more q rest h)
  where
    go : (b : Bool) → rule.0 ≡ b
        → (Ok tt ≡ check_of (first_refusal rules) → q ≡ check_of (first_refusal (rules ++ more)))
        → q ≡ check_of (first_refusal (rule ∷ rules ++ more))
    go true e rest = impossible (let z : Ok tt ≡ Err rule.1 = rw e at none in cc)
    go false e rest = rw e (rest (rw e at none))

-- where one of the first rules holds, it decides
pub fails : (rules more : List Rule) (r : Refusal) → Err r ≡ check_of (first_refusal rules)
    → Err r ≡ check_of (first_refusal (rules ++ more))
fails [] more r found = impossible (cc)
fails (rule ∷ rules) more r found = go rule.0 refl (fails rules more r)
  where
    go : (b : Bool) → rule.0 ≡ b
        → (Err r ≡ check_of (first_refusal rules) → Err r ≡ check_of (first_refusal (rules ++ more)))
        → Err r ≡ check_of (first_refusal (rule ∷ rules ++ more))
    go true e rest = rw e (rw e at found)
    go false e rest = rw e (rest (rw e at found))
