-- What the answer of a check tells of the rules that it tried.
use Rattle.std.specs.Prelude.{Option, Some, None, Ok, Err}
use mathlib.Core.Path.{◌≡◌, refl}
use Rattle.model.specs.declared.Refusal.{Refusal}
use Rattle.laws.proofs.Sums.{impossible}
use Rattle.model.specs.Refusals.{check_of}

pub failed : (o : Option Refusal) (r : Refusal) → check_of o ≡ Err r → o ≡ Some r
failed None r e = impossible (cc)
failed (Some q) r e = cc

pub passed : (o : Option Refusal) → check_of o ≡ Ok tt → o ≡ None
passed None e = refl
passed (Some q) e = impossible (cc)
