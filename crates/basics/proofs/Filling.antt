-- What a loop that fills an array knows at each turn: the places before `i` hold what is wanted there.
use Prim.Native.Nat.{ℕ, ◌+◌, ◌≤◌, ◌<◌}
use native.Mathlib.Numerals.{add-one}
use native.Mathlib.Omega.{arith}
use mathlib.Core.Path.{◌≡◌, refl, sym, ◌∙◌}
use mathlib.Core.List.{List}
use lib.ListN.{length, get_or, take, set, length-set}
use lib.Seq.{take_all, take-suc, take-suc-set}

pub record Filled {A : Type 0} (wanted out : List A) (i : ℕ) : Type 0 where
  pub size : length out ≡ length wanted
  pub before : take i out ≡ take i wanted

module _ {A : Type 0} {wanted out : List A} where
  pub filled_none : length out ≡ length wanted → Filled wanted out 0
  filled_none same = record { size = same; before = refl }

  module _ {i : ℕ} (f : Filled wanted out i) where
    pub filled_more : (x d : A) → i < length wanted → x ≡ get_or wanted i d → Filled wanted (set out i x) (i + 1)
    filled_more x d h right =
        record {
          size = rw length-set f.size;
          before = rw (add-one i, take-suc-set out i x (omega arith), take-suc wanted i d h, f.before, right);
        }

    pub filled_all : length wanted ≤ i → out ≡ wanted
    filled_all h = sym (take_all i out (omega arith)) ∙ f.before ∙ take_all i wanted h
