-- A book that is loaded, told in numbers.
use Rattle.std.specs.Prelude.{ℕ, ◌≡◌, List, Result, Ok, Err}
use Rattle.saving.specs.declared.LoadError.{LoadError}
use Rattle.saving.specs.declared.LoadError.TheVariants.{WrongMark, UnknownFormat, WrongLength, WrongSum}
use Rattle.saving.specs.Saved.{load_reply, LoadedAs}

-- 0, or the answer's own number, which is none of the documents' codes
abbrev pub number_of_load : Result (Unit {0}) LoadError → ℕ
number_of_load (Ok u) = 0
number_of_load (Err WrongMark) = 101
number_of_load (Err UnknownFormat) = 102
number_of_load (Err WrongLength) = 103
number_of_load (Err WrongSum) = 104

-- A load: the number of its reply, and the words after it.
pub record ToldLoad (before bytes : List ℕ) (r : ℕ) (after : List ℕ) : Type 0 where
  pub told : r ≡ number_of_load (load_reply bytes)
  pub loaded : LoadedAs before bytes (load_reply bytes) after
