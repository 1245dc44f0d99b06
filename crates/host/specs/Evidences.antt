-- The join of two bundles, told in words.
use Rattle.std.specs.Prelude.{ℕ, List, [], ◌∷◌, ◌++◌, take, replicate, Some, None, Ok, Err}
use Rattle.model.specs.declared.Transfer.{Transfer}
use Rattle.model.specs.Types.{Evidence}
use Rattle.model.specs.Replies.{values_of_transfer, values_of_evidence}
use Rattle.model.specs.Bundles.{transfer_of}
use Rattle.model.specs.Joins.{shown_body, shown_start}

-- of a pair also the place where the body starts that is shown, and the slip on it
abbrev pub also_told : Evidence → ℕ → Transfer → List ℕ
also_told (Ok (Some p)) start t = start ∷ values_of_transfer t
also_told (Ok None) start t = []
also_told (Err e) start t = []

-- the eleven words of an answer: its number and values, what is also told, and zeros
abbrev pub answer_words : Evidence → ℕ → Transfer → List ℕ
answer_words found start t = take 11 (values_of_evidence found ++ also_told found start t ++ replicate 11 0)

-- .. of two bundles: by the body that is shown, in the bundle that holds it
abbrev pub evidence_words : List ℕ → List ℕ → Evidence → List ℕ
evidence_words first second found = answer_words found (shown_start first second found) (transfer_of (shown_body first second found))
