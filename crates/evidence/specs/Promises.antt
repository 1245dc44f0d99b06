-- What the join promises, by document 02's definitions in the model.
use Rattle.std.specs.Prelude.{ℕ, ◌≡◌, List, [], ◌∷◌, length, take, drop}
use Rattle.model.specs.declared.Transfer.{Transfer}
use Rattle.model.specs.Types.{Evidence}
use Rattle.model.specs.Replies.{code_of, number_of_which, values_of_evidence}
use Rattle.model.specs.Joins.{earliest_pair, answer_of, unless_join_fault, evidence, bundle_named, shown_body, shown_start, shown_in}

-- the number and values of document 02's answer: a refusal's code, which bundle it names, and the entry; or those of
-- the pair, if there is one
abbrev pub evidence_values : List ℕ → List ℕ → Transfer → List ℕ
evidence_values first second ruled =
    unless_join_fault (λ r of i. code_of r ∷ number_of_which of ∷ i ∷ [])
    (values_of_evidence (answer_of first ruled (earliest_pair first second)))
    first
    second

-- The join of two bundles: the answer, and document 02's number and values of it.
pub record JoinedAs (first second : List ℕ) (ruled : Transfer) (r : Evidence) : Type 0 where
  pub meets : r ≡ evidence first second ruled
  pub told : values_of_evidence r ≡ evidence_values first second ruled

-- The part that shows an answer: the bytes of the found body, none without a pair. They are bytes of the bundle that
-- the answer names, from the place where that body starts; that they are no copy is in the function's type.
pub record ShownAs (first second : List ℕ) (found : Evidence) (part : List ℕ) : Type 0 where
  pub bytes : part ≡ shown_body first second found
  pub place : part ≡ take (length part) (drop (shown_start first second found) (bundle_named (shown_in found) first second))
