-- Document 01's numbers of the kinds of pages: "Kind 0 is the opening page", "Kinds 1 to 4 are request, slip, ack,
-- ruling", "Kind 5 is a balance question".
use Rattle.std.specs.Prelude.{◌≡◌, ℕ, ◌<◌, Result, MatchResult}
use Rattle.pages.specs.declared.kinds.Kind.{Kind}
use Rattle.pages.specs.declared.kinds.Kind.TheVariants.{Opening, Request, Circulated, Ack, Decision, Inquiry}
use Rattle.pages.specs.declared.kinds.UnknownKind.{UnknownKind}

abbrev pub number_of : Kind → ℕ
number_of Opening = 0
number_of Request = 1
number_of Circulated = 2
number_of Ack = 3
number_of Decision = 4
number_of Inquiry = 5

-- the kind with this number, or the number, which no kind has
abbrev pub Decodes : ℕ → Result Kind UnknownKind → Type 0
Decodes number r = MatchResult r (λ kind. number_of kind ≡ number) (λ e. (e.0 ≡ number) × (5 < number))
