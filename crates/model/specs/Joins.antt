-- Document 02, request 7: "Which seat acknowledged two slips?" Of two bundles' bytes and a ruled slip.
use Rattle.std.specs.Prelude.{ℕ, ◌<◌, ◌≡◌, Bool, true, not, cond, ◌&&◌, List, [], ◌∷◌, ltb, eqb, Option, Some, None, is_some, Ok, Err}
use Rattle.model.specs.Types.{Seat, Transfer, Refusal, PagesDiffer, Which, First, Second, Neither, Evidence, join_refused, found_pair, no_pair}
use Rattle.model.specs.Basics.{first_where, same}
use Rattle.model.specs.Records.{seat_of}
use Rattle.model.specs.Transfers.{equal, conflict}
use Rattle.model.specs.Bundles.{entry_count, contents_at, Page, page_at, Fault, of_whole, unless_fault, faults, opening_of, transfer_of}

-- n, as the opening page has it, whatever it is
abbrev pub seats_of : List ℕ → ℕ
seats_of bytes = (opening_of (page_at bytes 0).body).seats

-- the page is an ack: it counts as it stands in the bundle, also one that a book would refuse
abbrev pub is_ack : Page → Bool
is_ack p = eqb p.kind 3

-- its seat, which the contents tell, and its slip, which the body tells
abbrev pub seat_on : Page → Seat
seat_on p = seat_of p.seat

abbrev pub slip_on : Page → Transfer
slip_on p = transfer_of p.body

-- "an ack in the first and an ack in the second from the same seat, below n, whose slips conflict": of two pages
abbrev pub conflicting_acks : ℕ → Page → Page → Bool
conflicting_acks n p q =
    is_ack p && is_ack q && eqb p.seat q.seat && ltb p.seat n && conflict (slip_on p) (slip_on q)

-- .. of entry i of the first bundle and entry j of the second
unfoldable pub is_pair : List ℕ → List ℕ → ℕ → ℕ → Bool
is_pair first second i j = conflicting_acks (seats_of first) (page_at first i) (page_at second j)

-- Such a pair.
pub record Pair (first second : List ℕ) (i j : ℕ) : Type 0 where
  pub in_first : i < entry_count first
  pub in_second : j < entry_count second
  pub is : is_pair first second i j ≡ true

-- the earliest entry of the second that makes a pair with entry i of the first
unfoldable pub partner_of : List ℕ → List ℕ → ℕ → Option ℕ
partner_of first second i = first_where (is_pair first second i) (entry_count second) 0

-- "The earliest entry in the first bundle wins,
abbrev pub earliest : List ℕ → List ℕ → Option ℕ
earliest first second = first_where (λ i. is_some (partner_of first second i)) (entry_count first) 0

-- then the earliest in the second."
abbrev pub with_partner : List ℕ → List ℕ → Option ℕ → Option (ℕ × ℕ)
with_partner first second None = None
with_partner first second (Some i) = elim (partner_of first second i) [ None ↦ None | Some j ↦ Some (i, j) ]

unfoldable pub earliest_pair : List ℕ → List ℕ → Option (ℕ × ℕ)
earliest_pair first second = with_partner first second (earliest first second)

-- "of the two bodies, the one that differs from a ruled slip given with the call ..; if both differ, the first
-- bundle's": which bundle's body is shown, by the slip of the first's
abbrev pub shown_by : Transfer → Transfer → Which
shown_by ruled t = cond (equal t ruled) Second First

-- "It replies the seat, both entries, and ..". "If there is no such pair it says so."
abbrev pub answer_of : List ℕ → Transfer → Option (ℕ × ℕ) → Evidence
answer_of first ruled None = no_pair
answer_of first ruled (Some (i, j)) =
    let p : Page = page_at first i in
    found_pair (seat_on p) i j (shown_by ruled (slip_on p))

-- "21 if the two opening pages differ": their bodies, in any byte. It names neither bundle, and entry 0
abbrev pub page_faults : List ℕ → List ℕ → List Fault
page_faults first second = (of_whole (not (same (page_at first 0).body (page_at second 0).body)), PagesDiffer) ∷ []

-- "Checks: the first bundle's 13 to 16, then the second's, then 21": the answer that the first fault makes, which is
-- told its bundle; else this one
abbrev pub unless_join_fault : {A : Type 0} → (Refusal → Which → ℕ → A) → A → List ℕ → List ℕ → A
unless_join_fault refused answer first second =
    unless_fault (λ r i. refused r First i)
    (unless_fault (λ r i. refused r Second i)
    (unless_fault (λ r i. refused r Neither i) answer (page_faults first second))
    (faults second))
    (faults first)

unfoldable pub evidence : List ℕ → List ℕ → Transfer → Evidence
evidence first second ruled = unless_join_fault join_refused (answer_of first ruled (earliest_pair first second)) first second

-- the bundle that is meant; neither has no bytes
abbrev pub bundle_named : Which → List ℕ → List ℕ → List ℕ
bundle_named First first second = first
bundle_named Second first second = second
bundle_named Neither first second = []

-- of a pair's entries the one in that bundle
abbrev pub entry_named : Which → ℕ → ℕ → ℕ
entry_named First i j = i
entry_named Second i j = j
entry_named Neither i j = 0

-- "shown as that body's bytes in whichever bundle holds it". Without a pair there are none
abbrev pub shown_body : List ℕ → List ℕ → Evidence → List ℕ
shown_body first second (Ok (Some p)) = (page_at (bundle_named p.shown first second) (entry_named p.shown p.first p.second)).body
shown_body first second (Ok None) = []
shown_body first second (Err e) = []

-- where they start there
abbrev pub shown_start : List ℕ → List ℕ → Evidence → ℕ
shown_start first second (Ok (Some p)) = (contents_at (bundle_named p.shown first second) (entry_named p.shown p.first p.second)).start
shown_start first second (Ok None) = 0
shown_start first second (Err e) = 0

-- and which bundle that is
abbrev pub shown_in : Evidence → Which
shown_in (Ok (Some p)) = p.shown
shown_in (Ok None) = Neither
shown_in (Err e) = Neither
