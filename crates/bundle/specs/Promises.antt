-- What the check and the reading of a bundle promise, by document 01's definitions in the model.
use Rattle.std.specs.Prelude.{◌≡◌, ℕ, ◌+◌, ◌<◌, cond, ◌⊎◌, List, [], ◌∷◌, length, nat_lt, Option, Some, None, Result, Ok, Err}
use Rattle.model.specs.declared.Refusal.{Refusal}
use Rattle.model.specs.declared.ContentsEntry.{ContentsEntry}
use Rattle.model.specs.Types.{BundleReply, refused_at}
use Rattle.model.specs.Bundles.{entry_count, contents_at, page_of, start_at, first_bad_entry, fault_values, faults, check_bundle, Reading, taken, no_more, read_next}
use Rattle.model.specs.Replies.{code_of, values_of_bundle}
use Rattle.bundle.specs.declared.Read.{Read}

-- The check of a bundle: the answer, and document 01's number and values of it.
pub record CheckedAs (bytes : List ℕ) (r : BundleReply) : Type 0 where
  pub meets : r ≡ check_bundle bytes
  pub told : values_of_bundle r ≡ fault_values (entry_count bytes) (faults bytes)

-- what the walk over the contents finds: where the last body ends, or the lowest entry that is wrong
abbrev pub walked : Option ℕ → ℕ → Result ℕ ℕ
walked None end = Ok end
walked (Some i) end = Err i

abbrev pub walk_of : List ℕ → Result ℕ ℕ
walk_of bytes = walked (first_bad_entry bytes) (start_at bytes (entry_count bytes))

-- a page's entry is taken, and this entry is next; or there are no more, and it stays at this one
abbrev pub taken_read : ContentsEntry → ℕ → Read
taken_read c i = record { page = Some c; next = record { next = i } }

abbrev pub ended_read : ℕ → Read
ended_read i = record { page = None; next = record { next = i } }

-- what a reading finds: the page with its body, and the next entry
abbrev pub reading_of : List ℕ → Read → Reading
reading_of bytes r = elim r.page [ None ↦ no_more r.next.next | Some c ↦ taken (page_of bytes c) r.next.next ]

-- what a reading replies: the next page's own entry and where to go on, or no more, and it stays
abbrev pub read_of : List ℕ → ℕ → Read
read_of bytes i = cond (nat_lt i (entry_count bytes)) (taken_read (contents_at bytes i) (i + 1)) (ended_read i)

-- an entry's kind, seat, start and sum
abbrev pub values_of_entry : ContentsEntry → List ℕ
values_of_entry c = c.kind ∷ c.seat ∷ c.start ∷ c.sum ∷ []

-- The reply's number and values, as `Replies` gives them of the other answers: 0, since a reading refuses
-- nothing; how many pages are taken, 1 or 0; the entry at which the reading goes on, or stays; and the
-- values of a taken page's entry.
abbrev pub values_of_read : Read → List ℕ
values_of_read r =
    elim r.page [ None ↦ 0 ∷ 0 ∷ r.next.next ∷ [] | Some c ↦ 0 ∷ 1 ∷ r.next.next ∷ values_of_entry c ]

-- these of document 01's reading: below m entry i is taken and i + 1 is next; from there on
-- none is, and the reading stays
abbrev pub read_values : List ℕ → ℕ → List ℕ
read_values bytes i =
    cond (nat_lt i (entry_count bytes)) (0 ∷ 1 ∷ (i + 1) ∷ values_of_entry (contents_at bytes i)) (0 ∷ 0 ∷ i ∷ [])

-- A reading: the reply, that it is what the model says, and document 01's number and values of it.
pub record ReadAs (bytes : List ℕ) (i : ℕ) (r : Read) : Type 0 where
  pub meets : r ≡ read_of bytes i
  pub told : reading_of bytes r ≡ read_next bytes i
  pub values : values_of_read r ≡ read_values bytes i

-- "a bundle of at most 18,123 bytes": m, 1,000 entries of 8 bytes, an opening page and 999 other bodies
abbrev pub longest : ℕ
longest = 18_123

-- "a longer input gives 13, 14 or 15"
abbrev pub RefusedEarly : BundleReply → Type 0
RefusedEarly reply =
    (r : Refusal) × (i : ℕ) × (reply ≡ refused_at r i) × ((code_of r ≡ 13) ⊎ (code_of r ≡ 14) ⊎ (code_of r ≡ 15))

abbrev pub LongRefused : Type 0
LongRefused = (bytes : List ℕ) → longest < length bytes → RefusedEarly (check_bundle bytes)
