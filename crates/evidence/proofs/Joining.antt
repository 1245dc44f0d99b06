-- The answer of a join, test by test, and the part that shows it.
use Rattle.std.proofs.Common.{◌≡◌, ℕ, zero, suc, ◌≤◌, Bool, true, false, List, [], ◌∷◌, length, take, drop, Option, Some, None, MatchOption, IsSomeAnd, Decides, Ok, Err, refl, ap, sym, ◌∙◌, arith}
use Rattle.model.specs.declared.Transfer.{Transfer}
use Rattle.model.specs.declared.ContentsEntry.{ContentsEntry}
use Rattle.model.specs.declared.Refusal.TheVariants.{PagesDiffer}
use Rattle.model.specs.declared.FoundPair.{FoundPair}
use Rattle.model.specs.declared.JoinError.{JoinError}
use Rattle.model.specs.declared.Which.{Which}
use Rattle.model.specs.declared.Which.TheVariants.{First, Second, Neither}
use Rattle.model.specs.Types.{Evidence, refused_at, join_refused}
use Rattle.model.specs.Basics.{same}
use Rattle.model.specs.Replies.{code_of, values_of_evidence}
use Rattle.model.specs.Bundles.{entry_count, contents_at, body_length, page_of, page_at, unless_fault, faults, check_bundle}
use Rattle.model.specs.Joins.{earliest_pair, answer_of, page_faults, evidence, bundle_named, entry_named}
use Rattle.laws.proofs.Faults.{fault_told, read_off, read_off_lem}
use Rattle.laws.proofs.Sums.{same_sound, same_refl}
use Rattle.bundle.proofs.Longest.{few_entries}
use Rattle.reader.specs.Promises.{opening_body}
use Rattle.reader.proofs.Pages.{opens_with}
use Rattle.evidence.specs.Promises.{JoinedAs, ShownAs}

-- what decides whether two lists are one is the documents' test of it
pub decided_same : (r : Bool) (xs ys : List ℕ) → Decides r (xs ≡ ys) → r ≡ same xs ys
decided_same true xs ys is = rw (is.0 refl) (sym (same_refl ys))
decided_same false xs ys is = go (same xs ys) refl
  where
    go : (b : Bool) → same xs ys ≡ b → false ≡ b
    go true e = is.1 (same_sound xs ys e)
    go false e = refl

-- a sound bundle has at most 1,000 entries, and shows its opening page
pub few : (bytes : List ℕ) (m : ℕ) → check_bundle bytes ≡ Ok m → entry_count bytes ≤ 1_000
few bytes m sound = let parts = few_entries bytes m sound in omega (arith, parts.0, parts.2)

opens : (bytes : List ℕ) (m : ℕ) → check_bundle bytes ≡ Ok m → opening_body bytes ≡ (page_at bytes 0).body
opens bytes m sound = let parts = few_entries bytes m sound in opens_with bytes (omega (arith, parts.0, parts.1))

-- what is told of the pair, if there is one
pub all_told : (first : List ℕ) (ruled : Transfer) (o : Option (ℕ × ℕ)) (r : Option FoundPair)
    → MatchOption o (r ≡ None) (λ x. IsSomeAnd r (λ p. Ok (Some p) ≡ answer_of first ruled (Some x))) → Ok r ≡ answer_of first ruled o
all_told first ruled None r h = ap (λ (x : Option FoundPair). Ok x) h
all_told first ruled (Some x) None h = absurd h
all_told first ruled (Some x) (Some p) h = h

-- the check of a bundle refused it
abbrev pub Refused : List ℕ → Which → JoinError → Type 0
Refused bytes bundle e = (e.bundle ≡ bundle) × (check_bundle bytes ≡ refused_at e.refusal e.entry)

module _ (first second : List ℕ) (ruled : Transfer) where
  -- the answer by which the definition goes on, after each of its three checks
  abbrev last : Evidence
  last = answer_of first ruled (earliest_pair first second)

  abbrev third : Evidence
  third = unless_fault (λ r i. join_refused r Neither i) last (page_faults first second)

  abbrev next : Evidence
  next = unless_fault (λ r i. join_refused r Second i) third (faults second)

  -- number and values of an answer
  joined_as : {r : Evidence} → r ≡ evidence first second ruled → JoinedAs first second ruled r
  unfolding evidence
  joined_as e =
      record {
        meets = e;
        told = ap values_of_evidence e
            ∙ (fault_told values_of_evidence (λ r i. join_refused r First i) next (faults first)
            ∙ ap (λ (v : List ℕ). unless_fault (λ r i. code_of r ∷ 1 ∷ i ∷ []) v (faults first))
            (fault_told values_of_evidence (λ r i. join_refused r Second i) third (faults second)
            ∙ ap (λ (v : List ℕ). unless_fault (λ r i. code_of r ∷ 2 ∷ i ∷ []) v (faults second))
            (fault_told values_of_evidence (λ r i. join_refused r Neither i) last (page_faults first second))));
      }

  pub first_refused : {e : JoinError} → Refused first First e → JoinedAs first second ruled (Err e)
  unfolding evidence
  first_refused {e} h =
      joined_as
      (ap (λ (of : Which). join_refused e.refusal of e.entry) h.0
      ∙ sym (read_off_lem (λ r i. join_refused r First i) next first ∙ ap (read_off (λ r i. join_refused r First i) next) h.1))

  module _ {m : ℕ} (sound : check_bundle first ≡ Ok m) where
    goes_on : evidence first second ruled ≡ next
    unfolding evidence
    goes_on = read_off_lem (λ r i. join_refused r First i) next first ∙ ap (read_off (λ r i. join_refused r First i) next) sound

    pub second_refused : {e : JoinError} → Refused second Second e → JoinedAs first second ruled (Err e)
    second_refused {e} h =
        joined_as
        (ap (λ (of : Which). join_refused e.refusal of e.entry) h.0
        ∙ sym (goes_on ∙ (read_off_lem (λ r i. join_refused r Second i) third second ∙ ap (read_off (λ r i. join_refused r Second i) third) h.1)))

    module _ {k : ℕ} (too : check_bundle second ≡ Ok k) where
      goes_further : evidence first second ruled ≡ third
      goes_further = goes_on ∙ (read_off_lem (λ r i. join_refused r Second i) third second ∙ ap (read_off (λ r i. join_refused r Second i) third) too)

      -- the two pages, compared
      pages_are : {b : Bool} → b ≡ same (opening_body first) (opening_body second) → same (page_at first 0).body (page_at second 0).body ≡ b
      pages_are e = rw (← opens first m sound, ← opens second k too) (sym e)

      pub pages_differ : same (opening_body first) (opening_body second) ≡ false → JoinedAs first second ruled (join_refused PagesDiffer Neither 0)
      pages_differ e = joined_as (sym (goes_further ∙ rw (pages_are (sym e)) refl))

      pub pages_agree : same (opening_body first) (opening_body second) ≡ true → {r : Evidence} → r ≡ last → JoinedAs first second ruled r
      pages_agree e is = joined_as (is ∙ sym (goes_further ∙ rw (pages_are (sym e)) refl))

-- the front of a list is the front as long as it is
front : (n : ℕ) (xs : List ℕ) → take n xs ≡ take (length (take n xs)) xs
front zero xs = refl
front (suc n) [] = refl
front (suc n) (x ∷ xs) = ap (λ (ys : List ℕ). x ∷ ys) (front n xs)

-- the part that shows a pair, by the bundle, the place in it and the entry that are read
pub pair_shown : (first second : List ℕ) {found : Evidence} {pairs : Option FoundPair} (pair : FoundPair) {held : List ℕ} {at : ℕ} {c : ContentsEntry} {part : List ℕ}
    → found ≡ Ok pairs → pairs ≡ Some pair → held ≡ bundle_named pair.shown first second → at ≡ entry_named pair.shown pair.first pair.second
    → c ≡ contents_at held at → part ≡ (page_of held c).body → ShownAs first second found part
pair_shown first second pair {held} {at} {c} is some this place entry shows =
    record {
      bytes = shows ∙ rw (is, some, entry, this, place) refl;
      place = shows ∙ (front (body_length c.kind) (drop c.start held) ∙ rw (← shows, is, some, entry, place, this) refl);
    }
