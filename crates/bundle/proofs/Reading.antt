-- What a reading of a bundle tells of the place where it stands.
use Rattle.std.proofs.Common.{◌≡◌, ℕ, ◌+◌, ◌<◌, ◌≤◌, Bool, true, false, cond, ltb, List, sym, refl, ap, ◌∙◌, ltb-false, ltb-true, le-ltb, lt-ltb, Some, None}
use Rattle.model.specs.declared.ContentsEntry.{ContentsEntry}
use Rattle.model.specs.Bundles.{entry_count, contents_at, page_of, page_at}
use Rattle.laws.proofs.Sums.{impossible}
use Rattle.bundle.specs.declared.Read.{Read}
use Rattle.bundle.specs.Promises.{taken_read, ended_read, ReadAs}

module _ (bytes : List ℕ) (i : ℕ) where
  -- a page is left, and it is taken
  pub reads_page : {c : ContentsEntry} → i < entry_count bytes → c ≡ contents_at bytes i
      → ReadAs bytes i (taken_read c (i + 1))
  reads_page inside e = let test = lt-ltb i (entry_count bytes) inside in record { meets = rw (test, e); told = rw (test, e); values = rw (test, e) }

  -- no page is left
  pub reads_none : entry_count bytes ≤ i → ReadAs bytes i (ended_read i)
  reads_none over = let test = le-ltb i (entry_count bytes) over in record { meets = rw test; told = rw test; values = rw test }

  -- for a caller: there are pages left exactly if one is taken, which is the next
  pub took : {r : Read} → ReadAs bytes i r → {c : ContentsEntry} → r.page ≡ Some c
      → (i < entry_count bytes) × (page_of bytes c ≡ page_at bytes i) × (r.next.next ≡ i + 1)
  took {r} reads {c} e = go (ltb i (entry_count bytes)) refl (sym e ∙ ap (λ (x : Read). x.page) reads.meets) (ap (λ (x : Read). x.next.next) reads.meets)
    where
      read_by : Bool → Read
      read_by b = cond b (taken_read (contents_at bytes i) (i + 1)) (ended_read i)

      go : (b : Bool) → ltb i (entry_count bytes) ≡ b → Some c ≡ (read_by b).page → r.next.next ≡ (read_by b).next.next
          → (i < entry_count bytes) × (page_of bytes c ≡ page_at bytes i) × (r.next.next ≡ i + 1)
      go true inside page next =
          let same : c ≡ contents_at bytes i = cc in
          (ltb-true i (entry_count bytes) inside, ap (page_of bytes) same, next)
      go false over page next = impossible (cc)

  pub ended : {r : Read} → ReadAs bytes i r → r.page ≡ None → entry_count bytes ≤ i
  ended {r} reads e = go (ltb i (entry_count bytes)) refl (sym e ∙ ap (λ (x : Read). x.page) reads.meets)
    where
      read_by : Bool → Read
      read_by b = cond b (taken_read (contents_at bytes i) (i + 1)) (ended_read i)

      go : (b : Bool) → ltb i (entry_count bytes) ≡ b → None ≡ (read_by b).page → entry_count bytes ≤ i
      go true inside page = impossible (cc)
      go false over page = ltb-false i (entry_count bytes) over
