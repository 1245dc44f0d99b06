-- Which pages a reading takes, and what it shows of them.
use Prim.Native.Nat.{ℕ, zero, suc, ◌+◌, ◌≤◌, ◌<◌}
use native.Mathlib.Omega.{arith}
use mathlib.Core.Path.{◌≡◌, refl, sym, ap, ◌∙◌}
use mathlib.Core.Bool.{Bool, true, false, cond}
use mathlib.Core.List.{List, []}
use lib.Dec.{ltb}
use borrow.Author.Tests.{lt-ltb, ltb-true, ltb-false}
use Rattle.model.specs.Bundles.{entry_count, contents_at, page_at}
use Rattle.bundle.specs.declared.Read.{Read}
use Rattle.bundle.specs.Promises.{read_of, taken_read, ended_read, ReadAs}
use Rattle.bundle.proofs.Reading.{reads_page, reads_none}
use Rattle.reader.specs.Promises.{place_after, last_body, opening_body}

module _ (bytes : List ℕ) where
  -- up to the last page a reading that was asked k times stands at entry k, and from there on behind the last
  stands_inside : (k : ℕ) → k ≤ entry_count bytes → place_after bytes k ≡ k
  stands_inside zero h = refl
  stands_inside (suc k) h =
      ap (λ i. (read_of bytes i).next.next) (stands_inside k (omega arith)) ∙ ap (λ (r : Read). r.next.next) (sym (reads_page bytes k (omega arith) refl).meets) ∙ omega arith

  stands_behind : (k : ℕ) → entry_count bytes ≤ k → place_after bytes k ≡ entry_count bytes
  stands_behind zero h = omega arith
  stands_behind (suc k) h = go (ltb k (entry_count bytes)) refl (stands_behind k)
    where
      go : (b : Bool) → ltb k (entry_count bytes) ≡ b → (entry_count bytes ≤ k → place_after bytes k ≡ entry_count bytes) → place_after bytes (suc k) ≡ entry_count bytes
      go true inside before = let last : suc k ≤ entry_count bytes = ltb-true k (entry_count bytes) inside in stands_inside (suc k) last ∙ omega (arith, last)
      go false over before =
          let past : entry_count bytes ≤ k = ltb-false k (entry_count bytes) over in
          ap (λ i. (read_of bytes i).next.next) (before past) ∙ ap (λ (r : Read). r.next.next) (sym (reads_none bytes (entry_count bytes) (omega arith)).meets)

  -- "A reading of a bundle goes on from the page last taken": asked the k-th time, from 0, it takes page k
  pub takes_in_order : (k : ℕ) → k < entry_count bytes → read_of bytes (place_after bytes k) ≡ taken_read (contents_at bytes k) (k + 1)
  takes_in_order k inside = rw (stands_inside k (omega arith)) (sym (reads_page bytes k inside refl).meets)

  -- "After the last page it replies that there are no more, and stays there."
  pub stays_at_end : (k : ℕ) → entry_count bytes ≤ k → read_of bytes (place_after bytes k) ≡ ended_read (entry_count bytes)
  stays_at_end k over = rw (stands_behind k over) (sym (reads_none bytes (entry_count bytes) (omega arith)).meets)

  -- "What a page shows is that body's own bytes in the bundle": when page k was taken, its body
  pub shows_taken : (k : ℕ) → k < entry_count bytes → last_body bytes (place_after bytes (suc k)) ≡ (page_at bytes k).body
  shows_taken k inside = rw (stands_inside (suc k) (omega arith))

  -- a reading that was at entry 0 and was asked once shows the opening page
  pub shows_first : (p : Read) → ReadAs bytes 0 p → last_body bytes p.next.next ≡ opening_body bytes
  shows_first p reads = ap (λ (r : Read). last_body bytes r.next.next) reads.meets ∙ go (ltb 0 (entry_count bytes))
    where
      go : (b : Bool) → last_body bytes (cond b (taken_read (contents_at bytes 0) 1) (ended_read 0)).next.next ≡ cond b (page_at bytes 0).body []
      go true = refl
      go false = refl

  -- which a bundle with a page has
  pub opens_with : 1 ≤ entry_count bytes → opening_body bytes ≡ (page_at bytes 0).body
  opens_with some = rw (lt-ltb 0 (entry_count bytes) some)
