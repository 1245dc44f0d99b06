-- A sound bundle is the bundle of its own pages, and each page behind page 0 is that of a message: so written
-- out again it is the same bytes.
use Rattle.std.specs.Prelude.{Some, Ok}
use Prim.Native.Nat.{ℕ, zero, suc, ◌+◌, ◌*◌, ◌-◌, ◌≤◌, ◌<◌}
use native.Mathlib.Numerals.{add-one}
use native.Mathlib.Omega.{arith}
use borrow.Author.Tests.{lt-ltb, le-ltb}
use mathlib.Core.Path.{◌≡◌, refl, ap, sym, ◌∙◌}
use mathlib.Core.Bool.{true, false, not, ◌&&◌}
use mathlib.Core.List.{List, [], ◌∷◌, ◌++◌, map}
use lib.Dec.{eqb, eqb-suc-zero}
use lib.ListN.{length, get_or, take, drop, length-drop, length-map, take-append-drop, drop_of_length-le}
use lib.Seq.{length-take-le, drop-cons, drop-drop, take-add}
use Rattle.model.specs.declared.Opening.{Opening}
use Rattle.model.specs.declared.Message.{Message}
use Rattle.model.specs.Bundles.{Page, number_at, entry_count, contents_at, body_length, start_at, misplaced, page_at, check_bundle, body_sum, taken, read_next, opening_of, message_of}
use Rattle.model.specs.Writing.{number_bytes, Bytes, page_zero, message_page, entry_bytes, entry_for, contents_of, bodies_of, bundle_of, written}
use Rattle.laws.proofs.Numbers.{number_written, dropped_bytes, taken_bytes, joined}
use Rattle.laws.proofs.Sums.{impossible}
use Rattle.bundle.proofs.Longest.{few_entries, right_entries, right_end, right_sums, right_entry, kind_later, no_difference, wrong_at}
use Rattle.writer.specs.RoundTrips.{AllFit, ReadsFrom, WritesBack, ReadThenWrite, Reads}
use Rattle.writer.proofs.PagesBack.{opening_fits, first_back, PageBack, page_back}

-- two bytes at a place
bytes_there : (bytes : List ℕ) (at next : ℕ) → next ≡ suc at → next < length bytes
    → get_or bytes at 0 ∷ get_or bytes next 0 ∷ [] ≡ take 2 (drop at bytes)
bytes_there bytes at next e h = rw (e, drop-cons bytes at 0 (omega arith), drop-cons bytes (suc at) 0 (omega arith))

-- the pages of a bundle, so many from an entry on
abbrev pages_from : List ℕ → ℕ → ℕ → List Page
pages_from bytes zero i = []
pages_from bytes (suc left) i = page_at bytes i ∷ pages_from bytes left (suc i)

pages_length : (bytes : List ℕ) (left i : ℕ) → length (pages_from bytes left i) ≡ left
pages_length bytes zero i = refl
pages_length bytes (suc left) i = ap suc (pages_length bytes left (suc i))

-- the same first page and the same others
listed : {p q : Page} {ps qs : List Page} → p ≡ q → ps ≡ qs → p ∷ ps ≡ q ∷ qs
listed e f = cc

-- no body starts before an earlier one
starts_rise : (bytes : List ℕ) (i more k : ℕ) → i + more ≡ k → start_at bytes i ≤ start_at bytes k
starts_rise bytes i zero k e = let same : i ≡ k = omega arith in omega (arith, ap (start_at bytes) same)
starts_rise bytes i (suc more) zero e = absurd (omega arith)
starts_rise bytes i (suc more) (suc k) e = omega (arith, starts_rise bytes i more k (omega arith))

-- the kind of entry 0 is 0
kind_first : (kind : ℕ) → misplaced 0 kind ≡ false → kind ≡ 0
kind_first zero e = refl
kind_first (suc kind) e = let wrong : true ≡ false = simp (eqb-suc-zero kind) at e in impossible (cc)

-- what a reading finds before the end
page_taken : (bytes : List ℕ) (i : ℕ) → i < entry_count bytes → read_next bytes i ≡ taken (page_at bytes i) (i + 1)
page_taken bytes i inside = rw (lt-ltb i (entry_count bytes) inside)

-- one page has one message
one_message : {p q : Page} {m n : Message} → p ≡ q → message_of p ≡ Some m → message_of q ≡ Some n → m ≡ n
one_message e r s = let both = sym r ∙ ap message_of e ∙ s in cc

-- read_next is a function: what a reading finds is one list
one_from : (bytes : List ℕ) (i : ℕ) (ms ns : List Message) → ReadsFrom bytes i ms → ReadsFrom bytes i ns → ms ≡ ns
one_from bytes i [] [] r s = refl
one_from bytes i [] (n ∷ ns) r s = impossible (cc s.1)
one_from bytes i (m ∷ ms) [] r s = impossible (cc r.1)
one_from bytes i (m ∷ ms) (n ∷ ns) r s =
    let page : r.0 ≡ s.0 = cc (r.1, s.1) in
    let first = one_message page r.2 s.2 in
    let others = one_from bytes (i + 1) ms ns r.3 s.3 in
    cc

-- so any bytes are read as one page and one list
read_once : (bytes : List ℕ) (o q : Opening) (ms ns : List Message) → Reads bytes o ms → Reads bytes q ns → (o ≡ q) × (ms ≡ ns)
read_once bytes o q ms ns r s =
    let page : r.page.0 ≡ s.page.0 = cc (r.page.1, s.page.1) in
    (cc (page, r.page.2, s.page.2), one_from bytes 1 ms ns r.messages s.messages)

module _ (bytes : List ℕ) (m : ℕ) (small : Bytes bytes) (sound : check_bundle bytes ≡ Ok m) where
  -- an entry of a sound bundle is right, and in the bundle,
  module _ (i : ℕ) (inside : i < entry_count bytes) where
    entry_right : wrong_at bytes i ≡ false
    entry_right = right_entries bytes m sound i (omega arith) (omega arith)

    start_right : (contents_at bytes i).start ≡ start_at bytes i
    start_right = (right_entry i (start_at bytes i) (contents_at bytes i) entry_right).3

    seat_right : (not (eqb (contents_at bytes i).kind 3) && not (eqb (contents_at bytes i).seat 0)) ≡ false
    seat_right = (right_entry i (start_at bytes i) (contents_at bytes i) entry_right).2

    sum_right : (contents_at bytes i).sum ≡ body_sum (page_at bytes i).body
    sum_right = no_difference (contents_at bytes i).sum (body_sum (page_at bytes i).body) (right_sums bytes m sound i (omega arith) (omega arith))

    ends_inside : start_at bytes (suc i) ≤ length bytes
    ends_inside =
        omega (arith, right_end bytes m sound, starts_rise bytes (suc i) (entry_count bytes - suc i) (entry_count bytes) (omega arith))

    entry_inside : 10 + 8 * i ≤ length bytes
    entry_inside = omega (arith, right_end bytes m sound, starts_rise bytes 0 (entry_count bytes) (entry_count bytes) (omega arith))

    -- its body stands at its start, is whole, and is bytes,
    body_there : (page_at bytes i).body ≡ take (body_length (contents_at bytes i).kind) (drop (start_at bytes i) bytes)
    body_there = ap (λ (at : ℕ). take (body_length (contents_at bytes i).kind) (drop at bytes)) start_right

    body_whole : length (page_at bytes i).body ≡ body_length (contents_at bytes i).kind
    body_whole =
        let ends = ends_inside in
        let left = length-drop (start_at bytes i) bytes in
        let size = body_length (contents_at bytes i).kind in
        ap length body_there ∙ length-take-le size (drop (start_at bytes i) bytes) (omega arith)

    body_small : Bytes (page_at bytes i).body
    body_small =
        let start = (contents_at bytes i).start in
        taken_bytes (drop start bytes) (body_length (contents_at bytes i).kind) (dropped_bytes bytes start small)

    -- and its 8 bytes are the entry of its page
    number_there : (width x place n : ℕ) → place ≡ 2 + 8 * i + n → n + width ≤ 8 → number_at width bytes place ≡ x
        → number_bytes width x ≡ take width (drop n (drop (2 + 8 * i) bytes))
    number_there width x place n there fits e =
        let entry = entry_inside in
        let behind = ap (λ (at : ℕ). drop at bytes) there ∙ sym (drop-drop n (2 + 8 * i) bytes) in
        ap (number_bytes width) (sym e) ∙ number_written width bytes place small (omega arith) ∙ ap (take width) behind

    entry_there : entry_bytes (entry_for (start_at bytes i) (page_at bytes i)) ≡ take 8 (drop (2 + 8 * i) bytes)
    entry_there =
        let entry = entry_inside in
        let here = drop (2 + 8 * i) bytes in
        let start = number_there 2 (start_at bytes i) (4 + 8 * i) 2 (omega arith) (omega arith) start_right in
        let sum = number_there 4 (body_sum (page_at bytes i).body) (6 + 8 * i) 4 (omega arith) (omega arith) sum_right in
        let front = joined (bytes_there bytes (2 + 8 * i) (3 + 8 * i) (omega arith) (omega arith)) start ∙ sym (take-add 2 2 here) in
        joined front sum ∙ sym (take-add 4 4 here)

  -- from an entry on, the entries of its pages are in the contents, and their bodies are the rest of the bundle:
  contents_there : (left i : ℕ) → i + left ≡ entry_count bytes
      → contents_of (start_at bytes i) (pages_from bytes left i) ≡ take (8 * left) (drop (2 + 8 * i) bytes)
  contents_there zero i e = refl
  contents_there (suc left) i e =
      let here = drop (2 + 8 * i) bytes in
      let next : 2 + 8 * suc i ≡ 2 + 8 * i + 8 = omega arith in
      let size : 8 + 8 * left ≡ 8 * suc left = omega arith in
      let start = ap (λ (n : ℕ). contents_of (start_at bytes i + n) (pages_from bytes left (suc i))) (body_whole i (omega arith)) in
      let behind = ap (λ (at : ℕ). drop at bytes) next ∙ sym (drop-drop 8 (2 + 8 * i) bytes) in
      let others = start ∙ contents_there left (suc i) (omega arith) ∙ ap (take (8 * left)) behind in
      joined (entry_there i (omega arith)) others ∙ sym (take-add 8 (8 * left) here) ∙ ap (λ (n : ℕ). take n here) size

  bodies_there : (left i : ℕ) → i + left ≡ entry_count bytes → bodies_of (pages_from bytes left i) ≡ drop (start_at bytes i) bytes
  bodies_there zero i e =
      let last : i ≡ entry_count bytes = omega arith in
      let end = right_end bytes m sound ∙ ap (start_at bytes) (sym last) in
      sym (drop_of_length-le bytes {i = start_at bytes i} (omega arith))
  bodies_there (suc left) i e =
      let size = body_length (contents_at bytes i).kind in
      let others = bodies_there left (suc i) (omega arith) ∙ sym (drop-drop size (start_at bytes i) bytes) in
      joined (body_there i (omega arith)) others ∙ take-append-drop size (drop (start_at bytes i) bytes)

  -- so it is the bundle of its pages
  same_bundle : bundle_of (pages_from bytes (entry_count bytes) 0) ≡ bytes
  same_bundle =
      let count = entry_count bytes in
      let pages = pages_from bytes count 0 in
      let few = few_entries bytes m sound in
      let entry = entry_inside 0 (omega arith) in
      let counted = ap (λ (n : ℕ). number_bytes 2 n ++ contents_of (2 + 8 * n) pages ++ bodies_of pages) (pages_length bytes count 0) in
      let contents = joined (number_written 2 bytes 0 small (omega arith)) (contents_there count 0 (omega arith)) in
      let front = contents ∙ sym (take-add 2 (8 * count) bytes) in
      counted ∙ joined front (bodies_there count 0 (omega arith)) ∙ take-append-drop (2 + 8 * count) bytes

  -- These are the messages of so many pages from an entry on.
  record Asked (left i : ℕ) (ms : List Message) : Type 0 where
    pages : map message_page ms ≡ pages_from bytes left i
    reads : ReadsFrom bytes i ms
    fits : AllFit ms

  -- each page behind page 0 is that of a message
  message_there : (i : ℕ) → suc i < entry_count bytes → (asked : Message) × PageBack (page_at bytes (suc i)) asked
  message_there i inside =
      let kind = kind_later i (start_at bytes (suc i)) (contents_at bytes (suc i)) (entry_right (suc i) inside) in
      page_back
      (page_at bytes (suc i))
      (body_small (suc i) inside)
      (body_whole (suc i) inside)
      (small (3 + 8 * suc i))
      (seat_right (suc i) inside)
      kind.1
      kind.0

  one_more_lem : {left i : ℕ} {first : Message} {ms : List Message} → i < entry_count bytes → PageBack (page_at bytes i) first
      → Asked left (suc i) ms → Asked (suc left) i (first ∷ ms)
  one_more_lem {i = i} inside page others =
      record {
        pages = listed page.same others.pages;
        reads = (page_at bytes i, page_taken bytes i inside, page.asked, rw (add-one i) others.reads);
        fits = (page.fits, others.fits);
      }

  all_asked : (left i : ℕ) → suc i + left ≡ entry_count bytes → (ms : List Message) × Asked left (suc i) ms
  all_asked zero i e = ([], record { pages = refl; reads = rw (le-ltb (suc i) (entry_count bytes) (omega arith)); fits = tt })
  all_asked (suc left) i e =
      let page = message_there i (omega arith) in
      let others = all_asked left (suc i) (omega arith) in
      (page.0 ∷ others.0, one_more_lem (omega arith) page.1 others.1)

  -- page 0 is that of the opening which it is read as
  page_zero_lem : page_zero (opening_of (page_at bytes 0).body) ≡ page_at bytes 0
  page_zero_lem =
      let few = few_entries bytes m sound in
      let inside : 0 < entry_count bytes = omega arith in
      let right = right_entry 0 (start_at bytes 0) (contents_at bytes 0) (entry_right 0 inside) in
      let kind = kind_first (contents_at bytes 0).kind right.1 in
      let seat = no_difference (contents_at bytes 0).seat 0 (rw kind at right.2) in
      first_back (page_at bytes 0) kind seat (body_small 0 inside) (body_whole 0 inside ∙ ap body_length kind)

  writes_back : (left : ℕ) → suc left ≡ entry_count bytes → (o : Opening) × (ms : List Message) × WritesBack bytes o ms
  unfolding written
  writes_back left e =
      let few = few_entries bytes m sound in
      let p = page_at bytes 0 in
      let o = opening_of p.body in
      let asked = all_asked left 0 (omega arith) in
      let ms = asked.0 in
      let pages = listed page_zero_lem asked.1.pages ∙ ap (λ (n : ℕ). pages_from bytes n 0) e in
      let reads : Reads bytes o ms = record { page = (p, page_taken bytes 0 (omega arith), refl); messages = asked.1.reads } in
      let count = sym (length-map ms message_page) ∙ ap length asked.1.pages ∙ pages_length bytes left 1 in (
        o,
        ms,
        record {
          reads = reads;
          only = λ q ns other. read_once bytes q o ns ms other reads;
          page = opening_fits p.body (body_small 0 (omega arith));
          messages = asked.1.fits;
          count = omega arith;
          same = ap bundle_of pages ∙ same_bundle;
        },
      )

-- "Writing out a bundle that was read without refusal yields its bytes."
pub read_then_write : ReadThenWrite
read_then_write bytes m small sound =
    let few = few_entries bytes m sound in
    writes_back bytes m small sound (entry_count bytes - 1) (omega arith)
