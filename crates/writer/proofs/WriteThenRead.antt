-- The first round trip: what is written is sound, and read, it is the page and the list. The statement is
-- `WriteThenRead` in specs/RoundTrips.antt.
use Rattle.std.specs.Prelude.{None, Ok}
use Prim.Native.Nat.{ℕ, suc, ◌+◌, ◌*◌, ◌≤◌, ◌<◌}
use native.Mathlib.Nat.{zero-add}
use native.Mathlib.Numerals.{add-one}
use native.Mathlib.Omega.{arith}
use mathlib.Core.Path.{◌≡◌, refl, ap, sym, ◌∙◌}
use mathlib.Core.Bool.{false}
use mathlib.Core.List.{List, [], ◌∷◌, ◌++◌, map}
use lib.ListN.{length, get_or, drop, length-append, length-map}
use lib.Seq.{drop-drop, drop_at, drop-append_seam, take-append_seam, get_or-drop}
use borrow.Author.Tests.{lt-ltb, le-ltb, eq-eqb}
use Rattle.model.specs.declared.Opening.{Opening}
use Rattle.model.specs.declared.Message.{Message}
use Rattle.model.specs.declared.ContentsEntry.{ContentsEntry}
use Rattle.model.specs.Types.{BundleReply}
use Rattle.model.specs.Basics.{first_where}
use Rattle.model.specs.Bundles.{number_at, entry_count, contents_at, start_at, body_length, body_sum, Page, page_of, page_at, wrong_entry, bad_header, first_bad_entry, bad_end, wrong_sum_at, first_bad_sum, check_bundle, opening_of, message_of}
use Rattle.model.specs.Writing.{number_bytes, Bytes, page_zero, message_page, pages_of, entry_bytes, entry_for, contents_of, bodies_of, bundle_of, written}
use Rattle.laws.proofs.Numbers.{number_read, number_bytes_lem, no_bytes, one_byte, more_bytes, sum_below_lem}
use Rattle.bundle.proofs.Longest.{wrong_at}
use Rattle.writer.specs.RoundTrips.{AllFit, OpeningFits, ReadsFrom, ReadsBack, WriteThenRead}
use Rattle.writer.proofs.Pages.{message_read, opening_read, Right, opening_right, message_right, message_short, PageBytes, message_bytes, opening_bytes}

-- how many bytes the contents and the bodies have
entries_length : (start : ℕ) (ps : List Page) → length (contents_of start ps) ≡ 8 * length ps
entries_length start [] = refl
entries_length start (p ∷ ps) = omega (arith, entries_length (start + length p.body) ps)

pub messages_short : (ms : List Message) → length (bodies_of (map message_page ms)) ≤ 10 * length ms
messages_short [] = omega arith
messages_short (m ∷ ms) = rw length-append (omega (arith, message_short m, messages_short ms))

pub bundle_length : (ps : List Page) → length (bundle_of ps) ≡ 2 + 8 * length ps + length (bodies_of ps)
bundle_length ps =
    rw (length-append (contents_of (2 + 8 * length ps) ps) (bodies_of ps), entries_length (2 + 8 * length ps) ps) (omega arith)

-- the first of what is left
first_of : (bytes : List ℕ) (at : ℕ) {b : ℕ} {rest : List ℕ} → drop at bytes ≡ b ∷ rest → get_or bytes at 0 ≡ b
first_of bytes at e = let here : at ≡ at + 0 = omega arith in ap (λ k. get_or bytes k 0) here ∙ sym (get_or-drop at bytes 0 0) ∙ rw e

-- A place in a bundle: these pages are left, the entry of the first is entry i and its body starts at s;
-- behind all entries stands `after`.
record Here (bytes after : List ℕ) (i s : ℕ) (ps : List Page) : Type 0 where
  pub entries : drop (2 + 8 * i) bytes ≡ contents_of s ps ++ after
  pub bodies : drop s bytes ≡ bodies_of ps
  pub start : start_at bytes i ≡ s

module _ {bytes after : List ℕ} {i s : ℕ} {p : Page} {ps : List Page} (here : Here bytes after i s (p ∷ ps)) where
  -- behind the entry's first k bytes
  behind : (at k : ℕ) → at ≡ 2 + 8 * i + k
      → drop at bytes ≡ drop k (entry_bytes (entry_for s p) ++ contents_of (s + length p.body) ps ++ after)
  behind at k e = rw (e, ← drop-drop k (2 + 8 * i) bytes, here.entries)

  module _ (right : Right i p) (small : s < 65_536) where
    -- the entry is read as it was written,
    entry_read : contents_at bytes i ≡ entry_for s p
    entry_read =
        let kind : get_or bytes (2 + 8 * i) 0 ≡ p.kind = first_of bytes (2 + 8 * i) (behind (2 + 8 * i) 0 (omega arith)) in
        let seat : get_or bytes (3 + 8 * i) 0 ≡ p.seat = first_of bytes (3 + 8 * i) (behind (3 + 8 * i) 1 (omega arith)) in
        let start : number_at 2 bytes (4 + 8 * i) ≡ s = number_read 2 s (4 + 8 * i) bytes _ small (behind (4 + 8 * i) 2 (omega arith)) in
        let sum : number_at 4 bytes (6 + 8 * i) ≡ body_sum p.body =
        number_read 4 _ (6 + 8 * i) bytes _ (sum_below_lem p.body) (behind (6 + 8 * i) 4 (omega arith)) in
        rw (kind, seat, start, sum)

    -- and so is the page
    page_read : page_at bytes i ≡ p
    page_read = ap (page_of bytes) entry_read ∙ rw (← right.size, here.bodies, take-append_seam p.body (bodies_of ps))

    entry_right : wrong_at bytes i ≡ false
    entry_right = ap (wrong_entry i (start_at bytes i)) entry_read ∙ rw here.start (right.entry s (body_sum p.body))

    sum_right : wrong_sum_at bytes i ≡ false
    sum_right =
        let sum = ap (λ (c : ContentsEntry). c.sum) entry_read in
        let shown = ap (λ (q : Page). body_sum q.body) page_read in
        rw (eq-eqb (contents_at bytes i).sum (body_sum (page_at bytes i).body) (sum ∙ sym shown))

    -- the next page stands behind it
    next : Here bytes after (suc i) (s + length p.body) ps
    next =
        record {
          entries = behind (2 + 8 * suc i) 8 (omega arith);
          bodies = rw (← drop-drop (length p.body) s bytes, here.bodies) (drop-append_seam p.body (bodies_of ps));
          start = ap (λ (c : ContentsEntry). start_at bytes i + body_length c.kind) entry_read ∙ rw (here.start, right.size);
        }

-- every page is right at its entry
abbrev AllRight : ℕ → List Page → Type 0
AllRight i [] = Unit {0}
AllRight i (p ∷ ps) = Right i p × AllRight (suc i) ps

messages_right : (ms : List Message) (i : ℕ) → AllRight (suc i) (map message_page ms)
messages_right [] i = tt
messages_right (m ∷ ms) i = (message_right m i, messages_right ms (suc i))

-- What the check finds from a place on: no wrong entry, no wrong sum, and where the last body ends.
record Checks (bytes : List ℕ) (i s : ℕ) (ps : List Page) : Type 0 where
  pub entries : first_where (wrong_at bytes) (length ps) i ≡ None
  pub sums : first_where (wrong_sum_at bytes) (length ps) i ≡ None
  pub end : start_at bytes (i + length ps) ≡ s + length (bodies_of ps)

checks : {bytes after : List ℕ} {i s : ℕ} (ps : List Page) → Here bytes after i s ps → AllRight i ps → s + length (bodies_of ps) < 65_536
    → Checks bytes i s ps
checks {bytes} {i = i} {s} [] here right small =
    let place : i + 0 ≡ i = omega arith in
    let last : s ≡ s + 0 = omega arith in
    record { entries = refl; sums = refl; end = ap (start_at bytes) place ∙ here.start ∙ last }
checks {bytes} {i = i} {s} (p ∷ ps) here right small =
    let all = length-append p.body (bodies_of ps) in
    let first : s < 65_536 = omega arith in
    let place : i + suc (length ps) ≡ suc i + length ps = omega arith in
    let rest = checks {i = suc i} ps (next here right.0 first) right.1 (omega arith) in
    record {
      entries = rw (entry_right here right.0 first) rest.entries;
      sums = rw (sum_right here right.0 first) rest.sums;
      end = ap (start_at bytes) place ∙ rest.end ∙ omega arith;
    }

-- What is read from a place on: the messages whose pages are left, and then there are no more.
reads_from : {bytes after : List ℕ} {i s : ℕ} (ms : List Message) → Here bytes after (suc i) s (map message_page ms) → AllFit ms
    → s + length (bodies_of (map message_page ms)) < 65_536 → suc i + length ms ≡ entry_count bytes → ReadsFrom bytes (suc i) ms
reads_from {bytes} {i = i} [] here fit small left = rw (le-ltb (suc i) (entry_count bytes) (omega arith))
reads_from {bytes} {i = i} {s} (m ∷ ms) here fit small left =
    let all = length-append (message_page m).body (bodies_of (map message_page ms)) in
    let first : s < 65_536 = omega arith in
    let rest = reads_from {i = suc i} ms (next here (message_right m i) first) fit.1 (omega arith) (omega arith) in
    let page = page_read here (message_right m i) first in (
      page_at bytes (suc i),
      rw (lt-ltb (suc i) (entry_count bytes) (omega arith)),
      ap message_of page ∙ message_read m fit.0,
      rw (add-one (suc i)) rest,
    )

-- Bytes that say how many pages they have, at most 1,000, of which all are right and none is left out: they are sound.
module _ (bytes : List ℕ) (ps : List Page) (count : entry_count bytes ≡ length ps) (some_page : 1 ≤ length ps) (few : length ps ≤ 1_000)
    (size : length bytes ≡ 2 + 8 * length ps + length (bodies_of ps)) (found : Checks bytes 0 (2 + 8 * length ps) ps) where
  header_right : bad_header bytes ≡ false
  header_right =
      rw (
        le-ltb (length bytes) 2 (omega arith),
        count,
        le-ltb (length ps) 1 some_page,
        le-ltb 1_000 (length ps) few,
        le-ltb (length bytes) (2 + 8 * length ps) (omega arith),
      )

  end_right : bad_end bytes ≡ false
  end_right = rw (count, eq-eqb (length bytes) (start_at bytes (length ps)) (size ∙ sym (rw zero-add at found.end)))

  pages_sound : check_bundle bytes ≡ Ok (length ps)
  unfolding check_bundle
  pages_sound =
      let entries : first_bad_entry bytes ≡ None = rw count found.entries in
      let sums : first_bad_sum bytes ≡ None = rw count found.sums in
      rw (header_right, entries, end_right, sums, count)

-- The bundle of pages.
module _ (ps : List Page) (few : length ps < 65_536) where
  count_read : entry_count (bundle_of ps) ≡ length ps
  count_read = number_read 2 (length ps) 0 (bundle_of ps) (contents_of (2 + 8 * length ps) ps ++ bodies_of ps) few refl

  -- its first page
  at_first : Here (bundle_of ps) (bodies_of ps) 0 (2 + 8 * length ps) ps
  at_first =
      let contents = contents_of (2 + 8 * length ps) ps in
      let size : length (number_bytes 2 (length ps) ++ contents) ≡ 2 + 8 * length ps = omega (arith, entries_length (2 + 8 * length ps) ps) in
      record {
        entries = refl;
        bodies = drop_at (number_bytes 2 (length ps) ++ contents) (bodies_of ps) (2 + 8 * length ps) size;
        start = ap (λ m. 2 + 8 * m) count_read;
      }

-- What is written is bytes.
abbrev AllBytes : List Page → Type 0
AllBytes [] = Unit {0}
AllBytes (p ∷ ps) = PageBytes p × AllBytes ps

contents_bytes : (start : ℕ) (ps : List Page) → AllBytes ps → Bytes (contents_of start ps)
contents_bytes start [] small = no_bytes
contents_bytes start (p ∷ ps) small =
    let sum = number_bytes 4 (body_sum p.body) in
    let rest = contents_of (start + length p.body) ps in
    one_byte p.kind small.0.kind (p.seat ∷ number_bytes 2 start ++ sum ++ rest)
    (one_byte p.seat small.0.seat (number_bytes 2 start ++ sum ++ rest)
    (more_bytes (number_bytes 2 start) (sum ++ rest) (number_bytes_lem 2 start)
    (more_bytes sum rest (number_bytes_lem 4 (body_sum p.body)) (contents_bytes (start + length p.body) ps small.1))))

bodies_bytes : (ps : List Page) → AllBytes ps → Bytes (bodies_of ps)
bodies_bytes [] small = no_bytes
bodies_bytes (p ∷ ps) small = more_bytes p.body (bodies_of ps) small.0.body (bodies_bytes ps small.1)

bundle_bytes : (ps : List Page) → AllBytes ps → Bytes (bundle_of ps)
bundle_bytes ps small =
    let contents = contents_of (2 + 8 * length ps) ps in
    more_bytes (number_bytes 2 (length ps)) (contents ++ bodies_of ps) (number_bytes_lem 2 (length ps))
    (more_bytes contents (bodies_of ps) (contents_bytes (2 + 8 * length ps) ps small) (bodies_bytes ps small))

messages_bytes : (ms : List Message) → AllFit ms → AllBytes (map message_page ms)
messages_bytes [] fit = tt
messages_bytes (m ∷ ms) fit = (message_bytes m fit.0, messages_bytes ms fit.1)

module _ (o : Opening) (ms : List Message) (fits : OpeningFits o) (fit : AllFit ms) (few : length ms ≤ 999) where
  pages_count : length (pages_of o ms) ≡ suc (length ms)
  pages_count = ap suc (length-map ms message_page)

  bodies_short : length (bodies_of (pages_of o ms)) ≤ 131 + 10 * length ms
  bodies_short =
      let first = (opening_right o fits.count).size in
      let joined = length-append (page_zero o).body (bodies_of (map message_page ms)) in
      omega (arith, messages_short ms)

  -- the answer of a check that finds so many entries
  abbrev sound_with : ℕ → BundleReply
  sound_with m = Ok m

  reads_back : ReadsBack o ms
  unfolding written
  reads_back =
      let ps = pages_of o ms in
      let bytes = bundle_of ps in
      let many : length ps ≡ suc (length ms) = pages_count in
      let all : length (bodies_of ps) ≤ 131 + 10 * length ms = bodies_short in
      let joined = length-append (page_zero o).body (bodies_of (map message_page ms)) in
      let size : length bytes ≡ 2 + 8 * length ps + length (bodies_of ps) = bundle_length ps in
      let count : entry_count bytes ≡ length ps = count_read ps (omega arith) in
      let start = at_first ps (omega arith) in
      let right : AllRight 0 ps = (opening_right o fits.count, messages_right ms 0) in
      let found = checks ps start right (omega arith) in
      let page = page_read start right.0 (omega arith) in
      record {
        bytes = bundle_bytes ps (opening_bytes o fits, messages_bytes ms fit);
        short = omega arith;
        sound = pages_sound bytes ps count (omega arith) (omega arith) size found ∙ ap sound_with pages_count;
        reads =
            record {
              page = (page_at bytes 0, rw (lt-ltb 0 (entry_count bytes) (omega arith)), ap (λ (p : Page). opening_of p.body) page ∙ opening_read o fits);
              messages = reads_from ms (next start right.0 (omega arith)) fit (omega arith) (omega arith);
            };
      }

pub write_then_read : WriteThenRead
write_then_read o ms fits fit few = reads_back o ms fits fit few
