-- The parts of a bundle put together, and what the writer promises for each outcome.
use Rattle.std.specs.Prelude.{Ok, sum_by, min, take}
use Prim.Native.Nat.{ℕ, suc, ◌+◌, ◌*◌, ◌≤◌}
use native.Mathlib.Omega.{arith}
use Rattle.std.proofs.lemmas.List.{length-take, take_min}
use Rattle.std.proofs.lemmas.List.Sums.{sum_by-cons}
use borrow.Author.Tests.{le-ltb}
use mathlib.Core.Path.{◌≡◌, refl, ap, sym, ◌∙◌}
use mathlib.Core.List.{List, [], ◌∷◌, ◌++◌, map}
use lib.ListN.{length, length-map, length-append}
use Rattle.model.specs.declared.Opening.{Opening}
use Rattle.model.specs.declared.Message.{Message}
use Rattle.model.specs.declared.Refusal.{Refusal}
use Rattle.model.specs.Types.{BundleReply, refused_at}
use Rattle.model.specs.Replies.{values_of_bundle}
use Rattle.model.specs.Bundles.{Page, Fault}
use Rattle.model.specs.Writing.{number_bytes, page_zero, message_page, pages_of, entry_bytes, entry_for, contents_of, bodies_of, written, write_faults, write_reply, buffer_after}
use Rattle.laws.proofs.Faults.{fault_told}
use Rattle.laws.proofs.Sums.{impossible}
use Rattle.bundle.specs.Promises.{longest}
use Rattle.basics.specs.declared.output.Output.{Output}
use Rattle.basics.specs.Outputs.{Writes, Appends}
use Rattle.basics.proofs.Writing.{bounded, instead, then, within, whole}
use Rattle.writer.specs.Promises.{WroteAll, WroteBundle, WroteList, first_start}
use Rattle.writer.proofs.Pages.{opening_right}
use Rattle.writer.proofs.WriteThenRead.{bundle_length, messages_short}

-- how long a message's body is, and all of them together
abbrev pub body_size : Message → ℕ
body_size m = length (message_page m).body

pub bodies_sum : (ms : List Message) → length (bodies_of (map message_page ms)) ≡ sum_by body_size ms
bodies_sum [] = refl
bodies_sum (m ∷ ms) =
    length-append (message_page m).body (bodies_of (map message_page ms)) ∙ ap (λ (n : ℕ). body_size m + n) (bodies_sum ms)
    ∙ sym (sum_by-cons body_size m ms)

pub sizes_short : (ms : List Message) → sum_by body_size ms ≤ 10 * length ms
sizes_short ms = omega (arith, bodies_sum ms, messages_short ms)

module _ (page : Opening) (messages : List Message) (balances : length page.balances ≡ 32) where
  -- the pages behind the opening page
  abbrev others : List Page
  others = map message_page messages

  others_count : length others ≡ length messages
  others_count = length-map messages message_page

  -- m, the opening page's entry and those of the messages, its body and theirs
  abbrev parts : ℕ → ℕ → ℕ → List ℕ
  parts m first start =
      number_bytes 2 m
      ++ (entry_bytes (entry_for first (page_zero page))
      ++ (contents_of start others
      ++ ((page_zero page).body
      ++ bodies_of others)))

  together : parts (length messages + 1) (2 + 8 * suc (length messages)) (first_start (length messages)) ≡ written page messages
  unfolding written
  together =
      let m : length messages + 1 ≡ suc (length others) = omega (arith, others_count) in
      let first : 2 + 8 * suc (length messages) ≡ 2 + 8 * suc (length others) = omega (arith, others_count) in
      let start : first_start (length messages) ≡ 2 + 8 * suc (length others) + length (page_zero page).body =
      omega (arith, others_count, (opening_right page balances).size) in
      ap (λ n. parts n (2 + 8 * suc (length messages)) (first_start (length messages))) m
      ∙ ap (λ n. parts (suc (length others)) n (first_start (length messages))) first
      ∙ ap (parts (suc (length others)) (2 + 8 * suc (length others))) start

  -- each part is written behind the one before it: the bundle, which has at most 18,123 bytes
  pub bundled : length messages ≤ 999 → {a b c d e f : Output} {n : ℕ} → Appends a (number_bytes 2 (length messages + 1)) 2 b
      → Appends b (entry_bytes (entry_for (2 + 8 * suc (length messages)) (page_zero page))) 8 c
      → Appends c (contents_of (first_start (length messages)) others) (8 * length messages) d
      → Appends d (page_zero page).body n e
      → Appends e (bodies_of others) (10 * length messages) f
      → Appends a (written page messages) longest f
  bundled few m first entries body bodies =
      let most : 2 + (8 + (8 * length messages + (131 + 10 * length messages))) ≤ longest = omega arith in
      let whole_body : length (page_zero page).body ≤ 131 = omega (arith, (opening_right page balances).size) in
      within most (instead (then m (then first (then entries (then (bounded body whole_body) bodies)))) together)

  -- how long it is, by the sum of the bodies' lengths
  pub written_length : length (written page messages) ≡ first_start (length messages) + sum_by body_size messages
  unfolding written
  written_length =
      let size = bundle_length (pages_of page messages) in
      let body = (opening_right page balances).size in
      let joined = length-append (page_zero page).body (bodies_of others) in
      omega (arith, others_count, bodies_sum messages)

-- an answer that is the first fault's, or the length
module _ {faults : List Fault} {bundle before : List ℕ} where
  pub wrote : {r : BundleReply} {after : List ℕ} → r ≡ write_reply faults bundle → after ≡ buffer_after r bundle before
      → ((size : ℕ) → r ≡ Ok size → size ≤ longest) → WroteBundle faults bundle before r after
  wrote meets buffer short =
      record {
        meets = meets;
        told = ap values_of_bundle meets ∙ fault_told values_of_bundle refused_at (Ok (length bundle)) faults;
        buffer = buffer;
        short = short;
      }

  -- a refusal leaves the buffer
  pub refused : {q : Refusal} {i : ℕ} → refused_at q i ≡ write_reply faults bundle → WroteBundle faults bundle before (refused_at q i) before
  refused meets = wrote meets refl (λ size e. impossible (cc))

-- of the first so many messages, where there may be fewer
pub first_written : (page : Opening) (messages : List Message) (count : ℕ) → count ≤ 999 → {before after : List ℕ} {r : BundleReply}
    → WroteAll page (take (min count (length messages)) messages) before r after → WroteList page messages count before r after
first_written page messages count few {before} {after} {r} list =
    let w : WroteAll page (take count messages) before r after = rw (take_min count messages) at list in
    let fewer : length (take count messages) ≤ 999 = omega (arith, length-take count messages, few) in
    wrote (w.meets ∙ rw (le-ltb 999 count few, le-ltb 999 (length (take count messages)) fewer)) w.buffer w.short

-- a bundle that fits and is written
pub all_written : (count : ℕ) (bundle before : List ℕ) → count ≤ 999 → {after : List ℕ} {end : ℕ} → length bundle ≤ length before
    → Writes before 0 bundle longest after end → WroteBundle (write_faults count bundle (length before)) bundle before (Ok end) after
all_written count bundle before few {end = end} room w =
    let filled = whole w room in
    wrote
    (rw (le-ltb 999 count few, le-ltb (length before) (length bundle) room, filled.1))
    (rw filled.1 filled.0)
    (λ size e. let same : end ≡ size = cc in omega (arith, w.short, filled.1))

-- the same of an output of the buffer
pub all_appended : (count : ℕ) {bundle before after : List ℕ} {start end : Output} → count ≤ 999 → length bundle ≤ length before
    → (start.buffer.now ≡ before) × (start.filled ≡ 0) → Appends start bundle longest end → after ≡ end.buffer.now
    → WroteBundle (write_faults count bundle (length before)) bundle before (Ok (length bundle)) after
all_appended count {bundle} {before} few room empty w final =
    let all = rw (empty.0, empty.1) at w.writes in
    rw final (rw (whole all room).1 at (all_written count bundle before few room all))
