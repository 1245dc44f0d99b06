-- What the loops over the messages know at each turn.
use Prim.Native.Nat.{ℕ, ◌+◌, ◌*◌, ◌≤◌, ◌<◌}
use native.Mathlib.Omega.{arith}
use mathlib.Core.Path.{◌≡◌}
use mathlib.Core.List.{List, ◌++◌, map}
use lib.ListN.{length, get_or, drop}
use Rattle.model.specs.declared.Message.{Message}
use Rattle.model.specs.Writing.{message_page, entry_bytes, entry_for, contents_of}
use Rattle.basics.specs.declared.output.Output.{Output}
use Rattle.basics.specs.Outputs.{Appends}
use Rattle.std.proofs.lemmas.List.{drop_more}
use Rattle.basics.proofs.Writing.{bounded, Pieces, pieces_more}
use Rattle.writer.specs.Promises.{entries_of, first_start, message_bodies}
use Rattle.writer.proofs.Pages.{message_short}

-- The bodies of the messages before the i-th are written.
abbrev pub Bodied : List Message → Output → ℕ → Output → Type 0
Bodied messages before i out = Pieces before (message_bodies messages) (message_bodies (drop i messages)) (10 * i) out

-- the entries of the messages from the i-th on, of which the first has its body at a place
abbrev pub entries_left : List Message → ℕ → ℕ → List ℕ
entries_left messages i start = contents_of start (map message_page (drop i messages))

-- The entries of the messages before the i-th are written, and the i-th body starts here.
pub record Entered (messages : List Message) (before : Output) (i start : ℕ) (out : Output) : Type 0 where
  pub low : start ≤ first_start (length messages) + 10 * i
  pub writes : Pieces before (entries_of messages) (entries_left messages i start) (8 * i) out

-- a turn takes one message
module _ (messages : List Message) (i : ℕ) (d : Message) (inside : i < length messages) {before mid after : Output} where
  pub bodied_more : {n : ℕ} → Bodied messages before i mid → Appends mid (message_page (get_or messages i d)).body n after
      → Bodied messages before (i + 1) after
  bodied_more so_far written =
      let m = get_or messages i d in
      let left = rw (drop_more messages i d inside) at so_far in
      let bytes : 10 * i + 10 ≡ 10 * (i + 1) = omega arith in
      rw bytes at (pieces_more (message_page m).body (message_bodies (drop (i + 1) messages)) left (bounded written (message_short m)))

  pub entered_more : {start size : ℕ} → Entered messages before i start mid → size ≡ length (message_page (get_or messages i d)).body
      → Appends mid (entry_bytes (entry_for start (message_page (get_or messages i d)))) 8 after
      → Entered messages before (i + 1) (start + size) after
  entered_more {start} {size} so_far own written =
      let m = get_or messages i d in
      let entry = entry_bytes (entry_for start (message_page m)) in
      let rest = entries_left messages (i + 1) (start + size) in
      let turn : entries_left messages i start ≡ entry ++ rest = rw (drop_more messages i d inside, own) in
      let bytes : 8 * i + 8 ≡ 8 * (i + 1) = omega arith in
      record {
        low = omega (arith, so_far.low, message_short m);
        writes = rw bytes at (pieces_more entry rest (rw turn at so_far.writes) written);
      }
