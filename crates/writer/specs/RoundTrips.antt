-- Document 02, request 1: "Reading the result yields that page and that list. Writing out a bundle that was read
-- without refusal yields its bytes."
use Rattle.std.specs.Prelude.{ℕ, suc, ◌+◌, ◌≤◌, ◌<◌, ◌≡◌, List, [], ◌∷◌, length, get_or, Some, Ok}
use Rattle.model.specs.declared.Transfer.{Transfer}
use Rattle.model.specs.declared.Opening.{Opening}
use Rattle.model.specs.declared.Message.{Message}
use Rattle.model.specs.declared.Message.TheVariants.{Request, Circulated, Ack, Decision, Inquiry}
use Rattle.model.specs.Bundles.{Page, check_bundle, taken, no_more, read_next, opening_of, message_of}
use Rattle.model.specs.Writing.{Bytes, written}
use Rattle.bundle.specs.Promises.{longest}

-- numbers that fit their types: one byte is below 256, four bytes are below 4,294,967,296
pub record TransferFits (t : Transfer) : Type 0 where
  pub account : t.account.0 < 256
  pub number : t.number < 4_294_967_296
  pub value : t.value < 4_294_967_296
  pub recipient : t.recipient.0 < 256

abbrev pub MessageFits : Message → Type 0
MessageFits (Request t) = TransferFits t
MessageFits (Circulated t) = TransferFits t
MessageFits (Ack s t) = (s.0 < 256) × TransferFits t
MessageFits (Decision t) = TransferFits t
MessageFits (Inquiry a) = a.0 < 256

abbrev pub AllFit : List Message → Type 0
AllFit [] = Unit {0}
AllFit (m ∷ ms) = MessageFits m × AllFit ms

-- a page with 32 balances
pub record OpeningFits (o : Opening) : Type 0 where
  pub seats : o.seats < 256
  pub faults : o.faults < 256
  pub accounts : o.accounts < 256
  pub count : length o.balances ≡ 32
  pub balances : (i : ℕ) → get_or o.balances i 0 < 4_294_967_296

-- the pages from entry i on, read in order, are these messages, and then there are no more
abbrev pub ReadsFrom : List ℕ → ℕ → List Message → Type 0
ReadsFrom bytes i [] = read_next bytes i ≡ no_more i
ReadsFrom bytes i (m ∷ ms) =
    (p : Page) × (read_next bytes i ≡ taken p (i + 1)) × (message_of p ≡ Some m) × ReadsFrom bytes (i + 1) ms

-- A reading of the bundle from its start finds this page, then these messages.
pub record Reads (bytes : List ℕ) (o : Opening) (ms : List Message) : Type 0 where
  pub page : (p : Page) × (read_next bytes 0 ≡ taken p 1) × (opening_of p.body ≡ o)
  pub messages : ReadsFrom bytes 1 ms

-- What is written is bytes, at most 18,123 of them, which the check finds sound with one entry more than there are
-- messages; and read, it is what was written.
pub record ReadsBack (o : Opening) (ms : List Message) : Type 0 where
  pub bytes : Bytes (written o ms)
  pub short : length (written o ms) ≤ longest
  pub sound : check_bundle (written o ms) ≡ Ok (suc (length ms))
  pub reads : Reads (written o ms) o ms

-- "Reading the result yields that page and that list."
abbrev pub WriteThenRead : Type 0
WriteThenRead = (o : Opening) (ms : List Message) → OpeningFits o → AllFit ms → length ms ≤ 999 → ReadsBack o ms

-- What a sound bundle is read as, and as nothing else, fits; and written, it is the same bytes.
pub record WritesBack (bytes : List ℕ) (o : Opening) (ms : List Message) : Type 0 where
  pub reads : Reads bytes o ms
  pub only : (q : Opening) (ns : List Message) → Reads bytes q ns → (q ≡ o) × (ns ≡ ms)
  pub page : OpeningFits o
  pub messages : AllFit ms
  pub count : length ms ≤ 999
  pub same : written o ms ≡ bytes

-- "Writing out a bundle that was read without refusal yields its bytes."
abbrev pub ReadThenWrite : Type 0
ReadThenWrite =
    (bytes : List ℕ) (m : ℕ) → Bytes bytes → check_bundle bytes ≡ Ok m → (o : Opening) × (ms : List Message) × WritesBack bytes o ms
