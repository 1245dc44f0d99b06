-- Document 02, request 1: the bundle that a writer makes of an opening page and a list of
-- messages, and what the writer replies.
use Rattle.std.specs.Prelude.{ℕ, zero, suc, ◌+◌, ◌*◌, ◌/◌, ◌%◌, ◌<◌, List, [], ◌∷◌, ◌++◌, map, ltb, length, get_or, drop, Ok, Err}
use Rattle.model.specs.Types.{Transfer, Opening, Message, Request, Circulated, Ack, Decision, Inquiry, TooManyMessages, NoRoom, ContentsEntry, BundleReply, refused_at}
use Rattle.model.specs.Bundles.{Page, body_sum, Fault, of_whole, unless_fault}

-- "Numbers are little-endian": the bytes of a number, so many of them
abbrev pub number_bytes : ℕ → ℕ → List ℕ
number_bytes zero x = []
number_bytes (suc width) x = x % 256 ∷ number_bytes width (x / 256)

-- numbers of 4 bytes, one behind another
abbrev pub word_bytes : List ℕ → List ℕ
word_bytes [] = []
word_bytes (x ∷ xs) = number_bytes 4 x ++ word_bytes xs

-- "Kind 0 is the opening page: n, f, k (1 byte each), 32 balances (4 each)."
abbrev pub page_zero : Opening → Page
page_zero o =
    record { kind = 0; seat = 0; body = o.seats ∷ o.faults ∷ o.accounts ∷ word_bytes o.balances }

-- "account (1), number (4), value (4), recipient (1)"
abbrev pub transfer_bytes : Transfer → List ℕ
transfer_bytes t =
    (t.account.0 ∷ []) ++ number_bytes 4 t.number ++ number_bytes 4 t.value ++ (t.recipient.0 ∷ [])

-- "Kinds 1 to 4 are request, slip, ack, ruling". "Kind 5 is a balance question: account." "each
-- with its seat if it is an ack"
abbrev pub message_page : Message → Page
message_page (Request t) = record { kind = 1; seat = 0; body = transfer_bytes t }
message_page (Circulated t) = record { kind = 2; seat = 0; body = transfer_bytes t }
message_page (Ack s t) = record { kind = 3; seat = s.0; body = transfer_bytes t }
message_page (Decision t) = record { kind = 4; seat = 0; body = transfer_bytes t }
message_page (Inquiry a) = record { kind = 5; seat = 0; body = a.0 ∷ [] }

-- "page 0 is the opening page"
abbrev pub pages_of : Opening → List Message → List Page
pages_of o ms = page_zero o ∷ map message_page ms

-- "kind (1), seat (1), start (2), sum (4)"
abbrev pub entry_bytes : ContentsEntry → List ℕ
entry_bytes c = (c.kind ∷ c.seat ∷ []) ++ number_bytes 2 c.start ++ number_bytes 4 c.sum

-- the entry of a page whose body starts at a place
abbrev pub entry_for : ℕ → Page → ContentsEntry
entry_for start p = record { kind = p.kind; seat = p.seat; start = start; sum = body_sum p.body }

-- the entries of pages, of which the first has its body at a place, "each next where the one before it ends"
abbrev pub contents_of : ℕ → List Page → List ℕ
contents_of start [] = []
contents_of start (p ∷ ps) = entry_bytes (entry_for start p) ++ contents_of (start + length p.body) ps

-- "then the bodies in that order"
abbrev pub bodies_of : List Page → List ℕ
bodies_of [] = []
bodies_of (p ∷ ps) = p.body ++ bodies_of ps

-- "First m in two bytes; then m entries of 8 bytes ..; then the bodies in that order, the first at 2 + 8m"
abbrev pub bundle_of : List Page → List ℕ
bundle_of ps = number_bytes 2 (length ps) ++ contents_of (2 + 8 * length ps) ps ++ bodies_of ps

-- The bundle of an opening page and a list of messages, for every page and every list.
unfoldable pub written : Opening → List Message → List ℕ
written o ms = bundle_of (pages_of o ms)

-- "18 if there are more than 999 messages."
abbrev pub too_many : ℕ → Fault
too_many count = (of_whole (ltb 999 count), TooManyMessages)

-- "19 if the buffer is shorter than the bundle"
abbrev pub no_room : List ℕ → ℕ → Fault
no_room bundle room = (of_whole (ltb room (length bundle)), NoRoom)

-- "18 is tried first"
abbrev pub write_faults : ℕ → List ℕ → ℕ → List Fault
write_faults count bundle room = too_many count ∷ no_room bundle room ∷ []

-- "replies the bundle's length"
abbrev pub write_reply : List Fault → List ℕ → BundleReply
write_reply faults bundle = unless_fault refused_at (Ok (length bundle)) faults

-- "fills a lent buffer": its front, and "Bytes behind the bundle keep their content." A refusal changes nothing.
abbrev pub buffer_after : BundleReply → List ℕ → List ℕ → List ℕ
buffer_after (Ok size) bundle before = bundle ++ drop size before
buffer_after (Err e) bundle before = before

-- a list of bytes: of numbers below 256
abbrev pub Bytes : List ℕ → Type 0
Bytes bytes = (i : ℕ) → get_or bytes i 0 < 256
