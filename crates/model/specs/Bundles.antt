-- Document 01, "The bundle: contents, then bodies". A bundle is a list of bytes.
use Rattle.std.specs.Prelude.{ℕ, zero, suc, ◌+◌, ◌*◌, ◌%◌, Bool, not, cond, ◌&&◌, ◌||◌, List, [], ◌∷◌, ltb, eqb, length, get_or, take, drop, Option, Some, None, Ok}
use Rattle.std.specs.Bool.{beq}
use Rattle.model.specs.Types.{Transfer, Opening, Message, Request, Circulated, Ack, Decision, Inquiry, Refusal, BadHeader, BadContents, BadEnd, BadSum, ContentsEntry, BundleReply, refused_at}
use Rattle.model.specs.Basics.{first_where}
use Rattle.model.specs.Records.{seat_of, account_of}
use Rattle.model.specs.Replies.{code_of}

-- "Numbers are little-endian": of so many bytes, at a place
abbrev pub number_at : ℕ → List ℕ → ℕ → ℕ
number_at zero bytes at = 0
number_at (suc width) bytes at = get_or bytes at 0 + 256 * number_at width bytes (at + 1)

-- of 2 and of 4 bytes
abbrev pub number2 : List ℕ → ℕ → ℕ
number2 bytes at = number_at 2 bytes at

abbrev pub number4 : List ℕ → ℕ → ℕ
number4 bytes at = number_at 4 bytes at

-- so many numbers of 4 bytes, one behind another, from a place on
abbrev pub words_from : ℕ → ℕ → List ℕ → List ℕ
words_from zero at bytes = []
words_from (suc left) at bytes = number4 bytes at ∷ words_from left (at + 4) bytes

-- "First m in two bytes"
abbrev pub entry_count : List ℕ → ℕ
entry_count bytes = number2 bytes 0

-- "then m entries of 8 bytes: kind (1), seat (1), start (2), sum (4)"
abbrev pub contents_at : List ℕ → ℕ → ContentsEntry
contents_at bytes i =
    record {
      kind = get_or bytes (2 + 8 * i) 0;
      seat = get_or bytes (3 + 8 * i) 0;
      start = number2 bytes (4 + 8 * i);
      sum = number4 bytes (6 + 8 * i);
    }

-- "Body lengths for kinds 0 to 5 are 131, 10, 10, 10, 10 and 1 bytes."
abbrev pub body_lengths : List ℕ
body_lengths = 131 ∷ 10 ∷ 10 ∷ 10 ∷ 10 ∷ 1 ∷ []

abbrev pub body_length : ℕ → ℕ
body_length kind = get_or body_lengths kind 0

-- where the body of entry i starts: "the first at 2 + 8m, each next where the one before it ends"
abbrev pub start_at : List ℕ → ℕ → ℕ
start_at bytes zero = 2 + 8 * entry_count bytes
start_at bytes (suc i) = start_at bytes i + body_length (contents_at bytes i).kind

-- "The sum begins at 0; each body byte replaces it by 31 × sum + byte modulo 4,294,967,296."
abbrev pub sum_from : ℕ → List ℕ → ℕ
sum_from s [] = s
sum_from s (b ∷ bs) = sum_from ((31 * s + b) % 4_294_967_296) bs

abbrev pub body_sum : List ℕ → ℕ
body_sum body = sum_from 0 body

-- an entry with its body is a page; "What a page shows is that body's own bytes in the bundle."
pub record Page : Type 0 where
  pub kind : ℕ
  pub seat : ℕ
  pub body : List ℕ

abbrev pub page_of : List ℕ → ContentsEntry → Page
page_of bytes c = record { kind = c.kind; seat = c.seat; body = take (body_length c.kind) (drop c.start bytes) }

abbrev pub page_at : List ℕ → ℕ → Page
page_at bytes i = page_of bytes (contents_at bytes i)

-- m outside 1 to 1,000
abbrev pub bad_count : ℕ → Bool
bad_count m = ltb m 1 || ltb 1_000 m

-- 13: fewer than 2 bytes, m outside 1 to 1,000, or fewer than 2 + 8m bytes
abbrev pub bad_header : List ℕ → Bool
bad_header bytes =
    ltb (length bytes) 2 || bad_count (entry_count bytes) || ltb (length bytes) (2 + 8 * entry_count bytes)

-- kind 0 misplaced: "Entry 0 has kind 0 and no other entry has."
abbrev pub misplaced : ℕ → ℕ → Bool
misplaced i kind = not (beq (eqb kind 0) (eqb i 0))

-- 14: kind above 5, kind 0 misplaced, seat (0 unless the kind is 3) or start wrong
abbrev pub wrong_entry : ℕ → ℕ → ContentsEntry → Bool
wrong_entry i start c =
    ltb 5 c.kind || misplaced i c.kind || (not (eqb c.kind 3) && not (eqb c.seat 0))
    || not (eqb c.start start)

-- 14, of a page by itself: as entry i its entry would be wrong, wherever its body starts. So kind 0 behind entry 0,
-- another kind there, a kind above 5, or a seat where the kind has none.
abbrev pub wrong_page : ℕ → Page → Bool
wrong_page i p = wrong_entry i 0 (record { kind = p.kind; seat = p.seat; start = 0; sum = 0 })

abbrev pub first_bad_entry : List ℕ → Option ℕ
first_bad_entry bytes = first_where (λ i. wrong_entry i (start_at bytes i) (contents_at bytes i)) (entry_count bytes) 0

-- 15: the bundle does not end with its last body
abbrev pub bad_end : List ℕ → Bool
bad_end bytes = not (eqb (length bytes) (start_at bytes (entry_count bytes)))

-- 16: a wrong sum
abbrev pub wrong_sum_at : List ℕ → ℕ → Bool
wrong_sum_at bytes i = not (eqb (contents_at bytes i).sum (body_sum (page_at bytes i).body))

abbrev pub first_bad_sum : List ℕ → Option ℕ
first_bad_sum bytes = first_where (wrong_sum_at bytes) (entry_count bytes) 0

-- a refusal, and the entry that it names if it holds
abbrev pub Fault : Type 0
Fault = Option ℕ × Refusal

-- a fault of the whole bundle names entry 0
abbrev pub of_whole : Bool → Option ℕ
of_whole b = cond b (Some 0) None

-- the answer that the first fault makes, if there is one; else this one
abbrev pub unless_fault : {A : Type 0} → (Refusal → ℕ → A) → A → List Fault → A
unless_fault refused answer [] = answer
unless_fault refused answer (f ∷ fs) =
    elim f.0 [ None ↦ unless_fault refused answer fs | Some i ↦ refused f.1 i ]

-- as values: the code and the entry, or 0 and a number
abbrev pub fault_values : ℕ → List Fault → List ℕ
fault_values n fs = unless_fault (λ r i. code_of r ∷ i ∷ []) (0 ∷ n ∷ []) fs

-- with no fault, a sound bundle of m entries
abbrev pub first_fault : ℕ → List Fault → BundleReply
first_fault m fs = unless_fault refused_at (Ok m) fs

-- "Codes 13, 14, 15, 16 are tried in that order over the whole bundle, the lowest entry first"
abbrev pub faults : List ℕ → List Fault
faults bytes =
    (of_whole (bad_header bytes), BadHeader)
    ∷ (first_bad_entry bytes, BadContents)
    ∷ (of_whole (bad_end bytes), BadEnd)
    ∷ (first_bad_sum bytes, BadSum)
    ∷ []

unfoldable pub check_bundle : List ℕ → BundleReply
check_bundle bytes = first_fault (entry_count bytes) (faults bytes)

-- What a reading finds: a page and the next entry, or no more pages and the place where it stays.
pub data Reading : Type 0 where
  taken : Page → ℕ → Reading
  no_more : ℕ → Reading

-- "A reading of a bundle goes on from the page last taken. After the last page it replies that there
-- are no more, and stays there."
abbrev pub read_next : List ℕ → ℕ → Reading
read_next bytes i = cond (ltb i (entry_count bytes)) (taken (page_at bytes i) (i + 1)) (no_more i)

-- "Kind 0 is the opening page: n, f, k (1 byte each), 32 balances (4 each)."
abbrev pub opening_of : List ℕ → Opening
opening_of body =
    record {
      seats = get_or body 0 0;
      faults = get_or body 1 0;
      accounts = get_or body 2 0;
      balances = words_from 32 3 body;
    }

-- "account (1), number (4), value (4), recipient (1)"
abbrev pub transfer_of : List ℕ → Transfer
transfer_of body =
    record {
      account = account_of (get_or body 0 0);
      number = number4 body 1;
      value = number4 body 5;
      recipient = account_of (get_or body 9 0);
    }

-- "Kinds 1 to 4 are request, slip, ack, ruling". "Kind 5 is a balance question: account." Any other kind is no message.
abbrev pub message_of : Page → Option Message
message_of p =
    cond (eqb p.kind 1) (Some (Request (transfer_of p.body)))
    (cond (eqb p.kind 2) (Some (Circulated (transfer_of p.body)))
    (cond (eqb p.kind 3) (Some (Ack (seat_of p.seat) (transfer_of p.body)))
    (cond (eqb p.kind 4) (Some (Decision (transfer_of p.body)))
    (cond (eqb p.kind 5) (Some (Inquiry (account_of (get_or p.body 0 0)))) None))))

-- a page's message; what stands for one that is none never shows where 14 is tried first
abbrev pub message_or : Option Message → Message
message_or None = Inquiry (account_of 0)
message_or (Some m) = m
