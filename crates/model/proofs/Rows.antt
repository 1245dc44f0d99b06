-- What a fact of the table of known pages is, and when it holds of the definitions.
use Rattle.std.specs.Prelude.{Option, Some, None}
use Prim.Native.Nat.{ℕ, ◌-◌}
use mathlib.Core.Bool.{Bool, not, ◌&&◌, beq}
use mathlib.Core.List.{List, [], ◌∷◌, ◌++◌, map}
use lib.Dec.{eqb}
use lib.ListN.{length, take, replicate}
use Rattle.model.specs.Types.{Transfer, Slot, Ledger, Outcome, Opening, Message, Request, Circulated, Ack, Decision, Inquiry, Reply, ListReply}
use Rattle.model.specs.Basics.{same}
use Rattle.model.specs.Records.{seat_of, account_of, no_ledger}
use Rattle.model.specs.Replies.{letter_of, values_of, values_of_transfer, values_of_open, values_of_list, values_of_bundle, values_of_evidence}
use Rattle.model.specs.Refusals.{list_refusal}
use Rattle.model.specs.Openings.{open_reply, open_ledger}
use Rattle.model.specs.Acks.{enough, most_acked}
use Rattle.model.specs.Gathering.{gathered}
use Rattle.model.specs.Calls.{waiting_accounts, list_reply, list_buffer, step}
use Rattle.model.specs.Switches.{Rules, next_rules, switched, step_under}
use Rattle.model.specs.Bundles.{body_sum, bad_count, check_bundle, page_at, message_of, opening_of, Reading, taken, no_more, read_next}
use Rattle.model.specs.Writing.{written, write_faults, write_reply, buffer_after}
use Rattle.model.specs.Joins.{evidence, shown_body}

-- a slip: account, number, value, recipient
abbrev pub slip : ℕ → ℕ → ℕ → ℕ → Transfer
slip a m v r = record { account = account_of a; number = m; value = v; recipient = account_of r }

-- a slip that no ruling is for, since its number is none
abbrev pub unruled : Transfer
unruled = slip 0 0 0 0

abbrev pub ack_by : ℕ → Transfer → Message
ack_by s t = Ack (seat_of s) t

-- an opening page with n, f and the balances of its accounts
abbrev pub page_with : ℕ → ℕ → List ℕ → Opening
page_with n f balances =
    record { seats = n; faults = f; accounts = length balances; balances = balances ++ replicate (32 - length balances) 0 }

-- the replies as document 01 writes them: a letter and what it carries
abbrev pub A : List ℕ
A = 65 ∷ []

abbrev pub B : ℕ → List ℕ
B balance = 66 ∷ balance ∷ []

abbrev pub C : List ℕ
C = 67 ∷ []

abbrev pub K : ℕ → List ℕ
K c = 75 ∷ c ∷ []

abbrev pub N : List ℕ
N = 78 ∷ []

abbrev pub P : Transfer → List ℕ
P t = 80 ∷ values_of_transfer t

abbrev pub R : ℕ → List ℕ
R code = 82 ∷ code ∷ []

-- a message, and what it is to be answered
abbrev pub Asked : Type 0
Asked = Message × List ℕ

infix 70 ◌gives◌
abbrev pub ◌gives◌ : Message → List ℕ → Asked
m gives said = (m, said)

-- a slip that each kind of call that brings one answers alike
abbrev pub every_kind : Transfer → List ℕ → List Asked
every_kind t said = Request t gives said ∷ Circulated t gives said ∷ ack_by 0 t gives said ∷ Decision t gives said ∷ []

-- a slip that a request and a circulated slip answer alike
abbrev pub offered : Transfer → List ℕ → List Asked
offered t said = Request t gives said ∷ Circulated t gives said ∷ []

-- One fact.
pub data Row : Type 0 where
  -- n, f and how many acks are needed
  acks_needed : ℕ → ℕ → ℕ → Row
  -- an opening page, and the values of its answer: the code, or 0
  opens : Opening → List ℕ → Row
  -- n, f, balances; the messages with their answers; the balances at the end
  runs : ℕ → ℕ → List ℕ → List Asked → List ℕ → Row
  -- the same under a set of rules, and then, on the ledger that is held after a switch from
  -- these to the next, under those
  runs_across : Rules → ℕ → ℕ → List ℕ → List Asked → List Asked → List ℕ → Row
  -- each seat's ack, seat by seat from 0, and the slip that is put forward
  puts_forward : List Slot → Transfer → Row
  -- each seat's ack, seat by seat from 0, a slip, and the seats that are gathered for it
  gathers : List Slot → Transfer → List ℕ → Row
  -- balances; the messages with their answers; then a waiting list: the buffer, the values of its
  -- answer, and the buffer after it
  lists : List ℕ → List Asked → List ℕ → List ℕ → List ℕ → Row
  -- bytes and their sum
  sums : List ℕ → ℕ → Row
  -- a bundle, and the values of its check's answer
  checks : List ℕ → List ℕ → Row
  -- m, and whether 13 refuses it
  counts : ℕ → Bool → Row
  -- a bundle, an entry, and the message of its page
  shows : List ℕ → ℕ → Message → Row
  -- the body of an opening page, and what is on it
  shows_opening : List ℕ → Opening → Row
  -- a bundle, a reading's place in it; the kind of the page taken there, if any, and the place after it
  reads : List ℕ → ℕ → List ℕ → ℕ → Row
  -- an opening page and messages, and the bundle that is written of them
  writes : Opening → List Message → List ℕ → Row
  -- how many messages, the lengths of their bundle and of a buffer, and the values of the writer's answer
  fits : ℕ → ℕ → ℕ → List ℕ → Row
  -- how many messages, their bundle, a buffer, and the buffer after it
  leaves : ℕ → List ℕ → List ℕ → List ℕ → Row
  -- two bundles, a ruled slip, the values of the join's answer, and the body that is shown
  joins : List ℕ → List ℕ → Transfer → List ℕ → List ℕ → Row

-- a call is answered so
abbrev pub answered : Reply → List ℕ → Bool
answered r said = same (letter_of r ∷ values_of r) said

-- each message is answered as it is to be by these steps, and what is to hold of the ledger at the end does
abbrev pub all_answered : (Ledger → Message → Outcome) → Ledger → List Asked → (Ledger → Bool) → Bool
all_answered steps l [] then = then l
all_answered steps l (q ∷ qs) then = answered (steps l q.0).reply q.1 && all_answered steps (steps l q.0).next qs then

-- the balances are these
abbrev pub has_balances : List ℕ → Ledger → Bool
has_balances balances l = same (take (length balances) (map (λ e. e.balance) l.entries)) balances

-- the waiting list is answered so, and leaves this in the buffer
abbrev pub lists_as : List ℕ → List ℕ → List ℕ → Ledger → Bool
lists_as before said after l =
    let reply : ListReply = list_reply (list_refusal before) (waiting_accounts l) in
    same (values_of_list reply) said && same (list_buffer reply (waiting_accounts l) before) after

-- a message's kind, seat and slip as numbers
abbrev pub numbers_of : Option Message → List ℕ
numbers_of None = []
numbers_of (Some (Request t)) = 1 ∷ 0 ∷ values_of_transfer t
numbers_of (Some (Circulated t)) = 2 ∷ 0 ∷ values_of_transfer t
numbers_of (Some (Ack s t)) = 3 ∷ s.0 ∷ values_of_transfer t
numbers_of (Some (Decision t)) = 4 ∷ 0 ∷ values_of_transfer t
numbers_of (Some (Inquiry a)) = 5 ∷ 0 ∷ a.0 ∷ []

-- an opening page's numbers
abbrev pub numbers_of_page : Opening → List ℕ
numbers_of_page o = o.seats ∷ o.faults ∷ o.accounts ∷ o.balances

-- a reading takes a page of this kind, if any, and is then at this place
abbrev pub took : Reading → List ℕ → ℕ → Bool
took (taken p next) kinds place = same (p.kind ∷ []) kinds && eqb next place
took (no_more stays) kinds place = same [] kinds && eqb stays place

-- what it means that a row holds of the definitions
abbrev pub row_holds : Row → Bool
row_holds (acks_needed n f c) = enough n f c && not (enough n f (c - 1))
row_holds (opens o said) = same (values_of_open (open_reply o)) said
row_holds (runs n f balances asked final) = all_answered step (open_ledger (page_with n f balances) no_ledger) asked (has_balances final)
row_holds (runs_across v n f balances asked later final) =
    all_answered (step_under v) (open_ledger (page_with n f balances) no_ledger) asked
    (λ l. all_answered (step_under (next_rules v)) (switched v l) later (has_balances final))
row_holds (puts_forward places t) = same (values_of_transfer (most_acked (map (λ s. record { slot = s }) places))) (values_of_transfer t)
row_holds (gathers places t seats) = same (gathered t (map (λ s. record { slot = s }) places)) seats
row_holds (lists balances asked before said after) = all_answered step (open_ledger (page_with 6 1 balances) no_ledger) asked (lists_as before said after)
row_holds (sums bytes s) = eqb (body_sum bytes) s
row_holds (checks bytes said) = same (values_of_bundle (check_bundle bytes)) said
row_holds (counts m bad) = beq (bad_count m) bad
row_holds (shows_opening body o) = same (numbers_of_page (opening_of body)) (numbers_of_page o)
row_holds (reads bytes place kinds next) = took (read_next bytes place) kinds next
row_holds (shows bytes i m) = same (numbers_of (message_of (page_at bytes i))) (numbers_of (Some m))
row_holds (writes page messages bytes) = same (written page messages) bytes
row_holds (fits count size room said) =
    let bundle : List ℕ = replicate size 0 in
    same (values_of_bundle (write_reply (write_faults count bundle room) bundle)) said
row_holds (leaves count bundle before after) =
    same (buffer_after (write_reply (write_faults count bundle (length before)) bundle) bundle before) after
row_holds (joins first second ruled said body) =
    same (values_of_evidence (evidence first second ruled)) said && same (shown_body first second (evidence first second ruled)) body
