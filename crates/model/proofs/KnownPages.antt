-- Document 01, "Known pages": its facts as the rows of one table, with document 02's cases beside them, and one
-- theorem, computed, that all of them hold of the definitions.
use Rattle.std.specs.Prelude.{Some, None}
use Prim.Native.Nat.{ℕ, zero, suc}
use mathlib.Core.Bool.{true, false}
use mathlib.Core.List.{List, [], ◌∷◌, ◌++◌}
use lib.Dec.{T}
use lib.ListN.{take, set, replicate}
use Rattle.model.specs.Types.{Transfer, Message, Request, Circulated, Decision, Inquiry}
use Rattle.model.specs.Basics.{every}
use Rattle.model.specs.Records.{account_of, no_acks, empty_page}
use Rattle.model.specs.Transfers.{equal, conflict}
use Rattle.model.specs.Openings.{open_reply, open_ledger}
use Rattle.model.specs.Acks.{has_most, most_acked}
use Rattle.model.specs.Gathering.{gathered}
use Rattle.model.specs.Settling.{lowest_affordable, apply, settle_at_most, settle}
use Rattle.model.specs.Calls.{waiting_accounts, step}
use Rattle.model.specs.Switches.{first_rules, since_request3, since_request5, step_under}
use Rattle.model.specs.Bundles.{check_bundle}
use Rattle.model.specs.Writing.{transfer_bytes, written}
use Rattle.model.specs.Joins.{is_pair, partner_of, earliest_pair, evidence}
use Rattle.model.proofs.Rows.{slip, unruled, ack_by, page_with, A, B, C, K, N, P, R, ◌gives◌, every_kind, offered, Asked, Row, acks_needed, opens, runs, runs_across, puts_forward, gathers, lists, sums, checks, counts, shows, shows_opening, reads, writes, fits, leaves, joins, row_holds}

-- slips that conflict with one another
abbrev t : Transfer
t = slip 0 1 4 1

abbrev u : Transfer
u = slip 0 1 5 1

abbrev v : Transfer
v = slip 0 1 6 1

abbrev w : Transfer
w = slip 0 1 4 0

abbrev x : Transfer
x = slip 0 1 5 0

-- The facts marked *, in document 01's order.
pub marked : List Row
marked =
    acks_needed 1 0 1
    ∷ acks_needed 2 0 2
    ∷ acks_needed 6 1 5
    ∷ acks_needed 7 1 6
    ∷ acks_needed 8 1 6
    ∷ acks_needed 11 2 9
    ∷ acks_needed 16 3 13
    ∷ opens (page_with 5 1 (10 ∷ [])) (1 ∷ [])
    ∷ opens (page_with 17 0 (10 ∷ [])) (1 ∷ [])
    ∷ runs 6 1 (10 ∷ 3 ∷ [])
    (ack_by 0 t gives N ∷ ack_by 1 t gives N ∷ ack_by 2 t gives N
    ∷ ack_by 3 u gives N ∷ ack_by 4 u gives P t ∷ ack_by 5 t gives N ∷ [])
    (10 ∷ 3 ∷ [])
    ∷ runs 6 1 (10 ∷ 3 ∷ [])
    (ack_by 0 t gives N ∷ ack_by 1 t gives N ∷ ack_by 2 t gives N
    ∷ ack_by 3 t gives N ∷ ack_by 4 u gives P t ∷ ack_by 5 t gives K 1 ∷ [])
    (6 ∷ 7 ∷ [])
    ∷ runs 6 1 (10 ∷ 5 ∷ []) (Circulated (slip 0 1 10 1) gives A ∷ []) (10 ∷ 5 ∷ [])
    ∷ runs 6 1 (10 ∷ 5 ∷ []) (Circulated (slip 0 1 11 1) gives R 11 ∷ []) (10 ∷ 5 ∷ [])
    ∷ runs 6 1 (10 ∷ 5 ∷ []) (Circulated (slip 0 1 16 1) gives R 5 ∷ []) (10 ∷ 5 ∷ [])
    ∷ runs 6 1 (0 ∷ 5 ∷ []) (Decision (slip 0 1 5 1) gives K 0 ∷ Decision (slip 1 1 5 0) gives K 2 ∷ []) (0 ∷ 5 ∷ [])
    ∷ sums (1 ∷ 2 ∷ []) 33
    ∷ sums (replicate 7 255) 1_928_985_951
    ∷ []

-- Document 02, request 2: which slip is put forward. The case split 3, 3, 1; the same split, but the lower seats'
-- acks come last; the ack at hand is of the lowest seat. Then the acks alone, from seat 0 on: a tie of three slips
-- and of four, the lowest seat's slip not being among the most acked; more acks than a lower seat's slip has;
-- places that are empty; and no acks.
pub tied : List Row
tied =
    runs 8 1 (10 ∷ 3 ∷ [])
    (ack_by 0 t gives N ∷ ack_by 1 t gives N ∷ ack_by 2 t gives N
    ∷ ack_by 3 u gives N ∷ ack_by 4 u gives N ∷ ack_by 5 u gives N ∷ ack_by 6 w gives P t ∷ [])
    (10 ∷ 3 ∷ [])
    ∷ runs 8 1 (10 ∷ 3 ∷ [])
    (ack_by 3 t gives N ∷ ack_by 4 t gives N ∷ ack_by 5 t gives N
    ∷ ack_by 0 u gives N ∷ ack_by 1 u gives N ∷ ack_by 2 u gives N ∷ ack_by 6 w gives P u ∷ [])
    (10 ∷ 3 ∷ [])
    ∷ runs 6 1 (10 ∷ 3 ∷ [])
    (ack_by 3 t gives N ∷ ack_by 4 t gives N ∷ ack_by 1 u gives N ∷ ack_by 2 w gives N ∷ ack_by 0 u gives P u ∷ [])
    (10 ∷ 3 ∷ [])
    ∷ puts_forward (Some x ∷ Some u ∷ Some w ∷ Some t ∷ Some t ∷ Some w ∷ Some u ∷ []) u
    ∷ puts_forward (Some v ∷ Some x ∷ Some w ∷ Some u ∷ Some t ∷ Some t ∷ Some u ∷ Some x ∷ Some w ∷ []) x
    ∷ puts_forward (Some w ∷ Some w ∷ Some t ∷ Some u ∷ Some t ∷ Some t ∷ []) t
    ∷ puts_forward (None ∷ None ∷ Some u ∷ None ∷ Some t ∷ []) u
    ∷ puts_forward (replicate 16 None) (slip 0 0 0 0)
    ∷ []

-- Document 02, request 3: a home pays itself. Requests and slips meet 20, after 5 and before 6, 7, 8, 12 and 11: a
-- later number, none yet; no value; a value above the balance, and above the opening sum; a recipient that there is
-- not; a number that was acked, one that was booked, and one that waits. Acks and rulings for such slips meet what all
-- others meet, are put forward, and are booked: the balance stays, and the current number rises.
pub self_paid : List Row
self_paid =
    runs 6 1 (10 ∷ 5 ∷ [])
    (offered (slip 0 9 4 0) (R 20) ++ offered (slip 0 9 0 0) (R 5) ++ offered (slip 0 0 4 0) (R 5) ++ offered (slip 0 1 11 0) (R 20)
    ++ offered (slip 0 1 16 0) (R 5) ++ offered (slip 2 1 4 2) (R 5) ++ offered (slip 0 1 10 0) (R 20) ++ offered (slip 1 1 5 1) (R 20))
    (10 ∷ 5 ∷ [])
    ∷ runs 6 1 (10 ∷ 5 ∷ [])
    (Circulated t gives A ∷ Circulated w gives R 20 ∷ Circulated u gives R 12 ∷ Decision t gives K 1 ∷ Circulated w gives R 20
    ∷ Circulated t gives R 6 ∷ Decision (slip 0 2 7 1) gives K 0 ∷ Circulated (slip 0 2 4 0) gives R 20 ∷ Circulated (slip 0 2 4 1) gives R 8 ∷ [])
    (6 ∷ 9 ∷ [])
    ∷ runs 6 1 (10 ∷ 5 ∷ [])
    (ack_by 6 w gives R 4 ∷ ack_by 0 w gives N ∷ ack_by 0 w gives R 9 ∷ ack_by 0 t gives R 10 ∷ ack_by 1 (slip 0 2 4 0) gives R 7
    ∷ ack_by 1 w gives N ∷ ack_by 2 w gives N ∷ ack_by 3 w gives N ∷ ack_by 4 w gives K 1 ∷ ack_by 5 w gives R 6 ∷ Decision w gives R 6
    ∷ Circulated (slip 0 2 4 1) gives A ∷ [])
    (10 ∷ 5 ∷ [])
    ∷ runs 6 1 (10 ∷ 5 ∷ [])
    (ack_by 0 w gives N ∷ ack_by 1 w gives N ∷ ack_by 2 w gives N ∷ ack_by 3 t gives N ∷ ack_by 4 t gives P w ∷ Decision w gives K 1
    ∷ Decision (slip 0 2 11 0) gives K 0 ∷ Decision (slip 0 2 11 0) gives R 8 ∷ Decision (slip 0 9 4 0) gives R 7 ∷ Decision (slip 0 9 0 0) gives R 5
    ∷ Decision (slip 1 1 1 0) gives K 2 ∷ Inquiry (account_of 0) gives B 11 ∷ [])
    (11 ∷ 4 ∷ [])
    ∷ []

-- The same under the first rules: requests and slips meet 5 6 7 8 11 and 5 6 7 8 12 11, whoever is the recipient. Then
-- the seat switches, and goes on with the ledger that it holds: a slip that it acked meets 20, another of that
-- number 12, and the acks that it recorded count. Under the newest rules a switch changes nothing.
pub switching : List Row
switching =
    runs_across first_rules 6 1 (10 ∷ 5 ∷ [])
    (offered (slip 0 9 4 0) (R 7) ++ offered (slip 0 9 0 0) (R 5) ++ offered (slip 0 1 11 0) (R 11)
    ++ (Request w gives C ∷ Circulated w gives A ∷ Circulated w gives R 12 ∷ Circulated t gives R 12 ∷ Circulated (slip 1 1 5 1) gives A
    ∷ ack_by 0 w gives N ∷ ack_by 1 w gives N ∷ ack_by 2 w gives N ∷ []))
    (Request w gives R 20 ∷ Circulated w gives R 20 ∷ Circulated t gives R 12 ∷ Circulated (slip 1 1 4 0) gives R 12 ∷ ack_by 2 w gives R 9
    ∷ ack_by 3 w gives N ∷ ack_by 4 w gives K 1 ∷ Circulated (slip 0 2 4 0) gives R 20 ∷ Circulated (slip 0 2 4 1) gives A ∷ [])
    (10 ∷ 5 ∷ [])
    ∷ runs_across first_rules 6 1 (10 ∷ 5 ∷ [])
    (Decision w gives K 1 ∷ Circulated w gives R 6 ∷ Decision (slip 0 2 11 0) gives K 0 ∷ Circulated (slip 0 2 4 0) gives R 8 ∷ [])
    (Circulated w gives R 20 ∷ Circulated (slip 0 2 4 0) gives R 20 ∷ Circulated (slip 0 2 4 1) gives R 8 ∷ Decision (slip 1 1 1 0) gives K 2 ∷ [])
    (11 ∷ 4 ∷ [])
    ∷ runs_across since_request5 6 1 (10 ∷ 5 ∷ []) (Circulated w gives R 20 ∷ Circulated t gives A ∷ [])
    (Circulated w gives R 20 ∷ Circulated u gives R 12 ∷ [])
    (10 ∷ 5 ∷ [])
    ∷ []

-- Document 02, request 5: a seat that has accepted joins in. With one seat, which accepts alone; behind 4 and 5,
-- before 6, by an ack alone and once; before 8, and used up when the slip is booked; used up by a P before the
-- acceptance, of a number that is booked and of one that waits; the mark of the retained number is not that of the
-- next; a number below the retained one, which is booked or waits; used up by a P also where acks accepted; an ack that
-- was recorded before the acceptance and comes again, never 9 or 10, also where acks accepted; and that nothing but the
-- mark changes: neither this seat's mark, nor the next number's, nor its acks, of which the late one is none.
pub late : List Row
late =
    runs 1 0 (10 ∷ 3 ∷ []) (ack_by 0 t gives K 1 ∷ ack_by 0 t gives R 6 ∷ ack_by 0 u gives P t ∷ ack_by 0 u gives R 6 ∷ ack_by 0 w gives R 6 ∷ []) (6 ∷ 7 ∷ [])
    ∷ runs 6 1 (10 ∷ 3 ∷ [])
    (ack_by 0 u gives N ∷ Decision t gives K 1 ∷ ack_by 6 u gives R 4 ∷ ack_by 0 (slip 0 1 14 1) gives R 5 ∷ ack_by 0 (slip 0 1 5 2) gives R 5
    ∷ ack_by 0 (slip 0 1 0 1) gives R 5 ∷ Request u gives R 6 ∷ Circulated u gives R 6 ∷ Decision u gives R 6 ∷ ack_by 1 t gives R 6
    ∷ ack_by 1 u gives P t ∷ ack_by 1 u gives R 6 ∷ ack_by 2 x gives R 6 ∷ [])
    (6 ∷ 7 ∷ [])
    ∷ runs 6 1 (0 ∷ 5 ∷ [])
    (Decision t gives K 0 ∷ Request u gives R 8 ∷ Circulated u gives R 8 ∷ Decision u gives R 8 ∷ ack_by 0 t gives R 8 ∷ ack_by 0 (slip 0 2 4 1) gives R 7
    ∷ ack_by 0 u gives P t ∷ ack_by 1 u gives R 8 ∷ Decision (slip 1 1 5 0) gives K 2 ∷ ack_by 2 u gives R 6 ∷ ack_by 0 (slip 1 1 4 0) gives P (slip 1 1 5 0) ∷ [])
    (1 ∷ 4 ∷ [])
    ∷ runs 2 0 (10 ∷ 3 ∷ [])
    (ack_by 0 t gives N ∷ ack_by 1 u gives P t ∷ Decision u gives K 1 ∷ ack_by 0 t gives R 6 ∷ ack_by 1 w gives R 6
    ∷ ack_by 0 (slip 0 2 9 1) gives N ∷ ack_by 1 (slip 0 2 8 1) gives P (slip 0 2 9 1) ∷ Decision (slip 0 2 8 1) gives K 0 ∷ ack_by 0 (slip 0 2 9 1) gives R 8 ∷ [])
    (5 ∷ 8 ∷ [])
    ∷ runs 2 0 (10 ∷ 3 ∷ [])
    (Decision t gives K 1 ∷ ack_by 0 (slip 0 2 1 1) gives N ∷ ack_by 1 (slip 0 2 2 1) gives P (slip 0 2 1 1) ∷ ack_by 0 u gives P t ∷ ack_by 1 u gives R 6
    ∷ Decision (slip 0 2 2 1) gives K 1 ∷ ack_by 0 (slip 0 2 1 1) gives R 6 ∷ [])
    (4 ∷ 9 ∷ [])
    ∷ runs 2 0 (10 ∷ 3 ∷ [])
    (Decision t gives K 1 ∷ Decision (slip 0 2 1 1) gives K 1 ∷ ack_by 0 u gives R 6 ∷ ack_by 0 (slip 0 2 2 1) gives P (slip 0 2 1 1) ∷ [])
    (5 ∷ 8 ∷ [])
    ∷ runs 2 0 (10 ∷ 3 ∷ [])
    (Decision t gives K 1 ∷ Decision (slip 0 2 9 1) gives K 0 ∷ ack_by 0 u gives R 6 ∷ ack_by 0 (slip 0 2 2 1) gives P (slip 0 2 9 1) ∷ [])
    (6 ∷ 7 ∷ [])
    ∷ runs 6 1 (10 ∷ 3 ∷ [])
    (ack_by 0 t gives N ∷ ack_by 1 t gives N ∷ ack_by 2 t gives N ∷ ack_by 3 t gives N ∷ ack_by 4 u gives P t ∷ ack_by 5 t gives K 1 ∷ ack_by 4 u gives R 6 ∷ [])
    (6 ∷ 7 ∷ [])
    ∷ runs 6 1 (0 ∷ 5 ∷ []) (ack_by 5 u gives N ∷ ack_by 4 t gives N ∷ Decision t gives K 0 ∷ ack_by 4 t gives R 8 ∷ ack_by 5 u gives P t ∷ ack_by 5 u gives R 8 ∷ ack_by 5 w gives R 8 ∷ []) (0 ∷ 5 ∷ [])
    ∷ runs 3 0 (10 ∷ 3 ∷ []) (ack_by 0 u gives N ∷ ack_by 1 t gives N ∷ ack_by 2 t gives K 1 ∷ ack_by 0 u gives P t ∷ ack_by 0 u gives R 6 ∷ []) (6 ∷ 7 ∷ [])
    ∷ runs 2 0 (10 ∷ 3 ∷ [])
    (Decision t gives K 1 ∷ Circulated (slip 0 2 1 1) gives A ∷ ack_by 0 u gives P t ∷ Circulated (slip 0 2 1 1) gives R 12 ∷ ack_by 0 (slip 0 2 1 1) gives N
    ∷ ack_by 1 (slip 0 2 2 1) gives P (slip 0 2 1 1) ∷ ack_by 0 u gives R 6 ∷ [])
    (6 ∷ 7 ∷ [])
    ∷ runs 3 0 (10 ∷ 3 ∷ [])
    (Decision t gives K 1 ∷ ack_by 2 u gives P t ∷ ack_by 0 (slip 0 2 1 1) gives N ∷ ack_by 1 (slip 0 2 2 1) gives N ∷ Circulated (slip 0 2 1 1) gives A ∷ [])
    (6 ∷ 7 ∷ [])
    ∷ runs 3 0 (10 ∷ 3 ∷ [])
    (Decision t gives K 1 ∷ ack_by 0 (slip 0 2 1 1) gives N ∷ ack_by 2 u gives P t ∷ ack_by 0 (slip 0 2 1 1) gives R 9 ∷ [])
    (6 ∷ 7 ∷ [])
    ∷ []

-- The same across a switch. Under the rules since request 3, and under the first, an accepted number puts nothing
-- forward. A seat that goes on retains what waits: account 2's slip with nothing put forward, so P; account 3's with a
-- P before its acceptance, so 8; and not account 0's, which is booked. What it accepts from then on is retained. Under
-- the newest rules a switch drops nothing.
pub taken_over : List Row
taken_over =
    runs_across since_request3 6 1 (10 ∷ 3 ∷ 0 ∷ 0 ∷ [])
    (Decision t gives K 1 ∷ ack_by 0 u gives R 6 ∷ Decision (slip 2 1 9 0) gives K 0 ∷ ack_by 0 (slip 2 1 8 0) gives R 8
    ∷ ack_by 0 (slip 3 1 9 0) gives N ∷ ack_by 1 (slip 3 1 9 0) gives N ∷ ack_by 2 (slip 3 1 9 0) gives N ∷ ack_by 3 (slip 3 1 8 0) gives N
    ∷ ack_by 4 (slip 3 1 8 0) gives P (slip 3 1 9 0) ∷ Decision (slip 3 1 8 0) gives K 0 ∷ ack_by 5 (slip 3 1 9 0) gives R 8 ∷ [])
    (ack_by 0 u gives R 6 ∷ ack_by 0 (slip 2 1 9 0) gives R 8 ∷ ack_by 0 (slip 2 1 8 0) gives P (slip 2 1 9 0) ∷ ack_by 1 (slip 2 1 8 0) gives R 8
    ∷ ack_by 5 (slip 3 1 9 0) gives R 8 ∷ Decision (slip 0 2 1 1) gives K 1 ∷ ack_by 0 (slip 0 2 2 1) gives P (slip 0 2 1 1) ∷ [])
    (5 ∷ 8 ∷ 0 ∷ 0 ∷ [])
    ∷ runs_across first_rules 6 1 (10 ∷ 3 ∷ []) (Decision t gives K 1 ∷ ack_by 0 u gives R 6 ∷ Decision (slip 0 2 9 1) gives K 0 ∷ ack_by 0 (slip 0 2 8 1) gives R 8 ∷ [])
    (ack_by 0 u gives R 6 ∷ ack_by 0 (slip 0 2 8 1) gives R 8 ∷ [])
    (6 ∷ 7 ∷ [])
    ∷ runs_across since_request5 6 1 (10 ∷ 3 ∷ []) (Decision t gives K 1 ∷ []) (ack_by 0 u gives P t ∷ ack_by 0 u gives R 6 ∷ []) (6 ∷ 7 ∷ [])
    ∷ []

-- Document 02, request 4: which seats are gathered for a slip. The case split 3, 3, 1, each of its slips; a slip
-- that nobody acked, and one that differs in its number alone; places that are empty, seat 0's and seat 15's among
-- them; every seat; and no acks.
pub gathering : List Row
gathering =
    gathers (Some t ∷ Some t ∷ Some t ∷ Some u ∷ Some u ∷ Some u ∷ Some w ∷ []) t (0 ∷ 1 ∷ 2 ∷ [])
    ∷ gathers (Some t ∷ Some t ∷ Some t ∷ Some u ∷ Some u ∷ Some u ∷ Some w ∷ []) u (3 ∷ 4 ∷ 5 ∷ [])
    ∷ gathers (Some t ∷ Some t ∷ Some t ∷ Some u ∷ Some u ∷ Some u ∷ Some w ∷ []) w (6 ∷ [])
    ∷ gathers (Some t ∷ Some u ∷ []) v []
    ∷ gathers (Some t ∷ Some u ∷ []) (slip 0 2 4 1) []
    ∷ gathers (None ∷ Some u ∷ Some t ∷ None ∷ Some u ∷ Some t ∷ Some t ∷ []) t (2 ∷ 5 ∷ 6 ∷ [])
    ∷ gathers (Some u ∷ replicate 14 None ++ (Some u ∷ [])) u (0 ∷ 15 ∷ [])
    ∷ gathers (replicate 16 (Some t)) t (0 ∷ 1 ∷ 2 ∷ 3 ∷ 4 ∷ 5 ∷ 6 ∷ 7 ∷ 8 ∷ 9 ∷ 10 ∷ 11 ∷ 12 ∷ 13 ∷ 14 ∷ 15 ∷ [])
    ∷ gathers (replicate 16 None) t []
    ∷ []

-- Further cases, in document 01's order: daybook's whole output; a seat's second ack;
-- the mark cleared at booking; only the accepted slip put forward once one is accepted; 12 before 11; each code,
-- and 5 to 8 under each kind of call.
pub further : List Row
further =
    runs 6 1 (10 ∷ 3 ∷ [])
    (Circulated t gives A ∷ ack_by 0 t gives N ∷ ack_by 1 t gives N ∷ ack_by 2 t gives N ∷ ack_by 3 t gives N ∷ ack_by 4 t gives K 1
    ∷ Inquiry (account_of 1) gives B 7 ∷ [])
    (6 ∷ 7 ∷ [])
    ∷ runs 6 1 (10 ∷ 3 ∷ []) (ack_by 0 t gives N ∷ ack_by 0 u gives R 10 ∷ ack_by 0 t gives R 9 ∷ ack_by 6 t gives R 4 ∷ []) (10 ∷ 3 ∷ [])
    ∷ runs 6 1 (10 ∷ 3 ∷ [])
    (Circulated u gives A ∷ Decision t gives K 1 ∷ Circulated u gives R 6 ∷ Circulated (slip 0 2 6 1) gives A
    ∷ Circulated (slip 0 3 6 1) gives R 7 ∷ [])
    (6 ∷ 7 ∷ [])
    ∷ runs 6 1 (0 ∷ 5 ∷ [])
    (Decision t gives K 0 ∷ ack_by 0 u gives P t ∷ ack_by 0 u gives R 8 ∷ Decision u gives R 8 ∷ Request t gives R 8 ∷ Inquiry (account_of 2) gives R 5 ∷ [])
    (0 ∷ 5 ∷ [])
    ∷ runs 6 1 (10 ∷ 5 ∷ [])
    (Circulated (slip 0 1 10 1) gives A ∷ Circulated (slip 0 1 11 1) gives R 12 ∷ Request (slip 0 1 11 1) gives R 11
    ∷ Request (slip 0 1 10 1) gives C ∷ [])
    (10 ∷ 5 ∷ [])
    ∷ runs 6 1 (10 ∷ 3 ∷ [])
    (every_kind (slip 2 1 4 1) (R 5) ++ every_kind (slip 0 1 4 2) (R 5) ++ every_kind (slip 0 0 4 1) (R 5)
    ++ every_kind (slip 0 1 0 1) (R 5) ++ every_kind (slip 0 1 14 1) (R 5) ++ every_kind (slip 0 2 4 1) (R 7)
    ++ (Decision t gives K 1 ∷ []) ++ every_kind t (R 6) ++ every_kind (slip 0 3 4 1) (R 7))
    (6 ∷ 7 ∷ [])
    ∷ runs 6 1 (0 ∷ 5 ∷ []) ((Decision t gives K 0 ∷ []) ++ every_kind t (R 8) ++ (ack_by 0 u gives P t ∷ []) ++ every_kind u (R 8)) (0 ∷ 5 ∷ [])
    ∷ opens (page_with 1 0 (10 ∷ [])) (0 ∷ [])
    ∷ opens (page_with 16 3 (replicate 32 1)) (0 ∷ [])
    ∷ opens (page_with 0 0 (10 ∷ [])) (1 ∷ [])
    ∷ opens (page_with 6 1 []) (2 ∷ [])
    ∷ opens (page_with 6 1 (replicate 33 1)) (2 ∷ [])
    ∷ opens (record { seats = 6; faults = 1; accounts = 1; balances = 10 ∷ 3 ∷ replicate 30 0 }) (2 ∷ [])
    ∷ opens (page_with 6 1 (4_294_967_295 ∷ 1 ∷ [])) (3 ∷ [])
    ∷ opens (page_with 6 1 (4_294_967_295 ∷ 0 ∷ [])) (0 ∷ [])
    ∷ []

-- rulings for slips of the accounts below this one, each above its balance of 1, the highest account's first
abbrev falling : ℕ → List Asked
falling zero = []
falling (suc a) = Decision (slip a 1 2 0) gives K 0 ∷ falling a

-- so many numbers, from this one on
abbrev from : ℕ → ℕ → List ℕ
from zero i = []
from (suc left) i = i ∷ from left (suc i)

-- Document 02, request 6: the waiting list. Nothing waits; accounts that come to wait highest first; one that waited
-- and is booked; every account; a buffer longer than 32 bytes; and one that is too short, where something waits.
pub waiting_lists : List Row
waiting_lists =
    lists (10 ∷ []) [] (replicate 32 9) (0 ∷ 0 ∷ []) (replicate 32 9)
    ∷ lists (replicate 4 1)
    (Decision (slip 3 1 2 0) gives K 0 ∷ Decision (slip 2 1 2 1) gives K 0 ∷ Decision (slip 1 1 1 2) gives K 2 ∷ Decision (slip 1 2 3 0) gives K 0
    ∷ Decision (slip 0 1 2 3) gives K 0 ∷ [])
    (replicate 33 9) (0 ∷ 3 ∷ []) (0 ∷ 1 ∷ 3 ∷ replicate 30 9)
    ∷ lists (replicate 32 1) (falling 32) (replicate 40 9) (0 ∷ 32 ∷ []) (from 32 0 ++ replicate 8 9)
    ∷ lists (replicate 4 1) (falling 4) (replicate 32 9) (0 ∷ 4 ∷ []) (0 ∷ 1 ∷ 2 ∷ 3 ∷ replicate 28 9)
    ∷ lists (replicate 4 1) (falling 4) (replicate 31 9) (17 ∷ []) (replicate 31 9)
    ∷ lists (replicate 4 1) (falling 4) [] (17 ∷ []) []
    ∷ []

-- the body of a page with the slip t
abbrev body : List ℕ
body = 0 ∷ 1 ∷ 0 ∷ 0 ∷ 0 ∷ 4 ∷ 0 ∷ 0 ∷ 0 ∷ 1 ∷ []

-- A bundle of two pages: an opening page of zeros, and an ack of t from seat 4, its contents
-- entry with this start and sum.
abbrev two_pages : List ℕ → List ℕ → List ℕ
two_pages start sum =
    (2 ∷ 0 ∷ [])
    ++ (0 ∷ 0 ∷ 18 ∷ 0 ∷ 0 ∷ 0 ∷ 0 ∷ 0 ∷ [])
    ++ (3 ∷ 4 ∷ start)
    ++ sum
    ++ replicate 131 0
    ++ body

abbrev right_start : List ℕ
right_start = 149 ∷ 0 ∷ []

abbrev right_sum : List ℕ
right_sum = 6 ∷ 205 ∷ 124 ∷ 148 ∷ []

abbrev wrong_sum : List ℕ
wrong_sum = replicate 4 0

abbrev sound : List ℕ
sound = two_pages right_start right_sum

-- A bundle with a page of each kind: the slips are t, the question is for account 1. Six
-- entries, so the bodies start at 50.
abbrev all_kinds : List ℕ
all_kinds =
    (6 ∷ 0 ∷ [])
    ++ (0 ∷ 0 ∷ 50 ∷ 0 ∷ 0 ∷ 0 ∷ 0 ∷ 0 ∷ [])
    ++ (1 ∷ 0 ∷ 181 ∷ 0 ∷ right_sum)
    ++ (2 ∷ 0 ∷ 191 ∷ 0 ∷ right_sum)
    ++ (3 ∷ 4 ∷ 201 ∷ 0 ∷ right_sum)
    ++ (4 ∷ 0 ∷ 211 ∷ 0 ∷ right_sum)
    ++ (5 ∷ 0 ∷ 221 ∷ 0 ∷ 1 ∷ 0 ∷ 0 ∷ 0 ∷ [])
    ++ replicate 131 0
    ++ body
    ++ body
    ++ body
    ++ body
    ++ (1 ∷ [])

-- The smallest bundle: an opening page of zeros.
abbrev one_page : List ℕ
one_page = (1 ∷ 0 ∷ 0 ∷ 0 ∷ 10 ∷ 0 ∷ 0 ∷ 0 ∷ 0 ∷ 0 ∷ []) ++ replicate 131 0

-- Sound bundles, a message of each kind, an opening page, and a reading to the end; then for each code bundles that it
-- refuses, one of them with the later codes at fault too, so that their order shows.
pub format : List Row
format =
    checks sound (0 ∷ 2 ∷ [])
    ∷ checks one_page (0 ∷ 1 ∷ [])
    ∷ checks all_kinds (0 ∷ 6 ∷ [])
    ∷ shows all_kinds 1 (Request t)
    ∷ shows all_kinds 2 (Circulated t)
    ∷ shows all_kinds 3 (ack_by 4 t)
    ∷ shows all_kinds 4 (Decision t)
    ∷ shows all_kinds 5 (Inquiry (account_of 1))
    ∷ shows_opening (6 ∷ 1 ∷ 2 ∷ 10 ∷ 0 ∷ 0 ∷ 0 ∷ 4 ∷ 3 ∷ 2 ∷ 1 ∷ replicate 120 0) (page_with 6 1 (10 ∷ 16_909_060 ∷ []))
    ∷ reads sound 0 (0 ∷ []) 1
    ∷ reads sound 1 (3 ∷ []) 2
    ∷ reads sound 2 [] 2
    ∷ checks [] (13 ∷ 0 ∷ [])
    ∷ checks (set sound 0 0) (13 ∷ 0 ∷ [])
    ∷ checks (set sound 1 4) (13 ∷ 0 ∷ [])
    ∷ checks (take 17 sound) (13 ∷ 0 ∷ [])
    ∷ checks (two_pages (148 ∷ 0 ∷ []) wrong_sum ++ (0 ∷ [])) (14 ∷ 1 ∷ [])
    ∷ checks (set sound 2 6) (14 ∷ 0 ∷ [])
    ∷ checks (set (set sound 10 6) 11 0) (14 ∷ 1 ∷ [])
    ∷ checks (set sound 2 1) (14 ∷ 0 ∷ [])
    ∷ checks (set (set sound 10 0) 11 0) (14 ∷ 1 ∷ [])
    ∷ checks (set sound 10 4) (14 ∷ 1 ∷ [])
    ∷ checks (take 18 sound) (15 ∷ 0 ∷ [])
    ∷ checks (two_pages right_start wrong_sum ++ (0 ∷ [])) (15 ∷ 0 ∷ [])
    ∷ checks (two_pages right_start wrong_sum) (16 ∷ 1 ∷ [])
    ∷ counts 0 true
    ∷ counts 1 false
    ∷ counts 1_000 false
    ∷ counts 1_001 true
    ∷ []

-- Document 02, request 1: the same bundles written; a page that an opening refuses, an ack of a seat that there is not,
-- numbers of several bytes; what the writer replies at its limits, 18 before 19; and what it leaves in a buffer.
pub writing : List Row
writing =
    writes empty_page [] one_page
    ∷ writes empty_page (ack_by 4 t ∷ []) sound
    ∷ writes empty_page (Request t ∷ Circulated t ∷ ack_by 4 t ∷ Decision t ∷ Inquiry (account_of 1) ∷ []) all_kinds
    ∷ writes (page_with 99 7 (16_909_060 ∷ [])) (ack_by 200 (slip 255 67_305_985 4_294_967_295 254) ∷ [])
    ((2 ∷ 0 ∷ [])
    ++ (0 ∷ 0 ∷ 18 ∷ 0 ∷ 123 ∷ 208 ∷ 194 ∷ 13 ∷ [])
    ++ (3 ∷ 200 ∷ 149 ∷ 0 ∷ 29 ∷ 188 ∷ 53 ∷ 109 ∷ [])
    ++ (99 ∷ 7 ∷ 1 ∷ 4 ∷ 3 ∷ 2 ∷ 1 ∷ [])
    ++ replicate 124 0
    ++ (255 ∷ 1 ∷ 2 ∷ 3 ∷ 4 ∷ 255 ∷ 255 ∷ 255 ∷ 255 ∷ 254 ∷ []))
    ∷ fits 999 200 200 (0 ∷ 200 ∷ [])
    ∷ fits 999 200 199 (19 ∷ 0 ∷ [])
    ∷ fits 1_000 200 200 (18 ∷ 0 ∷ [])
    ∷ fits 1_000 200 0 (18 ∷ 0 ∷ [])
    ∷ leaves 999 (1 ∷ 2 ∷ []) (7 ∷ 8 ∷ 9 ∷ 10 ∷ []) (1 ∷ 2 ∷ 9 ∷ 10 ∷ [])
    ∷ leaves 999 (1 ∷ 2 ∷ []) (7 ∷ []) (7 ∷ [])
    ∷ leaves 1_000 (1 ∷ 2 ∷ []) (7 ∷ 8 ∷ 9 ∷ []) (7 ∷ 8 ∷ 9 ∷ [])
    ∷ []

-- Document 02, request 7. A group's bundle.
abbrev group : List Message → List ℕ
group ms = written (page_with 6 1 (10 ∷ 3 ∷ [])) ms

-- seats 2 and 3 ack t; seat 2 acks t and seat 3 acks u
abbrev one : List ℕ
one = group (ack_by 2 t ∷ ack_by 3 t ∷ [])

abbrev other : List ℕ
other = group (ack_by 2 t ∷ ack_by 3 u ∷ [])

-- The earliest entry of the first, whatever that of the second is; the other way round another pair; one bundle twice.
pub join_order : List Row
join_order =
    joins (group (ack_by 0 t ∷ ack_by 1 t ∷ [])) (group (ack_by 1 u ∷ ack_by 2 u ∷ ack_by 0 v ∷ ack_by 0 u ∷ [])) unruled
    (0 ∷ 1 ∷ 0 ∷ 1 ∷ 3 ∷ 1 ∷ []) (transfer_bytes t)
    ∷ joins (group (ack_by 1 u ∷ ack_by 2 u ∷ ack_by 0 v ∷ ack_by 0 u ∷ [])) (group (ack_by 0 t ∷ ack_by 1 t ∷ [])) unruled
    (0 ∷ 1 ∷ 1 ∷ 1 ∷ 2 ∷ 1 ∷ []) (transfer_bytes u)
    ∷ joins (group (ack_by 3 t ∷ ack_by 3 u ∷ [])) (group (ack_by 3 t ∷ ack_by 3 u ∷ [])) unruled (0 ∷ 1 ∷ 3 ∷ 1 ∷ 2 ∷ 1 ∷ []) (transfer_bytes t)
    ∷ []

-- Seats: not seat n, with n as the page has it, also where an opening is refused; of one seat, not of two.
pub join_seats : List Row
join_seats =
    joins (group (ack_by 6 t ∷ [])) (group (ack_by 6 u ∷ [])) unruled (0 ∷ 0 ∷ []) []
    ∷ joins (written (page_with 99 0 []) (ack_by 98 t ∷ [])) (written (page_with 99 0 []) (ack_by 98 u ∷ [])) unruled
    (0 ∷ 1 ∷ 98 ∷ 1 ∷ 1 ∷ 1 ∷ []) (transfer_bytes t)
    ∷ joins (written empty_page (ack_by 0 t ∷ [])) (written empty_page (ack_by 0 u ∷ [])) unruled (0 ∷ 0 ∷ []) []
    ∷ joins (group (ack_by 2 t ∷ [])) (group (ack_by 4 u ∷ [])) unruled (0 ∷ 0 ∷ []) []
    ∷ []

-- Slips: equal ones are no pair, nor those of another account or number; another recipient is enough.
pub join_slips : List Row
join_slips =
    joins one one unruled (0 ∷ 0 ∷ []) []
    ∷ joins one (group (ack_by 2 (slip 1 1 5 1) ∷ ack_by 3 (slip 0 2 5 1) ∷ [])) unruled (0 ∷ 0 ∷ []) []
    ∷ joins one (group (Inquiry (account_of 0) ∷ ack_by 2 w ∷ [])) unruled (0 ∷ 1 ∷ 2 ∷ 1 ∷ 2 ∷ 1 ∷ []) (transfer_bytes t)
    ∷ []

-- Acks alone, also those that no book takes.
pub join_acks : List Row
join_acks =
    joins (group (Circulated t ∷ Decision t ∷ Request t ∷ ack_by 0 t ∷ [])) (group (Circulated u ∷ Decision u ∷ Request u ∷ [])) unruled
    (0 ∷ 0 ∷ []) []
    ∷ joins (group (Circulated u ∷ Decision u ∷ Request u ∷ [])) (group (ack_by 0 t ∷ [])) unruled (0 ∷ 0 ∷ []) []
    ∷ joins (group (ack_by 5 (slip 200 0 0 200) ∷ [])) (group (ack_by 5 (slip 200 0 7 0) ∷ [])) unruled
    (0 ∷ 1 ∷ 5 ∷ 1 ∷ 1 ∷ 1 ∷ []) (transfer_bytes (slip 200 0 0 200))
    ∷ []

-- The body that is shown: the first's, unless its slip is the ruled one.
pub join_shown : List Row
join_shown =
    joins one other unruled (0 ∷ 1 ∷ 3 ∷ 2 ∷ 2 ∷ 1 ∷ []) (transfer_bytes t)
    ∷ joins one other u (0 ∷ 1 ∷ 3 ∷ 2 ∷ 2 ∷ 1 ∷ []) (transfer_bytes t)
    ∷ joins one (group (ack_by 2 t ∷ ack_by 0 t ∷ ack_by 3 u ∷ [])) t (0 ∷ 1 ∷ 3 ∷ 2 ∷ 3 ∷ 2 ∷ []) (transfer_bytes u)
    ∷ []

-- The checks in their order, the first's, the second's, and 21 for pages that differ in any byte.
pub join_checks : List Row
join_checks =
    joins [] [] unruled (13 ∷ 1 ∷ 0 ∷ []) []
    ∷ joins (set (set sound 10 6) 11 0) [] unruled (14 ∷ 1 ∷ 1 ∷ []) []
    ∷ joins (take 18 sound) [] unruled (15 ∷ 1 ∷ 0 ∷ []) []
    ∷ joins (two_pages right_start wrong_sum) [] unruled (16 ∷ 1 ∷ 1 ∷ []) []
    ∷ joins one [] unruled (13 ∷ 2 ∷ 0 ∷ []) []
    ∷ joins one_page (set sound 10 6) unruled (14 ∷ 2 ∷ 1 ∷ []) []
    ∷ joins one (take 18 sound) unruled (15 ∷ 2 ∷ 0 ∷ []) []
    ∷ joins one (two_pages right_start wrong_sum) unruled (16 ∷ 2 ∷ 1 ∷ []) []
    ∷ joins one one_page unruled (21 ∷ 0 ∷ 0 ∷ []) []
    ∷ joins one (written (page_with 6 1 (10 ∷ 4 ∷ [])) []) unruled (21 ∷ 0 ∷ 0 ∷ []) []
    ∷ joins one_page one_page unruled (0 ∷ 0 ∷ []) []
    ∷ []

-- Every row holds of the definitions: the checker computes each.
pub facts : T (every row_holds marked)
    × T (every row_holds tied)
    × T (every row_holds self_paid)
    × T (every row_holds switching)
    × T (every row_holds late)
    × T (every row_holds taken_over)
    × T (every row_holds gathering)
    × T (every row_holds further)
    × T (every row_holds format)
    × T (every row_holds writing)
    × T (every row_holds waiting_lists)
    × T (every row_holds join_order)
    × T (every row_holds join_seats)
    × T (every row_holds join_slips)
    × T (every row_holds join_acks)
    × T (every row_holds join_shown)
    × T (every row_holds join_checks)
unfolding marked tied self_paid switching late taken_over gathering further format writing waiting_lists join_order join_seats join_slips join_acks join_shown join_checks is_pair partner_of earliest_pair evidence waiting_accounts written no_acks equal conflict has_most most_acked gathered open_reply open_ledger lowest_affordable apply settle_at_most settle step step_under check_bundle
facts = (tt, tt, tt, tt, tt, tt, tt, tt, tt, tt, tt, tt, tt, tt, tt, tt, tt)
