-- What a call did, read back: the call and the reply that "acks", "accepts", "puts forward" and "rules" stand for.
use Rattle.std.proofs.lemmas.Option.{cond_some}
use Rattle.std.proofs.lemmas.Bool.{and_parts, not-true}
use Rattle.std.specs.Prelude.{Option, Some, None}
use Prim.Native.Nat.{ℕ}
use mathlib.Core.Path.{◌≡◌, refl, ap, sym}
use mathlib.Core.Bool.{Bool, true, false, not, ◌&&◌}
use Rattle.laws.specs.Types.{Seat, Transfer, Message, Request, Circulated, Ack, Decision, Inquiry, Reply, Circulate, Acknowledge, Accept, Propose, Note, Balance, Refuse}
use Rattle.runs.specs.Runs.{Call, message, waiting_list, switch, Event, Run, ◌▹◌, Within, happened, same_seat, is_acknowledge, is_accept, acked, accepted, proposed, passes}
use Rattle.runs.proofs.Found.{happened_found, that_slip}
use Rattle.runs.specs.Undisputed.{too_early, brings}
use Rattle.agreement.proofs.Places.{seat_is}
use Rattle.agreement.proofs.Proposals.{carried}
use Rattle.model.specs.Transfers.{equal}
use Rattle.laws.proofs.Sums.{impossible}
use Rattle.laws.proofs.Equality.{equal_sound}

is_acknowledge_lem : (r : Reply) → is_acknowledge r ≡ true → r ≡ Acknowledge
is_acknowledge_lem Circulate e = impossible (cc)
is_acknowledge_lem Acknowledge e = refl
is_acknowledge_lem (Accept c) e = impossible (cc)
is_acknowledge_lem (Propose t) e = impossible (cc)
is_acknowledge_lem Note e = impossible (cc)
is_acknowledge_lem (Balance b) e = impossible (cc)
is_acknowledge_lem (Refuse q) e = impossible (cc)

is_accept_lem : (r : Reply) → is_accept r ≡ true → (c : ℕ) × (r ≡ Accept c)
is_accept_lem Circulate e = impossible (cc)
is_accept_lem Acknowledge e = impossible (cc)
is_accept_lem (Accept c) e = (c, refl)
is_accept_lem (Propose t) e = impossible (cc)
is_accept_lem Note e = impossible (cc)
is_accept_lem (Balance b) e = impossible (cc)
is_accept_lem (Refuse q) e = impossible (cc)

-- it acked t
pub acked_is : (c : Call) (t : Transfer) → acked c ≡ Some t → c ≡ message (Circulated t) Acknowledge
acked_is (message (Request u) r) t e = impossible (cc)
acked_is (message (Circulated u) r) t e =
    let found = cond_some (is_acknowledge r) u t e in
    rw (is_acknowledge_lem r found.0, found.1) refl
acked_is (message (Ack s u) r) t e = impossible (cc)
acked_is (message (Decision u) r) t e = impossible (cc)
acked_is (message (Inquiry a) r) t e = impossible (cc)
acked_is (waiting_list before r after) t e = impossible (cc)
acked_is switch t e = impossible (cc)

-- it accepted t: an ack or a ruling
pub data Accepts (c : Call) (t : Transfer) : Type 0 where
  by_ack : (s : Seat) (k : ℕ) → c ≡ message (Ack s t) (Accept k) → Accepts c t
  by_ruling : (k : ℕ) → c ≡ message (Decision t) (Accept k) → Accepts c t

pub accepted_is : (c : Call) (t : Transfer) → accepted c ≡ Some t → Accepts c t
accepted_is (message (Request u) r) t e = impossible (cc)
accepted_is (message (Circulated u) r) t e = impossible (cc)
accepted_is (message (Ack s u) r) t e =
    let found = cond_some (is_accept r) u t e in
    let reply = is_accept_lem r found.0 in
    by_ack s reply.0 (λ i. message (Ack s (found.1 i)) (reply.1 i))
accepted_is (message (Decision u) r) t e =
    let found = cond_some (is_accept r) u t e in
    let reply = is_accept_lem r found.0 in
    by_ruling reply.0 (λ i. message (Decision (found.1 i)) (reply.1 i))
accepted_is (message (Inquiry a) r) t e = impossible (cc)
accepted_is (waiting_list before r after) t e = impossible (cc)
accepted_is switch t e = impossible (cc)

-- it is a message
pub accepting_call : (c : Call) (t : Transfer) → accepted c ≡ Some t → (m : Message) × (r : Reply) × (c ≡ message m r)
accepting_call c t e = go (accepted_is c t e)
  where
    go : Accepts c t → (m : Message) × (r : Reply) × (c ≡ message m r)
    go (by_ack s k is) = (Ack s t, Accept k, is)
    go (by_ruling k is) = (Decision t, Accept k, is)

-- it put u forward
pub proposed_is : (c : Call) (u : Transfer) → proposed c ≡ Some u → (m : Message) × (c ≡ message m (Propose u))
proposed_is (message m r) u e = (m, ap (message m) (carried r u e))
proposed_is (waiting_list before r after) u e = impossible (cc)
proposed_is switch u e = impossible (cc)

-- it brought an ack of t from seat s, not too early
pub brings_is : (s : Seat) (t : Transfer) (c : Call) → brings s t c ≡ true → (r : Reply) × (c ≡ message (Ack s t) r) × (too_early r ≡ false)
brings_is s t (message (Request u) r) e = impossible (cc)
brings_is s t (message (Circulated u) r) e = impossible (cc)
brings_is s t (message (Ack z u) r) e =
    let parts = and_parts (same_seat z s) (equal t u && not (too_early r)) e in
    let rest = and_parts (equal t u) (not (too_early r)) parts.1 in
    let seat = seat_is z s parts.0 in
    let slip = sym (equal_sound t u rest.0) in
    (r, λ i. message (Ack (seat i) (slip i)) r, not-true (too_early r) rest.1)
brings_is s t (message (Decision u) r) e = impossible (cc)
brings_is s t (message (Inquiry a) r) e = impossible (cc)
brings_is s t (waiting_list before r after) e = impossible (cc)
brings_is s t switch e = impossible (cc)

-- a slip that is there and passes the test
pub passes_is : (test : Transfer → Bool) (x : Option Transfer) → passes test x ≡ true → (t : Transfer) × (x ≡ Some t) × (test t ≡ true)
passes_is test None e = impossible (cc)
passes_is test (Some t) e = (t, refl, e)

-- the call at a seat that did it with slip t
pub deed_found : (did : Call → Option Transfer) (s : Seat) (t : Transfer) (r : Run)
    → happened (λ e. same_seat e.at s && passes (equal t) (did e.call)) r ≡ true
    → (p : Run) × (e : Event) × Within (p ▹ e) r × (e.at ≡ s) × (did e.call ≡ Some t)
deed_found did s t r h =
    let found = happened_found (λ e. same_seat e.at s && passes (equal t) (did e.call)) r h in
    let e = found.1 in
    let parts = and_parts (same_seat e.at s) (passes (equal t) (did e.call)) found.3 in
    (found.0, e, found.2, seat_is e.at s parts.0, that_slip t (did e.call) parts.1)
