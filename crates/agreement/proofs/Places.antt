-- Places in a run: how they are ordered, what the tests over a run say at each of them, and how a seat's
-- ledger gets from one to the next.
use mathlib.Core.Path.{◌≡◌, refl, ap, sym}
use mathlib.Core.Logic.{◌⊎◌, inl, inr}
use mathlib.Core.Bool.{Bool, true, false, cond, or-true}
use borrow.Author.Tests.{eq-eqb, eqb-true}
use Prim.Native.Nat.{ℕ}
use mathlib.Core.List.{List}
use Rattle.std.proofs.lemmas.Bool.{and_parts}
use Rattle.laws.specs.Types.{Seat, Ledger, Opening, Message, Reply, ListReply}
use Rattle.runs.specs.Runs.{Call, message, waiting_list, switch, Event, Run, start, ◌▹◌, Within, at_end, sooner, happened, throughout, same_seat, rules_after, rules_at, next_ledger, ledger_at, MayReply, Conforms, Obeys}
use Rattle.runs.proofs.Found.{happened_found}
use Rattle.model.specs.Records.{seat_of, fresh_ledger}
use Rattle.model.specs.Switches.{Rules, next_rules, switched, step_under}
use Rattle.laws.proofs.Sums.{impossible}

-- the rules under which each seat started; and the start is a place
abbrev pub started_under : Run → Seat → Rules
started_under (start from) = from
started_under (r ▹ e) = started_under r

pub the_start : (r : Run) → Within (start (started_under r)) r
the_start (start from) = at_end
the_start (r ▹ e) = sooner (the_start r)

-- a place in what came before a place
pub within_trans : {p q r : Run} → Within p q → Within q r → Within p r
within_trans w at_end = w
within_trans w (sooner v) = sooner (within_trans w v)

-- what came before an event is a place
pub before : {p r : Run} {e : Event} → Within (p ▹ e) r → Within p r
before w = within_trans (sooner at_end) w

-- nothing happened at the start
pub nothing_yet : {A : Type 0} {p : Run} {e : Event} {from : Seat → Rules} → Within (p ▹ e) (start from) → A
nothing_yet {from = from} w = go w refl
  where
    go : {A : Type 0} {p r : Run} {e : Event} → Within (p ▹ e) r → r ≡ start from → A
    go at_end same = impossible (cc)
    go (sooner w) same = impossible (cc)

-- an event of a run with one more event is that one, or was there before
pub last_or_sooner : {p r : Run} {e d : Event} → Within (p ▹ e) (r ▹ d) → ((p ≡ r) × (e ≡ d)) ⊎ Within (p ▹ e) r
last_or_sooner w = go w refl
  where
    go : {p r q : Run} {e d : Event} → Within (p ▹ e) q → q ≡ r ▹ d → ((p ≡ r) × (e ≡ d)) ⊎ Within (p ▹ e) r
    go at_end same = inl (cc, cc)
    go {p} {r} {e} (sooner {r = x} w) same = let first : x ≡ r = cc in inr (rw first at w)

-- two events of a run are one, or one came before the other
pub data Order (p q : Run) (e d : Event) : Type 0 where
  same_event : p ≡ q → e ≡ d → Order p q e d
  earlier : Within (p ▹ e) q → Order p q e d
  later : Within (q ▹ d) p → Order p q e d

pub order : {p q : Run} {e d : Event} (r : Run) → Within (p ▹ e) r → Within (q ▹ d) r → Order p q e d
order (start from) w v = nothing_yet w
order (r ▹ c) w v = go (last_or_sooner w) (last_or_sooner v) (order r)
  where
    go : {p q : Run} {e d : Event} → ((p ≡ r) × (e ≡ c)) ⊎ Within (p ▹ e) r → ((q ≡ r) × (d ≡ c)) ⊎ Within (q ▹ d) r
        → (Within (p ▹ e) r → Within (q ▹ d) r → Order p q e d) → Order p q e d
    go (inl w) (inl v) rest = same_event (cc (w.0, v.0)) (cc (w.1, v.1))
    go (inl w) (inr v) rest = later (rw (sym w.0) at v)
    go (inr w) (inl v) rest = earlier (rw (sym v.0) at w)
    go (inr w) (inr v) rest = rest w v

-- if an event passes a test, some does
pub happened_holds : (test : Event → Bool) {p r : Run} {e : Event} → Within (p ▹ e) r → test e ≡ true → happened test r ≡ true
happened_holds test {p} at_end h = rw h (or-true (happened test p))
happened_holds test (sooner w) h = rw (happened_holds test w h)

-- what has happened at a place has happened at each later one
pub happened_later : (test : Event → Bool) {p r : Run} → Within p r → happened test p ≡ true → happened test r ≡ true
happened_later test {p} w h = let found = happened_found test p h in happened_holds test (within_trans found.2 w) found.3

-- a test that each event passes
pub throughout_at : (test : Run → Event → Bool) {p r : Run} {e : Event} → throughout test r ≡ true → Within (p ▹ e) r → test p e ≡ true
throughout_at test {p} {e = e} h at_end = (and_parts (throughout test p) (test p e) h).1
throughout_at test h (sooner {r = r} {e = d} w) = throughout_at test (and_parts (throughout test r) (test r d) h).0 w

-- a run that obeys, obeys at each place
pub obeys_before : (o : Opening) {p r : Run} → Obeys o r → Within p r → Obeys o p
obeys_before o ok at_end = ok
obeys_before o ok (sooner w) = obeys_before o ok.0 w

pub obeys_at : (o : Opening) {p r : Run} {e : Event} → Obeys o r → Within (p ▹ e) r → Conforms (rules_at e.at p) (ledger_at o e.at p) e.call
obeys_at o ok w = (obeys_before o ok w).1

-- a seat, from the test
pub seat_is : (s z : Seat) → same_seat s z ≡ true → s ≡ z
seat_is s z e = ap seat_of (eqb-true s.0 z.0 e)

pub seat_self : (s : Seat) → same_seat s s ≡ true
seat_self s = eq-eqb s.0 s.0 refl

-- a message leaves its seat's rules
pub rules_after_lem : (s : Seat) (r : Run) (e : Event) (m : Message) (q : Reply) → e.at ≡ s → e.call ≡ message m q → rules_at s (r ▹ e) ≡ rules_at s r
unfolding rules_at
rules_after_lem s r e m q seat call = rw (seat, call, seat_self s)

-- the ledger after a message is what the message left
pub ledger_after_lem : (o : Opening) (s : Seat) (r : Run) (e : Event) (m : Message) (q : Reply) → e.at ≡ s → e.call ≡ message m q
    → ledger_at o s (r ▹ e) ≡ (step_under (rules_at s r) (ledger_at o s r) m).next
unfolding ledger_at
ledger_after_lem o s r e m q seat call = rw (seat, call, seat_self s)

-- What stays true of a seat's rules and ledger at one more event: at one elsewhere, at a waiting list, at a switch, and
-- at a message, under whatever rules.
module _ (o : Opening) (s : Seat) (P : Run → Rules → Ledger → Type 0)
    (elsewhere : (r : Run) (e : Event) (v : Rules) (l : Ledger) → same_seat e.at s ≡ false → P r v l → P (r ▹ e) v l)
    (listed : (r : Run) (b a : List ℕ) (q : ListReply) (v : Rules) (l : Ledger) → P r v l → P (r ▹ record { at = s; call = waiting_list b q a }) v l)
    (switches : (r : Run) (v : Rules) (l : Ledger)
    → l ≡ ledger_at o s r → Obeys o r → P r v l → P (r ▹ record { at = s; call = switch }) (next_rules v) (switched v l))
    (answered : (r : Run) (v : Rules) (m : Message) (q : Reply) (l : Ledger)
    → l ≡ ledger_at o s r → Obeys o r → MayReply v l m q → P r v l → P (r ▹ record { at = s; call = message m q }) v (step_under v l m).next)
  where
    at_seat : (r : Run) (c : Call) → Obeys o r → Conforms (rules_at s r) (ledger_at o s r) c
        → P r (rules_at s r) (ledger_at o s r)
        → P (r ▹ record { at = s; call = c }) (rules_after (rules_at s r) c) (next_ledger (rules_at s r) (ledger_at o s r) c)
    at_seat r (message m q) obeys ok yet = answered r (rules_at s r) m q (ledger_at o s r) refl obeys ok yet
    at_seat r (waiting_list b q a) obeys ok yet = listed r b a q (rules_at s r) (ledger_at o s r) yet
    at_seat r switch obeys ok yet = switches r (rules_at s r) (ledger_at o s r) refl obeys yet

    pub one_event : (r : Run) (e : Event) → Obeys o (r ▹ e) → P r (rules_at s r) (ledger_at o s r) → P (r ▹ e) (rules_at s (r ▹ e)) (ledger_at o s (r ▹ e))
    unfolding rules_at ledger_at
    one_event r e ok yet = go (same_seat e.at s) refl
      where
        go : (b : Bool) → same_seat e.at s ≡ b
            → P (r ▹ e) (cond b (rules_after (rules_at s r) e.call) (rules_at s r))
            (cond b (next_ledger (rules_at s r) (ledger_at o s r) e.call) (ledger_at o s r))
        go true here =
            let seat = seat_is e.at s here in
            let this : (record { at = s; call = e.call }) ≡ e = λ i. record { at = sym seat i; call = e.call } in
            rw (← this) (at_seat r e.call ok.0 (rw seat at ok.1) yet)
        go false there = elsewhere r e (rules_at s r) (ledger_at o s r) there yet

    -- so at every place, if it is true of the opened ledger
    pub ledger_induction : ((from : Seat → Rules) → P (start from) (from s) (fresh_ledger o)) → (r : Run) → Obeys o r → P r (rules_at s r) (ledger_at o s r)
    unfolding rules_at ledger_at
    ledger_induction opened (start from) ok = opened from
    ledger_induction opened (r ▹ e) ok = one_event r e ok (ledger_induction opened r ok.0)
