-- A seat acks at most one slip per account and number; and an ack that a ledger holds from an honest seat
-- is a slip that this seat acked.
use Rattle.std.specs.Prelude.{Some}
use Prim.Native.Nat.{ℕ, ◌+◌, ◌≤◌, ◌<◌}
use native.Mathlib.Omega.{arith}
use mathlib.Core.Path.{◌≡◌, refl, ap, sym, ◌∙◌}
use mathlib.Core.Logic.{◌⊎◌, inl, inr}
use mathlib.Core.Bool.{Bool, true, false, ◌&&◌}
use Rattle.laws.specs.Types.{Seat, Account, Transfer, Entry, Ledger, Opening, Message, Circulated, Ack, Reply, Acknowledge}
use Rattle.runs.specs.Runs.{Opens, honest, Call, message, waiting_list, switch, Event, Run, ◌▹◌, Within, at_end, sooner, throughout, same_seat, rules_at, ledger_at, Obeys, acked, passes}
use Rattle.runs.specs.Premises.{implies, acked_by, genuine}
use Rattle.agreement.proofs.Places.{before, Order, same_event, earlier, later, order, happened_later, throughout_at, obeys_before}
use Rattle.agreement.proofs.Deeds.{acked_is, deed_found}
use Rattle.laws.proofs.Opened.{Group}
use Rattle.agreement.proofs.Soundness.{opened_entry, group, Sound, no_acks_lem, recorded_read, same_range}
use Rattle.agreement.proofs.Reachable.{sound, run_induction, past_calls, happened_at}
use Rattle.agreement.proofs.Quorums.{bit_most}
use Rattle.agreement.proofs.StepLaws.{Puts, puts_mark, puts_ack, puts_proposal, puts_accepted, puts_ruled, puts_late, each_entry, answer_acknowledge, Recording, Marks}
use Rattle.model.specs.Basics.{bit}
use Rattle.model.specs.Records.{entry_of}
use Rattle.model.specs.Transfers.{equal}
use Rattle.model.specs.Refusals.{ack_from, out_of_range}
use Rattle.model.specs.Switches.{Rules, switched, step_under}
use Rattle.laws.proofs.Sums.{impossible}
use Rattle.laws.proofs.Switching.{switched_keeps}
use Rattle.laws.proofs.Steps.{Eligible, Recordable, entry_with_ack, retain_keeps, waiting_under, Happens}

-- the last number of an account that this entry has booked or acked
abbrev pub last_number : Entry → ℕ
last_number e = e.current + bit e.acked

retain_last : (v : Rules) (e : Entry) (t : Transfer) → last_number (waiting_under v e t) ≡ last_number e
retain_last v e t = ap last_number (retain_keeps v e t)

-- it never falls
number_rises : {v : Rules} (o : Opening) (l next : Ledger) (m : Message) (r : Reply) → Group o → Sound o l → Happens v l m r next
    → (a : Account) → last_number (entry_of l a) ≤ last_number (entry_of next a)
number_rises {v} o l next m r g ok =
    each_entry o l next m r g ok (λ a x. last_number (entry_of l a) ≤ last_number x)
    (λ a e e' same h. rw same h)
    (λ a e e' t stands waits clear h.
    omega (arith, clear.current_is, bit_most e.acked, (stands.pending_stands t waits).1))
    (λ a. omega arith)
    puts
  where
    puts : (t : Transfer) (x : Entry) → Puts v l m r t x → last_number (entry_of l t.account) ≤ last_number x
    puts t x (puts_mark e f fit is) = rw is (omega (arith, bit_most (entry_of l t.account).acked))
    puts t x (puts_ack s e fit new is) = rw is (omega arith)
    puts t x (puts_proposal s w e f fit new for is) = rw is (omega arith)
    puts t x (puts_accepted s c e f fit new full is) = rw (is, retain_last v (entry_with_ack l s t) t) (omega arith)
    puts t x (puts_ruled c e f fit is) = rw (is, retain_last v (entry_of l t.account) t) (omega arith)
    puts t x (puts_late s u since e f join is) = rw is (omega arith)

module _ (o : Opening) (opens : Opens o) where
  -- the last number is not below that of what the seat acked
  abbrev pub AckedUpTo : Call → Ledger → Type 0
  AckedUpTo c l = (t : Transfer) → acked c ≡ Some t → t.number ≤ last_number (entry_of l t.account)

  acked_now : {v : Rules} (l next : Ledger) (m : Message) (q : Reply) → Sound o l → Happens v l m q next → AckedUpTo (message m q) next
  acked_now l next m q ok h t is =
      let call = acked_is (message m q) t is in
      let kind : m ≡ Circulated t = cc in
      let reply : q ≡ Acknowledge = cc in
      let marks = answer_acknowledge o l next m q t (group o opens) ok kind reply h in
      rw marks.entry_is (omega (arith, marks.eligible.is_next))

  pub acked_so_far : (s : Seat) (r : Run) → Obeys o r → (p : Run) (e : Event) → Within (p ▹ e) r → e.at ≡ s → AckedUpTo e.call (ledger_at o s r)
  acked_so_far s =
      past_calls o opens s (λ c v l. AckedUpTo c l) (λ v l b a q t is. impossible (cc)) (λ v l t is. impossible (cc))
      (λ v l next m q ok h. acked_now l next m q ok h)
      (λ c v l ok yet t this. omega (arith, yet t this, ap last_number (switched_keeps v l t.account)))
      (λ c v l next m q ok h yet t this. omega (arith, yet t this, number_rises o l next m q (group o opens) ok h t.account))

-- the call that acked a slip
pub acked_by_found : (s : Seat) (t : Transfer) (r : Run) → acked_by s t r ≡ true
    → (p : Run) × (e : Event) × Within (p ▹ e) r × (e.at ≡ s) × (acked e.call ≡ Some t)
acked_by_found = deed_found acked

-- what a seat has acked at a place, it has acked at each later one
pub acked_by_later : (s : Seat) (t : Transfer) {p r : Run} → Within p r → acked_by s t p ≡ true → acked_by s t r ≡ true
acked_by_later s t w h = happened_later (λ e. same_seat e.at s && passes (equal t) (acked e.call)) w h

module _ (o : Opening) (opens : Opens o) (run : Run) (obeys : Obeys o run) where
  -- what the ledger was at the call that acked a slip
  acked_marks : (p : Run) (e : Event) (t : Transfer) → Within (p ▹ e) run → acked e.call ≡ Some t
      → Marks (ledger_at o e.at p) (step_under (rules_at e.at p) (ledger_at o e.at p) (Circulated t)).next t
  acked_marks p e t w is =
      answer_acknowledge o (ledger_at o e.at p) _ (Circulated t) Acknowledge t (group o opens)
      (sound o opens e.at p (obeys_before o obeys (before w))) refl refl
      (happened_at o (Circulated t) Acknowledge obeys w (acked_is e.call t is))

  -- the slip was in range, and is so in every sound ledger; and it has a number
  pub acked_in_range : (p : Run) (e : Event) (t : Transfer) → Within (p ▹ e) run → acked e.call ≡ Some t
      → (1 ≤ t.number) × ((l : Ledger) → Sound o l → out_of_range l t ≡ false)
  acked_in_range p e t w is =
      let fit = (acked_marks p e t w is).eligible in
      let ok = sound o opens e.at p (obeys_before o obeys (before w)) in
      (omega (arith, fit.is_next), λ l too. same_range o l (ledger_at o e.at p) t too ok ∙ fit.in_range)

  -- the number of a slip that is acked is above the last one
  not_yet : (p : Run) (e : Event) (t : Transfer) → Within (p ▹ e) run → acked e.call ≡ Some t
      → last_number (entry_of (ledger_at o e.at p) t.account) < t.number
  not_yet p e t w is =
      let marks = acked_marks p e t w is in
      omega (arith, marks.eligible.is_next, ap bit marks.was_clear)

  -- an earlier ack of the same number at the same seat cannot be
  never_again : (p q : Run) (e d : Event) (t u : Transfer) → Within (q ▹ d) run → Within (p ▹ e) q → e.at ≡ d.at
      → acked e.call ≡ Some t → acked d.call ≡ Some u → t.account ≡ u.account → t.number ≡ u.number → ⊥
  never_again p q e d t u w first seat ist isu account number =
      let past = acked_so_far o opens d.at q (obeys_before o obeys (before w)) p e first seat t ist in
      omega (arith, not_yet q d u w isu, rw account at past)

  -- a seat acks at most one slip per account and number
  pub acked_once : (p q : Run) (e d : Event) (t u : Transfer) → Within (p ▹ e) run → Within (q ▹ d) run → e.at ≡ d.at
      → acked e.call ≡ Some t → acked d.call ≡ Some u → t.account ≡ u.account → t.number ≡ u.number → t ≡ u
  acked_once p q e d t u w v seat ist isu account number = go (order run w v)
    where
      go : Order p q e d → t ≡ u
      go (same_event place event) = let both : Some t ≡ Some u = sym ist ∙ (ap (λ (x : Event). acked x.call) event ∙ isu) in cc
      go (earlier first) = absurd (never_again p q e d t u v first seat ist isu account number)
      go (later first) = absurd (never_again q p d e u t w first (sym seat) isu ist (sym account) (sym number))

  pub acked_by_once : (s : Seat) (t u : Transfer) → acked_by s t run ≡ true → acked_by s u run ≡ true
      → t.account ≡ u.account → t.number ≡ u.number → t ≡ u
  acked_by_once s t u ht hu account number =
      let one = acked_by_found s t run ht in
      let two = acked_by_found s u run hu in
      acked_once one.0 two.0 one.1 two.1 t u one.2 two.2 (one.3 ∙ sym two.3) one.4 two.4 account number

-- Where acks are genuine, the acks that an entry holds from honest seats are slips that these acked, in this run.
abbrev pub FromSenders : Opening → (Seat → Bool) → Run → Entry → Type 0
FromSenders o bad r e = (i : Seat) (t : Transfer) → ack_from e i ≡ Some t → honest o bad i ≡ true → acked_by i t r ≡ true

module _ (o : Opening) (bad : Seat → Bool) (opens : Opens o) where
  -- of an entry with one more ack
  recorded_from : (r : Run) (l : Ledger) (s : Seat) (t : Transfer) → Sound o l → Eligible l t → Recordable l s t
      → (honest o bad s ≡ true → acked_by s t r ≡ true)
      → FromSenders o bad r (entry_of l t.account) → FromSenders o bad r (entry_with_ack l s t)
  recorded_from r l s t ok fit new genuinely old i u h fair = go (recorded_read o l s t (group o opens) ok fit new i u h)
    where
      go : ((i ≡ s) × (u ≡ t)) ⊎ (ack_from (entry_of l t.account) i ≡ Some u) → acked_by i u r ≡ true
      go (inl this) = rw (this.0, this.1) (genuinely (rw this.0 at fair))
      go (inr before) = old i u before fair

  -- the premise, at an ack
  from_premise : (r : Run) (s : Seat) (t : Transfer) (b : Bool) → honest o bad s ≡ b → implies b (acked_by s t r) ≡ true
      → honest o bad s ≡ true → acked_by s t r ≡ true
  from_premise r s t true is h fair = h
  from_premise r s t false is h fair = impossible (cc)

  genuine_ack : (r : Run) (m : Message) (q : Reply) (s : Seat) (t : Transfer) → m ≡ Ack s t → genuine o bad r (message m q) ≡ true
      → honest o bad s ≡ true → acked_by s t r ≡ true
  genuine_ack r m q s t kind h =
      from_premise r s t (honest o bad s) refl (let this : genuine o bad r (message (Ack s t) q) ≡ true = rw kind at h in this)

  -- with something else retained, and a slip that waits
  retain_from : (r : Run) (v : Rules) (e : Entry) (t : Transfer) → FromSenders o bad r e → FromSenders o bad r (waiting_under v e t)
  retain_from r v e t old i u h = old i u (ap (λ (x : Entry). ack_from x i) (sym (retain_keeps v e t)) ∙ h)

  -- one call keeps it
  step_from : {v : Rules} (r : Run) (l next : Ledger) (m : Message) (q : Reply) → Sound o l → genuine o bad r (message m q) ≡ true → Happens v l m q next
      → ((a : Account) → FromSenders o bad r (entry_of l a)) → (a : Account) → FromSenders o bad r (entry_of next a)
  step_from {v} r l next m q ok fair h old =
      each_entry o l next m q (group o opens) ok (λ a x. FromSenders o bad r x)
      (λ a e e' same was i t at. was i t (ap (λ (x : Entry). ack_from x i) (sym same) ∙ at))
      (λ a e e' t stands waits clear was i u at. impossible (cc (rw clear.no_acks_lem at at, no_acks_lem i)))
      old puts h
    where
      puts : (t : Transfer) (x : Entry) → Puts v l m q t x → FromSenders o bad r x
      puts t x (puts_mark e f fit is) = rw is (old t.account)
      puts t x (puts_ack s e fit new is) = rw is (recorded_from r l s t ok fit new (genuine_ack r m q s t e fair) (old t.account))
      puts t x (puts_proposal s w e f fit new for is) = rw is (recorded_from r l s t ok fit new (genuine_ack r m q s t e fair) (old t.account))
      puts t x (puts_accepted s c e f fit new full is) =
          rw is
          (retain_from r v (entry_with_ack l s t) t (recorded_from r l s t ok fit new (genuine_ack r m q s t e fair) (old t.account)))
      puts t x (puts_ruled c e f fit is) = rw is (retain_from r v (entry_of l t.account) t (old t.account))
      puts t x (puts_late s u since e f join is) = rw is (old t.account)

  -- at every place of a run whose acks are genuine
  pub all_from : (run : Run) → throughout (λ before e. genuine o bad before e.call) run ≡ true → (s : Seat) (r : Run) → Obeys o r → Within r run
      → (a : Account) → FromSenders o bad r (entry_of (ledger_at o s r) a)
  all_from run fair s =
      run_induction o opens s (λ r v l. Within r run → (a : Account) → FromSenders o bad r (entry_of l a))
      (λ from w a i t h honestly. impossible (cc (h, ap (λ (e : Entry). ack_from e i) (opened_entry o a), no_acks_lem i)))
      (λ r e v l other old w a. more r e (entry_of l a) (old (before w) a))
      (λ r b a q v l old w c. more r (record { at = s; call = waiting_list b q a }) (entry_of l c) (old (before w) c))
      (λ r v l ok old w c.
      more r (record { at = s; call = switch }) (entry_of (switched v l) c)
      (λ i t h. old (before w) c i t (ap (λ (e : Entry). ack_from e i) (sym (switched_keeps v l c)) ∙ h)))
      (λ r v m q l next ok h old w a.
      more r (record { at = s; call = message m q }) (entry_of next a)
      (step_from r l next m q ok (throughout_at (λ p e. genuine o bad p e.call) fair w) h (old (before w)) a))
    where
      more : (r : Run) (d : Event) (e : Entry) → FromSenders o bad r e → FromSenders o bad (r ▹ d) e
      more r d e old i t h honestly = acked_by_later i t {p = r} {r = r ▹ d} (sooner at_end) (old i t h honestly)

  -- and of the acks as they are during a call: the new one recorded, and nothing cleared yet
  pub call_from : (run : Run) → throughout (λ before e. genuine o bad before e.call) run ≡ true → Obeys o run
      → (p : Run) (e : Event) (m : Message) (q : Reply) (s : Seat) (t : Transfer) → Within (p ▹ e) run → e.call ≡ message m q → m ≡ Ack s t
      → Recording (ledger_at o e.at p) s t
      → FromSenders o bad run (entry_with_ack (ledger_at o e.at p) s t)
  call_from run fair obeys p e m q s t w call kind new i u h honestly =
      let here = obeys_before o obeys (before w) in
      let ok = sound o opens e.at p here in
      let fairly : genuine o bad p (message m q) ≡ true = rw call at (throughout_at (λ p e. genuine o bad p e.call) fair w) in
      let held =
      recorded_from p (ledger_at o e.at p) s t ok new.eligible new.recordable (genuine_ack p m q s t kind fairly)
      (all_from run fair e.at p here (before w) t.account) in
      acked_by_later i u (before w) (held i u h honestly)
