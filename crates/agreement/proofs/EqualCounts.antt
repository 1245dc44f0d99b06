-- The third point of demand 3: counts determine balances. What an account has, and has paid for its numbers up to its
-- count, is what it opened with and what the numbers of all accounts up to their counts brought it; and by agreement
-- one slip answers to each number.
use Rattle.std.specs.Prelude.{Option, Some, None}
use Prim.Native.Nat.{ℕ, zero, suc, ◌+◌, ◌<◌}
use native.Mathlib.Decide.{ℕ_discrete, dec_lt}
use native.Mathlib.Omega.{arith}
use mathlib.Core.Path.{◌≡◌, refl, ap, sym, ◌∙◌}
use mathlib.Core.Logic.{◌≢◌, ◌⊎◌, inl, inr}
use mathlib.Core.Bool.{Bool, true, false, cond, ◌&&◌}
use mathlib.Core.List.{List}
use lib.Dec.{eqb}
use lib.ListN.{length, get_or}
use borrow.Author.Tests.{eq-eqb, ne_eqb}
use Rattle.laws.specs.Types.{Seat, Account, Transfer, Entry, Ledger, Opening, Message, Reply}
use Rattle.runs.specs.Runs.{Opens, message, Event, Run, start, ◌▹◌, Within, at_end, ledger_at, Obeys, accepted}
use Rattle.agreement.proofs.Places.{before, within_trans, nothing_yet, last_or_sooner, obeys_before}
use Rattle.agreement.proofs.Soundness.{opened_entry, next_waits, group, Sound, bounded}
use Rattle.agreement.proofs.Reachable.{run_induction}
use Rattle.agreement.proofs.Accounts.{behind}
use Rattle.agreement.proofs.StepLaws.{SameState, switched_state, Turn, keeps, accepts, turn}
use Rattle.model.specs.Transfers.{same_account}
use Rattle.model.specs.Switches.{switched}
use Rattle.model.specs.Records.{account_of, fresh_ledger, with_pending, entry_at, set_entry, with_entry, entry_of}
use Rattle.model.specs.Settling.{apply, settle}
use Rattle.laws.proofs.Equality.{same_number_lem, number_same}
use Rattle.laws.proofs.Sums.{impossible}
use Rattle.laws.proofs.Access.{set_each, same_account_lem}
use Rattle.laws.proofs.Booking.{Affordable, share, apply_clears, apply_others, apply_balance, apply_length}
use Rattle.laws.proofs.Settles.{Bounded, NextWaits, settle_induction, waited, apply_bounded, apply_next}

-- the sum of f over the numbers below n, and over the numbers from 1 to n
abbrev below : (ℕ → ℕ) → ℕ → ℕ
below f zero = 0
below f (suc n) = f n + below f n

abbrev up_to : (ℕ → ℕ) → ℕ → ℕ
up_to f zero = 0
up_to f (suc n) = f (suc n) + up_to f n

below_same : (f g : ℕ → ℕ) (n : ℕ) → ((i : ℕ) → i < n → g i ≡ f i) → below g n ≡ below f n
below_same f g zero h = refl
below_same f g (suc n) h = omega (arith, h n (omega arith), below_same f g n (λ i lower. h i (omega arith)))

-- one number of the sum changes
below_change : (f g : ℕ → ℕ) (n a : ℕ) → a < n → ((i : ℕ) → i ≢ a → g i ≡ f i) → below g n + f a ≡ below f n + g a
below_change f g zero a lower h = absurd (omega arith)
below_change f g (suc n) a lower h = go (ℕ_discrete n a) (below_change f g n a)
  where
    go : Dec (n ≡ a) → (a < n → ((i : ℕ) → i ≢ a → g i ≡ f i) → below g n + f a ≡ below f n + g a)
        → below g (suc n) + f a ≡ below f (suc n) + g a
    go (yes same) rest =
        let others = below_same f g n (λ i lower. h i (λ is. absurd (omega arith))) in
        rw (← same) (omega arith)
    go (no other) rest = omega (arith, h n other, rest (omega arith) h)

-- what a slip takes, and what it brings to account b; nothing where there is none
abbrev value_of : Option Transfer → ℕ
value_of None = 0
value_of (Some t) = t.value

abbrev brought : Account → Option Transfer → ℕ
brought b None = 0
brought b (Some t) = share b t.recipient t.value

-- Given the slip of each account and number.
module _ (slip_of : Account → ℕ → Option Transfer) (o : Opening) where
  -- what account b paid for its first c numbers
  paid : Account → ℕ → ℕ
  paid b c = up_to (λ m. value_of (slip_of b m)) c

  -- what the first c numbers of account a brought to account b
  brought_by : Account → Account → ℕ → ℕ
  brought_by b a c = up_to (λ m. brought b (slip_of a m)) c

  -- .. and of all accounts, each up to its count
  received : Account → (Account → ℕ) → ℕ
  received b counts = below (λ i. brought_by b (account_of i) (counts (account_of i))) (length o.balances)

  -- The entries' waiting slips are the slips of their numbers, and the entries balance.
  record Balanced (es : List Entry) : Type 0 where
    waits_are : (a : Account) (t : Transfer) → (entry_at es a).pending ≡ Some t → slip_of a t.number ≡ Some t
    equation : (b : Account)
        → (entry_at es b).balance + paid b (entry_at es b).current
        ≡ get_or o.balances b.0 0 + received b (λ a. (entry_at es a).current)

  -- one slip is booked
  module _ (es : List Entry) (a : Account) (at : Affordable es a)
      (fits : Bounded es) (next : NextWaits es) (size : length es ≡ length o.balances) (bal : Balanced es)
    where
      abbrev t : Transfer
      t = at.transfer

      number : suc (entry_at es a).current ≡ t.number
      number = omega (arith, next a t at.waits)

      this : slip_of a (suc (entry_at es a).current) ≡ Some t
      this = ap (slip_of a) number ∙ bal.waits_are a t at.waits

      current_here : (entry_at (apply es a) a).current ≡ suc (entry_at es a).current
      current_here = omega (arith, (apply_clears es a at).current_is, next a t at.waits)

      current_there : (b : Account) → b.0 ≢ a.0 → (entry_at (apply es a) b).current ≡ (entry_at es b).current
      current_there b other = ap (λ (e : Entry). e.current) (apply_others es a at b other)

      paid_more : (b : Account) → paid b (entry_at (apply es a) b).current ≡ paid b (entry_at es b).current + share b a t.value
      unfolding paid
      paid_more b = go (ℕ_discrete b.0 a.0)
        where
          go : Dec (b.0 ≡ a.0) → paid b (entry_at (apply es a) b).current ≡ paid b (entry_at es b).current + share b a t.value
          go (yes same) =
              rw (eq-eqb b.0 a.0 same, same_account_lem b a same, current_here, this) (omega arith)
          go (no other) = rw (ne_eqb b.0 a.0 other, current_there b other) (omega arith)

      received_more : (b : Account)
          → received b (λ c. (entry_at (apply es a) c).current) ≡ received b (λ c. (entry_at es c).current) + share b t.recipient t.value
      unfolding received brought_by
      received_more b =
          let f : ℕ → ℕ = λ i. brought_by b (account_of i) (entry_at es (account_of i)).current in
          let g : ℕ → ℕ = λ i. brought_by b (account_of i) (entry_at (apply es a) (account_of i)).current in
          let change = below_change f g (length o.balances) a.0 (omega (arith, at.inside)) (λ i other. ap (brought_by b (account_of i)) (current_there (account_of i) other)) in
          let more : g a.0 ≡ f a.0 + share b t.recipient t.value = rw (current_here, this) (omega arith) in
          omega arith

      apply_balanced : Balanced (apply es a)
      apply_balanced =
          record {
            waits_are = λ c u h. bal.waits_are c u (waited es a at c u h).1;
            equation = λ b.
                let moved = apply_balance es a at b (fits.recipients a at.transfer at.waits) fits.sum_fits in
                omega (arith, bal.equation b, paid_more b, received_more b);
          }

  -- settling keeps the entries balanced
  settle_balanced : (es : List Entry) → Bounded es → NextWaits es → length es ≡ length o.balances → Balanced es → Balanced (settle es).entries
  settle_balanced =
      settle_induction (λ es s. Bounded es → NextWaits es → length es ≡ length o.balances → Balanced es → Balanced s.entries)
      (λ es e fits next size bal. bal)
      (λ es a at rest fits next size bal.
      let once = at.affords_it in
      rest (apply_bounded es a once fits).1 (apply_next es a once next) (apply_length es a once ∙ size)
      (apply_balanced es a once fits next size bal))

  -- entries with the same balances and current numbers, whose waiting slips are the slips of their numbers
  restated : (es es' : List Entry)
      → ((a : Account) → ((entry_at es' a).balance ≡ (entry_at es a).balance) × ((entry_at es' a).current ≡ (entry_at es a).current))
      → ((a : Account) (t : Transfer) → (entry_at es' a).pending ≡ Some t → slip_of a t.number ≡ Some t)
      → Balanced es → Balanced es'
  unfolding received
  restated es es' same waits bal =
      record {
        waits_are = waits;
        equation = λ b.
            let numbers =
            below_same (λ i. brought_by b (account_of i) (entry_at es (account_of i)).current) (λ i. brought_by b (account_of i) (entry_at es' (account_of i)).current) (length o.balances)
            (λ i lower. ap (brought_by b (account_of i)) (same (account_of i)).1) in
            omega (arith, bal.equation b, (same b).0, ap (paid b) (same b).1);
      }

  -- a just opened ledger is balanced
  opened_balanced : Balanced (fresh_ledger o).entries
  unfolding paid received brought_by
  opened_balanced =
      record {
        waits_are = λ a t h. impossible (cc (h, ap (λ (e : Entry). e.pending) (opened_entry o a)));
        equation = λ b.
            let nothing = below_same (λ i. 0) (λ i. brought_by b (account_of i) (entry_of (fresh_ledger o) (account_of i)).current) (length o.balances)
            (λ i lower. rw (opened_entry o (account_of i)) refl) in
            rw (opened_entry o b) (omega (arith, all_zero (length o.balances)));
      }
    where
      all_zero : (n : ℕ) → below (λ i. 0) n ≡ 0
      all_zero zero = refl
      all_zero (suc n) = omega (arith, all_zero n)

  -- entries of the same state are balanced too
  same_balanced : (es es' : List Entry) → ((a : Account) → SameState (entry_at es a) (entry_at es' a)) → Balanced es → Balanced es'
  same_balanced es es' same bal = restated es es' (λ a. ((same a).0, (same a).1)) (λ a t h. bal.waits_are a t (sym (same a).2 ∙ h)) bal

  -- a call keeps the entries balanced, if an accepted slip is the slip of its number
  turn_balanced : (l next : Ledger) (m : Message) (r : Reply) → Opens o → Sound o l → Turn o l m r next
      → ((t : Transfer) → accepted (message m r) ≡ Some t → slip_of t.account t.number ≡ Some t)
      → Balanced l.entries → Balanced next.entries
  turn_balanced l next m r opens ok (keeps same none_accepted not_k) slips bal = same_balanced l.entries next.entries same bal
  turn_balanced l next m r opens ok (accepts t this done) slips bal =
      let g = group o opens in
      let joined = set_entry l.entries t.account (with_pending done.entry t) in
      let waits = done.waits_soundly in
      let states =
      set_each (λ a x. (x.balance ≡ (entry_of l a).balance) × (x.current ≡ (entry_of l a).current)) l.entries t.account
      (with_pending done.entry t) (done.same_balance, done.same_current) (λ a. (refl, refl)) in
      let pending =
      set_each (λ a x. (u : Transfer) → x.pending ≡ Some u → slip_of a u.number ≡ Some u) l.entries t.account
      (with_pending done.entry t) (λ u h. let same : t ≡ u = cc in rw (← same) (slips t this)) bal.waits_are in
      rw done.entries_are
      (settle_balanced joined (bounded o (with_entry l t.account (with_pending done.entry t)) g waits)
      (next_waits o (with_entry l t.account (with_pending done.entry t)) waits)
      (waits.size ∙ sym opens.full_page)
      (restated l.entries joined states pending bal))

  -- so at every place of a run in which each accepted slip is the slip of its number
  all_balanced : Opens o → (run : Run)
      → ((p : Run) (e : Event) (t : Transfer) → Within (p ▹ e) run → accepted e.call ≡ Some t → slip_of t.account t.number ≡ Some t)
      → (s : Seat) (r : Run) → Obeys o r → Within r run → Balanced (ledger_at o s r).entries
  all_balanced opens run slips s =
      run_induction o opens s (λ r v l. Within r run → Balanced l.entries) (λ from w. opened_balanced)
      (λ r e v l other bal w. bal (before w))
      (λ r b a q v l bal w. bal (before w))
      (λ r v l ok bal w. same_balanced l.entries (switched v l).entries (switched_state v l) (bal (before w)))
      (λ r v m q l next ok h bal w.
      turn_balanced l next m q opens ok (turn o l next m q (group o opens) ok h)
      (λ t this. slips r _ t w this) (bal (before w)))

-- The slip that a run accepted for an account and number, by whichever seat.
is_of : Account → ℕ → Transfer → Bool
is_of a m t = same_account t.account a && eqb t.number m

first_of : Account → ℕ → Option Transfer → Option Transfer → Option Transfer
first_of a m None other = other
first_of a m (Some t) other = cond (is_of a m t) (Some t) other

accepted_for : Run → Account → ℕ → Option Transfer
accepted_for (start from) a m = None
accepted_for (r ▹ e) a m = first_of a m (accepted e.call) (accepted_for r a m)

-- where accepted slips of one account and number are equal, it is each of them
found_slip : (run : Run)
    → ((p q : Run) (e d : Event) (t u : Transfer)
    → Within (p ▹ e) run → accepted e.call ≡ Some t
    → Within (q ▹ d) run → accepted d.call ≡ Some u
    → t.account ≡ u.account → t.number ≡ u.number → t ≡ u)
    → (r : Run) → Within r run → (p : Run) (e : Event) (t : Transfer) → Within (p ▹ e) r → accepted e.call ≡ Some t
    → accepted_for r t.account t.number ≡ Some t
unfolding accepted_for first_of is_of
found_slip run agree (start from) w p e t v is = nothing_yet v
found_slip run agree (r ▹ d) w p e t v is =
    go (accepted d.call) refl (last_or_sooner v) (found_slip run agree r (before w) p e t)
  where
    go : (x : Option Transfer) → accepted d.call ≡ x
        → ((p ≡ r) × (e ≡ d)) ⊎ Within (p ▹ e) r
        → (Within (p ▹ e) r → accepted e.call ≡ Some t → accepted_for r t.account t.number ≡ Some t)
        → first_of t.account t.number x (accepted_for r t.account t.number) ≡ Some t
    go None isd (inl last) rest = impossible (cc (is, isd, last.1))
    go None isd (inr yet) rest = rest yet is
    go (Some u) isd place rest = pick (is_of t.account t.number u) refl place
      where
        pick : (b : Bool) → is_of t.account t.number u ≡ b → ((p ≡ r) × (e ≡ d)) ⊎ Within (p ▹ e) r
            → cond b (Some u) (accepted_for r t.account t.number) ≡ Some t
        pick true same place =
            let alike = number_same u t same in
            ap Some (agree r p d e u t w isd (within_trans v w) is alike.0 alike.1)
        pick false other (inl last) =
            let both : Some u ≡ Some t = sym isd ∙ (ap (λ (x : Event). accepted x.call) (sym last.1) ∙ is) in
            let same : u ≡ t = cc in
            impossible (cc (other, same_number_lem t t refl refl, same))
        pick false other (inr yet) = rest yet is

-- equal counts, equal balances
pub counts_balances : (o : Opening) (run : Run) → Opens o → Obeys o run
    → ((p q : Run) (e d : Event) (t u : Transfer)
    → Within (p ▹ e) run → accepted e.call ≡ Some t
    → Within (q ▹ d) run → accepted d.call ≡ Some u
    → t.account ≡ u.account → t.number ≡ u.number → t ≡ u)
    → (p q : Run) (s z : Seat) → Within p run → Within q run
    → ((a : Account) → a.0 < o.accounts → (entry_of (ledger_at o s p) a).current ≡ (entry_of (ledger_at o z q) a).current)
    → (a : Account) → (entry_of (ledger_at o s p) a).balance ≡ (entry_of (ledger_at o z q) a).balance
unfolding received
counts_balances o run opens obeys agree p q s z w v equal b =
    let slips = accepted_for run in
    let known : (r : Run) (e : Event) (t : Transfer) → Within (r ▹ e) run → accepted e.call ≡ Some t → accepted_for run t.account t.number ≡ Some t =
    λ r e t. found_slip run agree run at_end r e t in
    let one = all_balanced slips o opens run known s p (obeys_before o obeys w) w in
    let two = all_balanced slips o opens run known z q (obeys_before o obeys v) v in
    let numbers =
    below_same (λ i. brought_by slips o b (account_of i) (entry_of (ledger_at o z q) (account_of i)).current)
    (λ i. brought_by slips o b (account_of i) (entry_of (ledger_at o s p) (account_of i)).current) (length o.balances)
    (λ i lower. ap (brought_by slips o b (account_of i)) (same (account_of i))) in
    omega (arith, one.equation b, two.equation b, ap (paid slips o b) (same b))
  where
    same : (a : Account) → (entry_of (ledger_at o s p) a).current ≡ (entry_of (ledger_at o z q) a).current
    same a = go (dec_lt a.0 o.accounts)
      where
        go : Dec (a.0 < o.accounts) → (entry_of (ledger_at o s p) a).current ≡ (entry_of (ledger_at o z q) a).current
        go (yes known) = equal a known
        go (no above) =
            (behind o opens s p (obeys_before o obeys w) a (omega arith)).1
            ∙ sym (behind o opens z q (obeys_before o obeys v) a (omega arith)).1
