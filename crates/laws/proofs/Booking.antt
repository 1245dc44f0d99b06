-- Laws of booking: what it clears, that one fewer slip waits after it, and that it keeps the sum of balances.
use Rattle.std.specs.Prelude.{Some, None}
use Prim.Native.Nat.{ℕ, suc, ◌+◌, ◌%◌, ◌≤◌, ◌<◌}
use native.Mathlib.Nat.{mod-eq_of_lt}
use native.Mathlib.Decide.{ℕ_discrete, dec_lt}
use native.Mathlib.Omega.{arith}
use mathlib.Core.Path.{◌≡◌, refl, ap}
use mathlib.Core.Logic.{◌≢◌}
use mathlib.Core.Bool.{false, cond}
use mathlib.Core.List.{List}
use lib.ListN.{length, length-set}
use lib.Dec.{eqb}
use lib.Seq.{set_out}
use borrow.Author.Tests.{eq-eqb, ne_eqb}
use Rattle.laws.specs.Types.{Account, Transfer, Entry}
use Rattle.model.specs.Basics.{bit, sum_of}
use Rattle.model.specs.Records.{no_acks, fresh_entry, with_balance, entry_at, set_entry, sum_balances, sum_currents}
use Rattle.model.specs.Settling.{is_waiting, waiting, credited, credit, debited, apply_slot, apply}
use Rattle.laws.proofs.Sums.{sum_set, sum_set_same, sum_at_least}
use Rattle.laws.proofs.Access.{entry_set_same, entry_set_other}

-- the second entry is the first with another balance
abbrev pub SameButBalance : Entry → Entry → Type 0
SameButBalance e e' = e' ≡ with_balance e e'.balance

same_but_balance : (e e' : Entry) (b : ℕ) → e' ≡ with_balance e b → SameButBalance e e'
same_but_balance e e' b same = rw same

-- crediting changes nothing but one balance
credit_keeps : (es : List Entry) (r b : Account) (v : ℕ) → SameButBalance (entry_at es b) (entry_at (credit es r v) b)
credit_keeps es r b v = go (ℕ_discrete b.0 r.0) (dec_lt r.0 (length es))
  where
    e : Entry
    e = credited (entry_at es r) v

    keeps : (x : ℕ) → entry_at (credit es r v) b ≡ with_balance (entry_at es b) x
        → SameButBalance (entry_at es b) (entry_at (credit es r v) b)
    keeps x same = same_but_balance (entry_at es b) (entry_at (credit es r v) b) x same

    go : Dec (b.0 ≡ r.0) → Dec (r.0 < length es) → SameButBalance (entry_at es b) (entry_at (credit es r v) b)
    go (no other) d = keeps (entry_at es b).balance (entry_set_other es r e b other)
    go (yes same) (yes inside) = keeps e.balance (rw same (entry_set_same es r e inside))
    go (yes same) (no outside) =
        keeps (entry_at es b).balance (ap (λ (xs : List Entry). entry_at xs b) (set_out es r.0 e (omega arith)))

-- what account b has of a value that is account a's
abbrev pub share : Account → Account → ℕ → ℕ
share b a v = cond (eqb b.0 a.0) v 0

-- the sum that is credited is the plain one, where all balances together fit with the value
credit_plain : (es : List Entry) (r : Account) (v : ℕ) → r.0 < length es → sum_balances es + v < 4_294_967_296
    → ((entry_at es r).balance + v) % 4_294_967_296 ≡ (entry_at es r).balance + v
credit_plain es r v there fits =
    let most = sum_at_least (λ e. e.balance) es r.0 (fresh_entry 0) there in
    mod-eq_of_lt (omega arith)

-- crediting raises the recipient's balance by the value, and no other
credit_balance : (es : List Entry) (r b : Account) (v : ℕ) → r.0 < length es → sum_balances es + v < 4_294_967_296
    → (entry_at (credit es r v) b).balance ≡ (entry_at es b).balance + share b r v
credit_balance es r b v there fits = go (ℕ_discrete b.0 r.0)
  where
    e : Entry
    e = credited (entry_at es r) v

    go : Dec (b.0 ≡ r.0) → (entry_at (credit es r v) b).balance ≡ (entry_at es b).balance + share b r v
    go (yes same) =
        rw (eq-eqb b.0 r.0 same, same, entry_set_same es r e there) (credit_plain es r v there fits)
    go (no other) = rw (ne_eqb b.0 r.0 other, entry_set_other es r e b other) (omega arith)

-- crediting raises the sum of balances by the value, where the sum fits
credit_sum : (es : List Entry) (r : Account) (v : ℕ) → r.0 < length es → sum_balances es + v < 4_294_967_296
    → sum_balances (credit es r v) ≡ sum_balances es + v
credit_sum es r v there fits =
    let plain = credit_plain es r v there fits in
    let more = sum_set (λ e. e.balance) es r.0 (credited (entry_at es r) v) (fresh_entry 0) there in
    omega arith

-- an entry e in which the slip t was just booked: what it retains is what the entry before it did
pub record Cleared (t : Transfer) (before e : Entry) : Type 0 where
  pub current_is : e.current ≡ t.number
  pub not_acked : e.acked ≡ false
  pub no_acks_lem : e.acks ≡ no_acks
  pub not_proposed : e.proposed ≡ false
  pub none_pending : e.pending ≡ None
  pub retained_same : e.retained ≡ before.retained
  pub late_same : e.retained_proposed ≡ before.retained_proposed

cleared : (e e' : Entry) (t : Transfer) → SameButBalance (debited e t) e' → Cleared t e e'
cleared e e' t same =
    rw same
    (record {
      current_is = refl;
      not_acked = refl;
      no_acks_lem = refl;
      not_proposed = refl;
      none_pending = refl;
      retained_same = refl;
      late_same = refl;
    })

-- and stays so where nothing but the balance changes
pub cleared_kept : (before e e' : Entry) (t : Transfer) → SameButBalance e e' → Cleared t before e → Cleared t before e'
cleared_kept before e e' t same clear =
    rw same
    (record {
      current_is = clear.current_is;
      not_acked = clear.not_acked;
      no_acks_lem = clear.no_acks_lem;
      not_proposed = clear.not_proposed;
      none_pending = clear.none_pending;
      retained_same = clear.retained_same;
      late_same = clear.late_same;
    })

-- account a has a waiting slip that its balance covers
pub record Affordable (es : List Entry) (a : Account) : Type 0 where
  pub transfer : Transfer
  pub inside : a.0 < length es
  pub waits : (entry_at es a).pending ≡ Some transfer
  pub funds : transfer.value ≤ (entry_at es a).balance

-- what booking such a slip does
module _ (es : List Entry) (a : Account) (at : Affordable es a) where
  t : Transfer
  t = at.transfer

  -- the payer's entry, and the entries with it
  paid : Entry
  paid = debited (entry_at es a) t

  taken : List Entry
  taken = set_entry es a paid

  -- booking is: debit the payer, then credit the recipient
  apply_is : apply es a ≡ credit taken t.recipient t.value
  unfolding apply taken paid t
  apply_is = ap (apply_slot es a) at.waits

  -- it sets the number and clears the account's acks and marks
  pub apply_clears : Cleared at.transfer (entry_at es a) (entry_at (apply es a) a)
  unfolding taken paid t
  apply_clears =
      rw apply_is
      (cleared (entry_at es a) _ t (rw (entry_set_same es a paid at.inside) at (credit_keeps taken t.recipient a t.value)))

  -- it changes nothing but the balance in any other account
  pub apply_others : (b : Account) → b.0 ≢ a.0 → SameButBalance (entry_at es b) (entry_at (apply es a) b)
  unfolding taken paid
  apply_others b other =
      rw apply_is (rw (entry_set_other es a paid b other) at (credit_keeps taken t.recipient b t.value))

  -- and nothing at all in one that is neither payer nor recipient
  pub apply_apart : (b : Account) → b.0 ≢ a.0 → b.0 ≢ at.transfer.recipient.0 → entry_at (apply es a) b ≡ entry_at es b
  unfolding taken paid t
  apply_apart b not_payer not_recipient =
      rw (apply_is, entry_set_other taken t.recipient (credited (entry_at taken t.recipient) t.value) b not_recipient)
      (entry_set_other es a paid b not_payer)

  pub apply_length : length (apply es a) ≡ length es
  unfolding taken
  apply_length = rw apply_is (simp length-set)

  -- the sum of a number of each entry, if no balance counts in it: only the payer's part of it changes
  pub apply_sum_of : (f : Entry → ℕ) → ((e : Entry) (b : ℕ) → f (with_balance e b) ≡ f e)
      → sum_of f (apply es a) + f (entry_at es a) ≡ sum_of f es + f (debited (entry_at es a) at.transfer)
  unfolding taken paid t
  apply_sum_of f ignores =
      let paying = sum_set f es a.0 paid (fresh_entry 0) at.inside in
      let received = entry_at taken t.recipient in
      let more = (received.balance + t.value) % 4_294_967_296 in
      let same = sum_set_same f taken t.recipient.0 (with_balance received more) (fresh_entry 0) (ignores received more) in
      rw apply_is (omega arith)

  -- one fewer slip waits
  pub apply_waiting : waiting es ≡ suc (waiting (apply es a))
  apply_waiting =
      let waited : bit (is_waiting (entry_at es a)) ≡ 1 = rw at.waits in
      omega (arith, apply_sum_of (λ e. bit (is_waiting e)) (λ e b. refl))

  -- the sum of current numbers rises by one, if the slip's number is the next
  pub apply_currents : at.transfer.number ≡ (entry_at es a).current + 1 → sum_currents (apply es a) ≡ suc (sum_currents es)
  apply_currents next = omega (arith, apply_sum_of (λ e. e.current) (λ e b. refl))

  -- the payer's debit lowers the sum by the value
  debit_sum : sum_balances taken + t.value ≡ sum_balances es
  unfolding taken paid t
  debit_sum = omega (arith, sum_set (λ e. e.balance) es a.0 paid (fresh_entry 0) at.inside, at.funds)

  still_inside : at.transfer.recipient.0 < length es → t.recipient.0 < length taken
  unfolding taken t
  still_inside there = rw length-set there

  -- the sum of balances stays, where it fits and there is such a recipient
  pub apply_sum : at.transfer.recipient.0 < length es → sum_balances es < 4_294_967_296 → sum_balances (apply es a) ≡ sum_balances es
  unfolding t
  apply_sum there fits =
      let debit = debit_sum in
      let more = credit_sum taken t.recipient t.value (still_inside there) (omega arith) in
      rw apply_is (omega arith)

  -- the payer's balance falls by the value and the recipient's rises by it, in plain numbers
  pub apply_balance : (b : Account) → at.transfer.recipient.0 < length es → sum_balances es < 4_294_967_296
      → (entry_at (apply es a) b).balance + share b a at.transfer.value
      ≡ (entry_at es b).balance + share b at.transfer.recipient at.transfer.value
  unfolding taken paid t
  apply_balance b there fits =
      let less = debit_sum in
      let more = credit_balance taken t.recipient b t.value (still_inside there) (omega arith) in
      let before = debit (ℕ_discrete b.0 a.0) in
      rw apply_is (omega arith)
    where
      debit : Dec (b.0 ≡ a.0) → (entry_at taken b).balance + share b a t.value ≡ (entry_at es b).balance
      debit (yes same) = rw (eq-eqb b.0 a.0 same, same, entry_set_same es a paid at.inside) (omega arith)
      debit (no other) = rw (ne_eqb b.0 a.0 other, entry_set_other es a paid b other) (omega arith)
