-- Laws of settling. `settle_induction` is what other proofs use in place of the definition's text.
use Prim.Native.Nat.{ℕ, zero, suc, ◌+◌, ◌<◌}
use native.Mathlib.Decide.{ℕ_discrete, dec_lt}
use native.Mathlib.Omega.{arith}
use mathlib.Core.Path.{◌≡◌, refl, ap, sym, ◌∙◌}
use mathlib.Core.Logic.{◌≢◌}
use mathlib.Core.Bool.{Bool, true, false}
use mathlib.Core.List.{List}
use Rattle.std.specs.Prelude.{Option, Some, None, option_map}
use lib.ListN.{length, get_or-eq_default}
use borrow.Author.Tests.{leb-true}
use Rattle.laws.specs.Types.{Account, Transfer, Slot, Entry}
use Rattle.model.specs.Records.{account_of, fresh_entry, entry_at, sum_balances, sum_currents}
use Rattle.model.specs.Basics.{first_where}
use Rattle.model.specs.Settling.{Settled, affordable, lowest_affordable, waiting, apply, one_more, settle_at_most, settle}
use Rattle.laws.proofs.Sums.{Found, first_found, first_none, impossible}
use Rattle.laws.proofs.Booking.{SameButBalance, Cleared, cleared_kept, Affordable, apply_waiting, apply_currents, apply_sum, apply_length, apply_clears, apply_others, apply_apart}

-- the search for the lowest affordable account finds one that is affordable, and none below it is
pub record Lowest (es : List Entry) (a : Account) : Type 0 where
  pub affords_it : Affordable es a
  pub lowest : (b : ℕ) → b < a.0 → affordable (entry_at es (account_of b)) ≡ false

pub lowest_affordable_lem : (es : List Entry) (a : Account) → lowest_affordable es ≡ Some a → Lowest es a
unfolding lowest_affordable
lowest_affordable_lem es a e = found (first_where test (length es) 0) refl e
  where
    test : ℕ → Bool
    test b = affordable (entry_at es (account_of b))

    slot : (s : Slot) → (entry_at es a).pending ≡ s → Found test (length es) 0 a.0 → Lowest es a
    slot None h f = impossible (let z : false ≡ true = rw h at f.passes in cc)
    slot (Some t) h f =
        record {
          affords_it =
              record {
                transfer = t;
                inside = omega arith;
                waits = h;
                funds = leb-true t.value (entry_at es a).balance (rw h at f.passes);
              };
          lowest = λ b below. f.lowest b (omega arith) below;
        }

    found : (o : Option ℕ) → first_where test (length es) 0 ≡ o → option_map account_of o ≡ Some a → Lowest es a
    found None w e = impossible (cc)
    found (Some n) w e = slot (entry_at es a).pending refl (first_found test (length es) 0 a.0 (rw (← number) at w))
      where
        same : account_of n ≡ a
        same = cc

        number : a.0 ≡ n
        number = sym (ap (λ (b : Account). b.0) same)

-- the search finds none: no account is affordable, also behind the last entry
pub none_affordable : (es : List Entry) → lowest_affordable es ≡ None → (a : Account) → affordable (entry_at es a) ≡ false
unfolding lowest_affordable
none_affordable es e a = found (first_where test (length es) 0) refl e
  where
    test : ℕ → Bool
    test b = affordable (entry_at es (account_of b))

    within : first_where test (length es) 0 ≡ None → Dec (a.0 < length es) → affordable (entry_at es a) ≡ false
    within w (yes inside) = first_none test (length es) 0 w a.0 (omega arith) (omega arith)
    within w (no outside) = rw (get_or-eq_default es (fresh_entry 0) {n = a.0} (omega arith))

    found : (o : Option ℕ) → first_where test (length es) 0 ≡ o → option_map account_of o ≡ None → affordable (entry_at es a) ≡ false
    found None w e = within w (dec_lt a.0 (length es))
    found (Some n) w e = impossible (cc)

-- nothing is affordable: settling ends
pub settle_none : (es : List Entry) → lowest_affordable es ≡ None → settle es ≡ record { applied = 0; entries = es }
unfolding settle settle_at_most
settle_none es e = go (waiting es)
  where
    go : (n : ℕ) → settle_at_most n es ≡ record { applied = 0; entries = es }
    go zero = refl
    go (suc n) = rw (e, settle_at_most)

-- otherwise the lowest affordable account is booked, and settling goes on with one fewer slip that waits
pub settle_some : (es : List Entry) (a : Account) → lowest_affordable es ≡ Some a → settle es ≡ one_more (settle (apply es a))
unfolding settle settle_at_most
settle_some es a e = rw (apply_waiting es a (lowest_affordable_lem es a e).affords_it, e, settle_at_most)

-- To show P of what settling makes of any entries, show it where nothing is affordable, and where the lowest affordable
-- account is booked, from what settling makes of the rest.
module _
    (P : List Entry → Settled → Type 0)
    (stop : (es : List Entry) → lowest_affordable es ≡ None → P es (record { applied = 0; entries = es }))
    (go_on : (es : List Entry) (a : Account) → Lowest es a → P (apply es a) (settle (apply es a))
    → P es (one_more (settle (apply es a))))
  where
    -- one turn of settling, given the rest of it
    one_turn : (es : List Entry)
        → ((a : Account) → waiting es ≡ suc (waiting (apply es a)) → P (apply es a) (settle (apply es a)))
        → P es (settle es)
    one_turn es rest = go (lowest_affordable es) refl
      where
        go : (o : Option Account) → lowest_affordable es ≡ o → P es (settle es)
        go None e = rw (settle_none es e) (stop es e)
        go (Some a) e =
            let at = lowest_affordable_lem es a e in
            rw (settle_some es a e) (go_on es a at (rest a (apply_waiting es a at.affords_it)))

    at_most : (n : ℕ) (es : List Entry) → waiting es ≡ n → P es (settle es)
    at_most zero es w = one_turn es (λ a fewer. absurd (omega arith))
    at_most (suc n) es w = one_turn es (λ a fewer. at_most n (apply es a) (omega arith))

    pub settle_induction : (es : List Entry) → P es (settle es)
    settle_induction es = at_most (waiting es) es refl

-- settling ends only when no waiting slip is affordable
pub settle_done : (es : List Entry) → lowest_affordable (settle es).entries ≡ None
settle_done = settle_induction (λ es s. lowest_affordable s.entries ≡ None) (λ es e. e) (λ es a at rest. rest)

-- the count that settling gives is how many slips fewer wait
pub settle_waiting : (es : List Entry) → waiting es ≡ (settle es).applied + waiting (settle es).entries
settle_waiting =
    settle_induction
    (λ es s. waiting es ≡ s.applied + waiting s.entries)
    (λ es e. omega arith)
    (λ es a at rest. omega (arith, apply_waiting es a at.affords_it))

pub settle_length : (es : List Entry) → length (settle es).entries ≡ length es
settle_length =
    settle_induction
    (λ es s. length s.entries ≡ length es)
    (λ es e. refl)
    (λ es a at rest. rest ∙ apply_length es a at.affords_it)

-- What reachable ledgers have: all balances together fit, and each waiting slip's recipient is an account.
pub record Bounded (es : List Entry) : Type 0 where
  pub sum_fits : sum_balances es < 4_294_967_296
  pub recipients : (a : Account) (t : Transfer) → (entry_at es a).pending ≡ Some t → t.recipient.0 < length es

-- a slip that waits after a booking waited before it, in another account
pub waited : (es : List Entry) (a : Account) → Affordable es a → (b : Account) (t : Transfer)
    → (entry_at (apply es a) b).pending ≡ Some t → (b.0 ≢ a.0) × ((entry_at es b).pending ≡ Some t)
waited es a at b t h = go (ℕ_discrete b.0 a.0)
  where
    go : Dec (b.0 ≡ a.0) → (b.0 ≢ a.0) × ((entry_at es b).pending ≡ Some t)
    go (yes same) = impossible (cc (rw same at h, (apply_clears es a at).none_pending))
    go (no other) = (other, ap (λ (e : Entry). e.pending) (sym (apply_others es a at b other)) ∙ h)

-- booking keeps the sum and the bounds
pub apply_bounded : (es : List Entry) (a : Account) → Affordable es a → Bounded es
    → (sum_balances (apply es a) ≡ sum_balances es) × Bounded (apply es a)
apply_bounded es a at b = (
  kept,
  record {
    sum_fits = rw kept b.sum_fits;
    recipients = λ c t h. rw (apply_length es a at) (b.recipients c t (waited es a at c t h).1);
  },
)
  where
    kept : sum_balances (apply es a) ≡ sum_balances es
    kept = apply_sum es a at (b.recipients a at.transfer at.waits) b.sum_fits

-- settling keeps the sum of balances, and the bounds
pub settle_sum : (es : List Entry) → Bounded es → (sum_balances (settle es).entries ≡ sum_balances es) × Bounded (settle es).entries
settle_sum =
    settle_induction
    (λ es s. Bounded es → (sum_balances s.entries ≡ sum_balances es) × Bounded s.entries)
    (λ es e b. (refl, b))
    (λ es a at rest b.
    let once = apply_bounded es a at.affords_it b in
    let kept = rest once.1 in
    (kept.0 ∙ once.0, kept.1))

-- What settling made of an entry: nothing but its balance changed, or the slip that waited in it was booked.
pub data Turned (e e' : Entry) : Type 0 where
  kept : SameButBalance e e' → Turned e e'
  booked : (t : Transfer) → e.pending ≡ Some t → Cleared t e e' → Turned e e'

-- and so for every account
pub settle_entry : (b : Account) (es : List Entry) → Turned (entry_at es b) (entry_at (settle es).entries b)
settle_entry b =
    settle_induction (λ es s. Turned (entry_at es b) (entry_at s.entries b)) (λ es e. kept refl)
    (λ es a at rest. go es a at rest (ℕ_discrete b.0 a.0))
  where
    go : (es : List Entry) (a : Account) → Lowest es a
        → Turned (entry_at (apply es a) b) (entry_at (settle (apply es a)).entries b)
        → Dec (b.0 ≡ a.0) → Turned (entry_at es b) (entry_at (settle (apply es a)).entries b)
    go es a at rest (yes same) =
        let clear : Cleared at.affords_it.transfer (entry_at es b) (entry_at (apply es a) b) = rw same (apply_clears es a at.affords_it) in
        after rest clear
      where
        after : Turned (entry_at (apply es a) b) (entry_at (settle (apply es a)).entries b)
            → Cleared at.affords_it.transfer (entry_at es b) (entry_at (apply es a) b)
            → Turned (entry_at es b) (entry_at (settle (apply es a)).entries b)
        after (kept more) clear = booked at.affords_it.transfer (rw same at.affords_it.waits) (cleared_kept _ _ _ _ more clear)
        after (booked t waits done) clear = impossible (cc (waits, clear.none_pending))
    go es a at rest (no other) = after rest (apply_others es a at.affords_it b other)
      where
        after : Turned (entry_at (apply es a) b) (entry_at (settle (apply es a)).entries b)
            → SameButBalance (entry_at es b) (entry_at (apply es a) b)
            → Turned (entry_at es b) (entry_at (settle (apply es a)).entries b)
        after (kept more) first = kept (rw (more, first))
        after (booked t waits done) first =
            booked t (ap (λ (e : Entry). e.pending) (sym first) ∙ waits)
            (record {
              current_is = done.current_is;
              not_acked = done.not_acked;
              no_acks_lem = done.no_acks_lem;
              not_proposed = done.not_proposed;
              none_pending = done.none_pending;
              retained_same = done.retained_same ∙ ap (λ (e : Entry). e.retained) first;
              late_same = done.late_same ∙ ap (λ (e : Entry). e.retained_proposed) first;
            })

-- what holds of each account's entry, and stays where the balance changes and where a slip is
-- booked, holds of each after settling
pub settle_each : (I : Account → Entry → Type 0)
    → ((a : Account) (e e' : Entry) → SameButBalance e e' → I a e → I a e')
    → ((a : Account) (e e' : Entry) (t : Transfer) → e.pending ≡ Some t → Cleared t e e' → I a e → I a e')
    → (es : List Entry) → ((a : Account) → I a (entry_at es a)) → (a : Account) → I a (entry_at (settle es).entries a)
settle_each I on_balance on_booked es each a = go (settle_entry a es)
  where
    go : Turned (entry_at es a) (entry_at (settle es).entries a) → I a (entry_at (settle es).entries a)
    go (kept same) = on_balance a (entry_at es a) _ same (each a)
    go (booked t waits clear) = on_booked a (entry_at es a) _ t waits clear (each a)

-- account b is neither payer nor recipient of a waiting slip
abbrev pub Apart : Account → List Entry → Type 0
Apart b es = (a : Account) (t : Transfer) → (entry_at es a).pending ≡ Some t → (b.0 ≢ a.0) × (b.0 ≢ t.recipient.0)

-- then settling leaves its entry as it is
pub settle_apart : (b : Account) (es : List Entry) → Apart b es → entry_at (settle es).entries b ≡ entry_at es b
settle_apart b =
    settle_induction (λ es s. Apart b es → entry_at s.entries b ≡ entry_at es b)
    (λ es e apart. refl)
    (λ es a at rest apart.
    let once = at.affords_it in
    let not_this = apart a once.transfer once.waits in
    rest (λ c t h. apart c t (waited es a once c t h).1) ∙ apply_apart es a once b not_this.0 not_this.1)

-- each waiting slip has its account's next number
abbrev pub NextWaits : List Entry → Type 0
NextWaits es = (a : Account) (t : Transfer) → (entry_at es a).pending ≡ Some t → t.number ≡ (entry_at es a).current + 1

pub apply_next : (es : List Entry) (a : Account) → Affordable es a → NextWaits es → NextWaits (apply es a)
apply_next es a at next b t h =
    let before = waited es a at b t h in
    next b t before.1 ∙ ap (λ (e : Entry). e.current + 1) (sym (apply_others es a at b before.0))

-- then the count that settling gives is the rise in the sum of current numbers
pub settle_currents : (es : List Entry) → NextWaits es → sum_currents (settle es).entries ≡ sum_currents es + (settle es).applied
settle_currents =
    settle_induction
    (λ es s. NextWaits es → sum_currents s.entries ≡ sum_currents es + s.applied)
    (λ es e next. omega arith)
    (λ es a at rest next.
    let one = apply_currents es a at.affords_it (next a at.affords_it.transfer at.affords_it.waits) in
    omega (arith, rest (apply_next es a at.affords_it next)))
