-- Settling a ledger's entries and letting slips leave a slate do the same.
use Rattle.std.specs.Prelude.{Option, Some, None}
use Prim.Native.Nat.{ℕ, zero, suc, ◌+◌, ◌≤◌, ◌<◌}
use native.Mathlib.Decide.{ℕ_discrete, dec_lt}
use native.Mathlib.Omega.{arith}
use mathlib.Core.Path.{◌≡◌, refl, ap, ◌∙◌}
use mathlib.Core.Bool.{Bool, true, false, cond}
use mathlib.Core.List.{List, [], ◌∷◌}
use lib.Dec.{leb}
use lib.ListN.{length}
use borrow.Author.Tests.{leb-true, leb-false, le-leb, eq-eqb, ne_eqb}
use Rattle.laws.specs.Types.{Account, Transfer, Slot, Entry}
use Rattle.runs.specs.Slates.{Slate, covered, lower, lowest, without, leave, leave_at_most, leave_all, join}
use Rattle.model.specs.Basics.{bit, count}
use Rattle.model.specs.Records.{account_of, entry_at, set_entry, with_pending}
use Rattle.model.specs.Transfers.{same_account, equal}
use Rattle.model.specs.Acks.{holds}
use Rattle.model.specs.Settling.{affordable, lowest_affordable, apply, settle}
use Rattle.laws.proofs.Sums.{impossible}
use Rattle.laws.proofs.Equality.{equal_sound, equal_refl, equal_sym, equal_apart}
use Rattle.laws.proofs.Access.{entry_set_same, entry_set_other}
use Rattle.laws.proofs.Booking.{Affordable, share, apply_clears, apply_others, apply_balance}
use Rattle.laws.proofs.Settles.{Lowest, none_affordable, settle_induction, Bounded, waited, apply_bounded, NextWaits, apply_next}

-- the slip is among these
abbrev Among : Transfer → List Transfer → Type 0
Among t ts = 1 ≤ count (equal t) ts

-- among a slip and more, and not that slip: among the others
among_others : (t u : Transfer) (us : List Transfer) → equal t u ≡ false → Among t (u ∷ us) → Among t us
among_others t u us e h = omega (arith, rw e at h)

among_first : (t : Transfer) (us : List Transfer) → Among t (t ∷ us)
among_first t us = rw (equal_refl t) (omega arith)

among_rest : (t u : Transfer) (us : List Transfer) → Among t us → Among t (u ∷ us)
among_rest t u us h = omega arith

-- without one slip, it counts one less, and every other as before
without_count : (t u : Transfer) (ts : List Transfer) → Among t ts
    → count (equal u) (without t ts) + bit (equal u t) ≡ count (equal u) ts
without_count t u [] h = absurd (omega arith)
without_count t u (v ∷ vs) h = go (equal t v) refl (without_count t u vs)
  where
    go : (b : Bool) → equal t v ≡ b → (Among t vs → count (equal u) (without t vs) + bit (equal u t) ≡ count (equal u) vs)
        → count (equal u) (without t (v ∷ vs)) + bit (equal u t) ≡ count (equal u) (v ∷ vs)
    go true e rest = rw (e, equal_sound t v e) (omega arith)
    go false e rest = rw e (omega (arith, rest (among_others t v vs e h)))

without_length : (t : Transfer) (ts : List Transfer) → Among t ts → length ts ≡ suc (length (without t ts))
without_length t [] h = absurd (omega arith)
without_length t (v ∷ vs) h = go (equal t v) refl (without_length t vs)
  where
    go : (b : Bool) → equal t v ≡ b → (Among t vs → length vs ≡ suc (length (without t vs)))
        → length (v ∷ vs) ≡ suc (length (without t (v ∷ vs)))
    go true e rest = rw e
    go false e rest = rw e (ap suc (rest (among_others t v vs e h)))

-- what holds of a slip and of the others that pass a test holds of all that do
among_all : (p : Transfer → Bool) (P : Transfer → Type 0) (v : Transfer) (vs : List Transfer)
    → (p v ≡ true → P v)
    → ((u : Transfer) → Among u vs → p u ≡ true → P u)
    → (u : Transfer) → Among u (v ∷ vs) → p u ≡ true → P u
among_all p P v vs first others u among pass = go (equal u v) refl
  where
    go : (b : Bool) → equal u v ≡ b → P u
    go true e = let same = equal_sound u v e in rw same (first (rw same at pass))
    go false e = others u (among_others u v vs e among) pass

-- What the search for the lowest slip that passes a test found: one that does, and none of a lower
-- account does; or that none does.
record LowestOf (p : Transfer → Bool) (ts : List Transfer) (t : Transfer) : Type 0 where
  among : Among t ts
  passes : p t ≡ true
  least : (u : Transfer) → Among u ts → p u ≡ true → t.account.0 ≤ u.account.0

abbrev Searched : (Transfer → Bool) → List Transfer → Option Transfer → Type 0
Searched p ts None = (u : Transfer) → Among u ts → p u ≡ true → ⊥
Searched p ts (Some t) = LowestOf p ts t

searched : (p : Transfer → Bool) (ts : List Transfer) → Searched p ts (lowest p ts)
searched p [] = λ u among pass. absurd (omega arith)
searched p (v ∷ vs) = go (p v) refl (lowest p vs) (searched p vs)
  where
    -- w's account is at most u's
    AtMost : Transfer → Transfer → Type 0
    AtMost w u = w.account.0 ≤ u.account.0

    go : (b : Bool) → p v ≡ b → (o : Option Transfer) → Searched p vs o → Searched p (v ∷ vs) (cond b (Some (lower v o)) o)
    go false h None rest = among_all p (λ u. ⊥) v vs (λ pass. impossible (cc)) rest
    go false h (Some t) rest =
        record {
          among = among_rest t v vs rest.among;
          passes = rest.passes;
          least = among_all p (AtMost t) v vs (λ pass. impossible (cc)) rest.least;
        }
    go true h None rest =
        record {
          among = among_first v vs;
          passes = h;
          least = among_all p (AtMost v) v vs (λ pass. omega arith) (λ u among pass. absurd (rest u among pass));
        }
    go true h (Some t) rest = choose (leb v.account.0 t.account.0) refl
      where
        choose : (c : Bool) → leb v.account.0 t.account.0 ≡ c → LowestOf p (v ∷ vs) (cond c v t)
        choose true e =
            let below = leb-true v.account.0 t.account.0 e in
            record {
              among = among_first v vs;
              passes = h;
              least = among_all p (AtMost v) v vs (λ pass. omega arith) (λ u among pass. omega (arith, rest.least u among pass));
            }
        choose false e =
            let above = leb-false v.account.0 t.account.0 e in
            record {
              among = among_rest t v vs rest.among;
              passes = rest.passes;
              least = among_all p (AtMost t) v vs (λ pass. omega arith) rest.least;
            }

-- none of the waiting slips is covered: the slate stays
leave_none : (s : Slate) → lowest (covered s) s.waiting ≡ None → leave_all s ≡ s
unfolding leave_all leave_at_most
leave_none s e = go (length s.waiting)
  where
    go : (n : ℕ) → leave_at_most n s ≡ s
    go zero = refl
    go (suc n) = rw (e, leave_at_most)

-- otherwise the lowest leaves, and it goes on with one fewer slip that waits
leave_some : (s : Slate) (t : Transfer) → Among t s.waiting → lowest (covered s) s.waiting ≡ Some t
    → leave_all s ≡ leave_all (leave s t)
unfolding leave_all leave_at_most
leave_some s t among e = rw (without_length t s.waiting among, e, leave_at_most)

-- The entries and the slate say the same.
pub record Matches (es : List Entry) (s : Slate) : Type 0 where
  pub balance_is : (a : Account) → (entry_at es a).balance ≡ s.balance a
  pub count_is : (a : Account) → (entry_at es a).current ≡ s.count a
  -- a slip is among the waiting ones once if it waits in its account's entry, and otherwise not
  pub waiting_is : (t : Transfer) → count (equal t) s.waiting ≡ bit (holds t (entry_at es t.account).pending)

-- every waiting slip stands in its payer's entry
abbrev pub OwnWaits : List Entry → Type 0
OwnWaits es = (a : Account) (t : Transfer) → (entry_at es a).pending ≡ Some t → t.account ≡ a

-- where no balance, current number or waiting slip changes, the slate still matches
pub quiet_matches : (es es' : List Entry) (s : Slate)
    → ((a : Account)
    → ((entry_at es' a).balance ≡ (entry_at es a).balance)
    × ((entry_at es' a).current ≡ (entry_at es a).current)
    × ((entry_at es' a).pending ≡ (entry_at es a).pending))
    → Matches es s → Matches es' s
quiet_matches es es' s same m =
    record {
      balance_is = λ a. (same a).0 ∙ m.balance_is a;
      count_is = λ a. (same a).1 ∙ m.count_is a;
      waiting_is = λ t. rw (same t.account).2 (m.waiting_is t);
    }

-- a slip is accepted: it waits in its payer's entry, and among the slate's
pub join_matches : (es : List Entry) (s : Slate) (e : Entry) (t : Transfer)
    → t.account.0 < length es
    → (entry_at es t.account).pending ≡ None
    → e.balance ≡ (entry_at es t.account).balance
    → e.current ≡ (entry_at es t.account).current
    → Matches es s → Matches (set_entry es t.account (with_pending e t)) (join s t)
join_matches es s e t inside free balance current m =
    record {
      balance_is = λ a. balances a (ℕ_discrete a.0 t.account.0);
      count_is = λ a. counts a (ℕ_discrete a.0 t.account.0);
      waiting_is = λ u. waits u (ℕ_discrete u.account.0 t.account.0);
    }
  where
    es' : List Entry
    es' = set_entry es t.account (with_pending e t)

    here : (a : Account) → a.0 ≡ t.account.0 → entry_at es' a ≡ with_pending e t
    here a same = rw same (entry_set_same es t.account (with_pending e t) inside)

    elsewhere : (a : Account) → (a.0 ≡ t.account.0 → ⊥) → entry_at es' a ≡ entry_at es a
    elsewhere a other = entry_set_other es t.account (with_pending e t) a other

    balances : (a : Account) → Dec (a.0 ≡ t.account.0) → (entry_at es' a).balance ≡ s.balance a
    balances a (yes same) = rw (here a same, balance, ← same) (m.balance_is a)
    balances a (no other) = rw (elsewhere a other) (m.balance_is a)

    counts : (a : Account) → Dec (a.0 ≡ t.account.0) → (entry_at es' a).current ≡ s.count a
    counts a (yes same) = rw (here a same, current, ← same) (m.count_is a)
    counts a (no other) = rw (elsewhere a other) (m.count_is a)

    waits : (u : Transfer) → Dec (u.account.0 ≡ t.account.0)
        → count (equal u) (t ∷ s.waiting) ≡ bit (holds u (entry_at es' u.account).pending)
    waits u (yes same) =
        let before : (entry_at es u.account).pending ≡ None = rw same free in
        rw (here u.account same, equal_sym u t) (omega (arith, rw before at (m.waiting_is u)))
    waits u (no other) = rw (elsewhere u.account other, equal_apart u t other) (omega (arith, m.waiting_is u))

-- what entries and slate that match say of the slips
module _ (es : List Entry) (s : Slate) (m : Matches es s) where
  -- a slip among the slate's waits in its payer's entry
  waits_in : (t : Transfer) → Among t s.waiting → (entry_at es t.account).pending ≡ Some t
  waits_in t among = go (entry_at es t.account).pending refl
    where
      go : (slot : Slot) → (entry_at es t.account).pending ≡ slot → (entry_at es t.account).pending ≡ Some t
      go None e = absurd (omega (arith, rw e at (m.waiting_is t)))
      go (Some u) e = held (equal u t) refl
        where
          held : (b : Bool) → equal u t ≡ b → (entry_at es t.account).pending ≡ Some t
          held true h = e ∙ ap Some (equal_sound u t h)
          held false h = absurd (omega (arith, rw (e, h) at (m.waiting_is t)))

  -- and one that waits in its payer's entry is among the slate's
  among_waiting : (t : Transfer) → (entry_at es t.account).pending ≡ Some t → Among t s.waiting
  among_waiting t h = rw (m.waiting_is t, h, equal_refl t) (omega arith)

  -- the slate covers it if and only if its payer's entry does
  covered_is : (t : Transfer) → (entry_at es t.account).pending ≡ Some t
      → affordable (entry_at es t.account) ≡ covered s t
  covered_is t h = rw (h, m.balance_is t.account)

  -- nothing is affordable: no slip leaves
  none_leaves : lowest_affordable es ≡ None → leave_all s ≡ s
  none_leaves e = leave_none s (go (lowest (covered s) s.waiting) (searched (covered s) s.waiting))
    where
      go : (o : Option Transfer) → Searched (covered s) s.waiting o → o ≡ None
      go None found = refl
      go (Some t) found =
          let waits = waits_in t found.among in
          impossible (cc (found.passes, covered_is t waits, none_affordable es e t.account))

  -- otherwise the slip of the lowest affordable account leaves: every covered slip waits at an affordable account
  lowest_leaves : (a : Account) (at : Lowest es a) → at.affords_it.transfer.account ≡ a
      → leave_all s ≡ leave_all (leave s at.affords_it.transfer)
  lowest_leaves a at own = leave_some s t among (go (lowest (covered s) s.waiting) (searched (covered s) s.waiting))
    where
      t : Transfer
      t = at.affords_it.transfer

      waits : (entry_at es t.account).pending ≡ Some t
      waits = ap (λ (b : Account). (entry_at es b).pending) own ∙ at.affords_it.waits

      among : Among t s.waiting
      among = among_waiting t waits

      passes : covered s t ≡ true
      passes =
          le-leb t.value (s.balance t.account)
          (omega (arith, at.affords_it.funds, m.balance_is t.account, ap (λ (b : Account). (entry_at es b).balance) own))

      -- the one found is neither below it nor above it, so it stands in the same entry
      same : (u : Transfer) → LowestOf (covered s) s.waiting u → Dec (u.account.0 < a.0) → u ≡ t
      same u found (yes below) =
          let stands = waits_in u found.among in
          impossible (cc (at.lowest u.account.0 below, covered_is u stands, found.passes))
      same u found (no above) =
          let at_most = found.least t among passes in
          let payer = ap (λ (b : Account). b.0) own in
          let number : u.account.0 ≡ t.account.0 = omega arith in
          let one_entry = ap (λ (n : ℕ). entry_at es (account_of n)) number in
          let stands = waits_in u found.among in
          cc

      go : (o : Option Transfer) → Searched (covered s) s.waiting o → o ≡ Some t
      go None found = absurd (found t among passes)
      go (Some u) found = ap Some (same u found (dec_lt u.account.0 a.0))

-- one booking and one slip that leaves
module _ (es : List Entry) (s : Slate) (a : Account) (at : Affordable es a) where
  -- the payer has what the slip takes
  enough : (b : Account) → share b a at.transfer.value ≤ (entry_at es b).balance
  enough b = go (ℕ_discrete b.0 a.0)
    where
      go : Dec (b.0 ≡ a.0) → share b a at.transfer.value ≤ (entry_at es b).balance
      go (yes same) = rw (eq-eqb b.0 a.0 same, same) at.funds
      go (no other) = rw (ne_eqb b.0 a.0 other) (omega arith)

  apply_matches : Bounded es → NextWaits es → OwnWaits es → Matches es s → Matches (apply es a) (leave s at.transfer)
  apply_matches fits next own m =
      record {
        balance_is = balances;
        count_is = λ b. counts b (ℕ_discrete b.0 a.0);
        waiting_is = λ u. waits u (ℕ_discrete u.account.0 a.0);
      }
    where
      t : Transfer
      t = at.transfer

      payer : t.account ≡ a
      payer = own a t at.waits

      among : Among t s.waiting
      among = among_waiting es s m t (ap (λ (b : Account). (entry_at es b).pending) payer ∙ at.waits)

      balances : (b : Account) → (entry_at (apply es a) b).balance ≡ (leave s t).balance b
      balances b =
          omega (
            arith,
            enough b,
            ap (λ (c : Account). share b c t.value) payer,
            apply_balance es a at b (fits.recipients a t at.waits) fits.sum_fits,
            m.balance_is b,
          )

      counted : (b : Account) → (leave s t).count b ≡ s.count b + bit (same_account b a)
      counted b = ap (λ (c : Account). s.count b + bit (same_account b c)) payer

      counts : (b : Account) → Dec (b.0 ≡ a.0) → (entry_at (apply es a) b).current ≡ (leave s t).count b
      counts b (yes same) =
          let booked : (entry_at (apply es a) b).current ≡ t.number = rw same (apply_clears es a at).current_is in
          let number : t.number ≡ (entry_at es b).current + 1 = rw same (next a t at.waits) in
          omega (arith, rw (eq-eqb b.0 a.0 same) at (counted b), m.count_is b)
      counts b (no other) =
          let kept = ap (λ (e : Entry). e.current) (apply_others es a at b other) in
          omega (arith, rw (ne_eqb b.0 a.0 other) at (counted b), m.count_is b)

      waits : (u : Transfer) → Dec (u.account.0 ≡ a.0)
          → count (equal u) (without t s.waiting) ≡ bit (holds u (entry_at (apply es a) u.account).pending)
      waits u (yes same) =
          let after : (entry_at (apply es a) u.account).pending ≡ None = rw same (apply_clears es a at).none_pending in
          let before : (entry_at es u.account).pending ≡ Some t = rw same at.waits in
          rw after (omega (arith, without_count t u s.waiting among, rw (before, equal_sym t u) at (m.waiting_is u)))
      waits u (no other) =
          let kept = ap (λ (e : Entry). e.pending) (apply_others es a at u.account other) in
          let apart = equal_apart u t (λ same. other (same ∙ ap (λ (b : Account). b.0) payer)) in
          rw kept (omega (arith, rw apart at (without_count t u s.waiting among), m.waiting_is u))

-- booking keeps slips in their payers' entries
apply_own : (es : List Entry) (a : Account) → Affordable es a → OwnWaits es → OwnWaits (apply es a)
apply_own es a at own b t h = own b t (waited es a at b t h).1

-- settling the entries and letting the slips leave the slate do the same
pub settle_matches : (es : List Entry) (s : Slate) → Bounded es → NextWaits es → OwnWaits es → Matches es s
    → Matches (settle es).entries (leave_all s)
settle_matches es s =
    settle_induction
    (λ es st. (s : Slate) → Bounded es → NextWaits es → OwnWaits es → Matches es s → Matches st.entries (leave_all s))
    (λ es e s fits next own m. rw (none_leaves es s m e) m)
    (λ es a at rest s fits next own m.
    let once = at.affords_it in
    rw (lowest_leaves es s m a at (own a once.transfer once.waits))
    (rest (leave s once.transfer) (apply_bounded es a once fits).1 (apply_next es a once next) (apply_own es a once own)
    (apply_matches es s a once fits next own m)))
    es s
