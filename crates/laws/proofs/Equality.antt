-- Laws of equality and conflict of transfers: the computed tests say what they should.
use Prim.Native.Nat.{ℕ}
use mathlib.Core.Path.{◌≡◌, refl, ap}
use mathlib.Core.Bool.{Bool, true, false, not, ◌&&◌}
use lib.Dec.{eqb}
use borrow.Author.Tests.{eqb-true, eq-eqb}
use Rattle.std.proofs.lemmas.Bool.{and_parts}
use Rattle.laws.specs.Types.{Account, Transfer}
use Rattle.model.specs.Transfers.{same_number, equal, conflict}
use Rattle.laws.proofs.Sums.{impossible}

same_account_lem : (a b : Account) → eqb a.0 b.0 ≡ true → a ≡ b
same_account_lem a b e = let n : a.0 ≡ b.0 = eqb-true _ _ e in ap (λ (m : ℕ). let c : Account = record { 0 = m } in c) n

-- the test for account and number
pub same_number_lem : (t u : Transfer) → t.account ≡ u.account → t.number ≡ u.number → same_number t u ≡ true
same_number_lem t u account number =
    rw (eq-eqb t.account.0 u.account.0 (ap (λ (a : Account). a.0) account)) (eq-eqb t.number u.number number)

pub number_same : (t u : Transfer) → same_number t u ≡ true → (t.account ≡ u.account) × (t.number ≡ u.number)
number_same t u h =
    let parts = and_parts (eqb t.account.0 u.account.0) (eqb t.number u.number) h in
    (same_account_lem t.account u.account parts.0, eqb-true t.number u.number parts.1)

-- slips that pass the test are equal
pub equal_sound : (t u : Transfer) → equal t u ≡ true → t ≡ u
unfolding equal
equal_sound t u e =
    let four = and_parts (same_number t u && eqb t.value u.value) (eqb t.recipient.0 u.recipient.0) e in
    let three = and_parts (same_number t u) (eqb t.value u.value) four.0 in
    let two = number_same t u three.0 in
    let value = eqb-true t.value u.value three.1 in
    let recipient = same_account_lem t.recipient u.recipient four.1 in
    λ i. record { account = two.0 i; number = two.1 i; value = value i; recipient = recipient i }

-- a slip is equal to itself
pub equal_refl : (t : Transfer) → equal t t ≡ true
unfolding equal
equal_refl t =
    rw (
      eq-eqb t.account.0 t.account.0 refl,
      eq-eqb t.number t.number refl,
      eq-eqb t.value t.value refl,
      eq-eqb t.recipient.0 t.recipient.0 refl,
    )

-- slips that differ fail the test
pub equal_differ : (t u : Transfer) → (t ≡ u → ⊥) → equal t u ≡ false
equal_differ t u differ = go (equal t u) refl
  where
    go : (b : Bool) → equal t u ≡ b → equal t u ≡ false
    go true h = absurd (differ (equal_sound t u h))
    go false h = h

-- whether slips are equal does not depend on their order
pub equal_sym : (t u : Transfer) → equal t u ≡ equal u t
equal_sym t u = go (equal t u) refl
  where
    go : (b : Bool) → equal t u ≡ b → equal t u ≡ equal u t
    go true e = rw (equal_sound t u e)
    go false e = rw (e, equal_differ u t (λ same. impossible (cc (e, equal_refl t, same))))

-- slips of different accounts differ
pub equal_apart : (t u : Transfer) → (t.account.0 ≡ u.account.0 → ⊥) → equal t u ≡ false
equal_apart t u apart = equal_differ t u (λ same. apart (ap (λ (v : Transfer). v.account.0) same))

-- slips that conflict have one account and one number, and are not equal
pub record Conflict (t u : Transfer) : Type 0 where
  pub account : t.account ≡ u.account
  pub number : t.number ≡ u.number
  pub differ : t ≡ u → ⊥

pub conflict_sound : (t u : Transfer) → conflict t u ≡ true → Conflict t u
unfolding conflict
conflict_sound t u e =
    let parts = and_parts (same_number t u) (not (equal t u)) e in
    let two = and_parts (eqb t.account.0 u.account.0) (eqb t.number u.number) parts.0 in
    record {
      account = same_account_lem t.account u.account two.0;
      number = eqb-true t.number u.number two.1;
      differ = λ same. impossible (cc (parts.1, equal_refl u, same));
    }

pub conflict_complete : (t u : Transfer) → Conflict t u → conflict t u ≡ true
unfolding conflict
conflict_complete t u c =
    rw (
      eq-eqb t.account.0 u.account.0 (ap (λ (a : Account). a.0) c.account),
      eq-eqb t.number u.number c.number,
      equal_differ t u c.differ,
    )
