-- Getter and setter laws of an account's entry, of the list of entries and of the ledger.
use Rattle.std.specs.Prelude.{Some, None}
use Prim.Native.Nat.{ℕ, ◌<◌, ◌≤◌}
use native.Mathlib.Decide.{ℕ_discrete, dec_lt}
use native.Mathlib.Omega.{arith}
use mathlib.Core.Path.{◌≡◌, refl, ap}
use mathlib.Core.Logic.{◌≢◌}
use mathlib.Core.Bool.{Bool, true, false}
use mathlib.Core.List.{List}
use lib.ListN.{length, set, length-set}
use lib.Seq.{get_or-set_same, get_or-set_other, set-get_or, set-set, set_out}
use Rattle.laws.specs.Types.{Seat, Account, Transfer, Slot, AckSlot, Entry, Ledger}
use Rattle.model.specs.Records.{account_of, no_acks, fresh_entry, with_balance, with_acked, with_ack, with_proposed, with_pending, with_booked, with_retained_of, with_retained, with_retained_proposed, with_none_retained, entry_at, set_entry, with_entries, entry_of, with_entry}

-- an entry's fields, all of them: what the documents name, and what is retained
pub record Fields (e : Entry) (balance current : ℕ) (acked : Bool) (acks : List AckSlot) (proposed : Bool) (pending retained : Slot) (late : Bool) : Type 0 where
  pub balance_is : e.balance ≡ balance
  pub current_is : e.current ≡ current
  pub acked_is : e.acked ≡ acked
  pub acks_are : e.acks ≡ acks
  pub proposed_is : e.proposed ≡ proposed
  pub pending_is : e.pending ≡ pending
  pub retained_is : e.retained ≡ retained
  pub late_is : e.retained_proposed ≡ late

pub fields_of : (e : Entry) → Fields e e.balance e.current e.acked e.acks e.proposed e.pending e.retained e.retained_proposed
fields_of e =
    record {
      balance_is = refl;
      current_is = refl;
      acked_is = refl;
      acks_are = refl;
      proposed_is = refl;
      pending_is = refl;
      retained_is = refl;
      late_is = refl;
    }

-- how many acks an account just opened has places for
pub no_acks_length : length no_acks ≡ 16
unfolding no_acks
no_acks_length = refl

-- each setter sets what its name says, and nothing else
pub fresh_fields : (b : ℕ) → Fields (fresh_entry b) b 0 false no_acks false None None false
fresh_fields b = fields_of (fresh_entry b)

module _ (e : Entry) where
  pub balance_fields : (b : ℕ) → Fields (with_balance e b) b e.current e.acked e.acks e.proposed e.pending e.retained e.retained_proposed
  balance_fields b = fields_of (with_balance e b)

  pub acked_fields : Fields (with_acked e) e.balance e.current true e.acks e.proposed e.pending e.retained e.retained_proposed
  acked_fields = fields_of (with_acked e)

  pub ack_fields : (s : Seat) (t : Transfer)
      → Fields (with_ack e s t) e.balance e.current e.acked (set e.acks s.0 (record { slot = Some t })) e.proposed e.pending e.retained e.retained_proposed
  ack_fields s t = fields_of (with_ack e s t)

  pub proposed_fields : Fields (with_proposed e) e.balance e.current e.acked e.acks true e.pending e.retained e.retained_proposed
  proposed_fields = fields_of (with_proposed e)

  pub pending_fields : (t : Transfer) → Fields (with_pending e t) e.balance e.current e.acked e.acks e.proposed (Some t) e.retained e.retained_proposed
  pending_fields t = fields_of (with_pending e t)

  pub booked_fields : (m : ℕ) → Fields (with_booked e m) e.balance m false no_acks false None e.retained e.retained_proposed
  booked_fields m = fields_of (with_booked e m)

  pub retained_fields : (t : Transfer) → Fields (with_retained e t) e.balance e.current e.acked e.acks e.proposed e.pending (Some t) e.proposed
  retained_fields t = fields_of (with_retained e t)

  pub late_fields : Fields (with_retained_proposed e) e.balance e.current e.acked e.acks e.proposed e.pending e.retained true
  late_fields = fields_of (with_retained_proposed e)

  pub none_retained_fields : Fields (with_none_retained e) e.balance e.current e.acked e.acks e.proposed e.pending None false
  none_retained_fields = fields_of (with_none_retained e)

-- the second entry is the first with something else retained
abbrev pub SameButRetained : Entry → Entry → Type 0
SameButRetained e e' = e' ≡ with_retained_of e e'

module _ (es : List Entry) (a : Account) where
  -- what is stored for an account is read back
  pub entry_set_same : (e : Entry) → a.0 < length es → entry_at (set_entry es a e) a ≡ e
  entry_set_same e h = get_or-set_same es a.0 e (fresh_entry 0) h

  -- the other accounts' entries stay
  pub entry_set_other : (e : Entry) (b : Account) → b.0 ≢ a.0 → entry_at (set_entry es a e) b ≡ entry_at es b
  entry_set_other e b h = get_or-set_other es a.0 b.0 e (fresh_entry 0) h

  -- the later of two stores stands
  pub set_entry_twice : (e e' : Entry) → set_entry (set_entry es a e) a e' ≡ set_entry es a e'
  set_entry_twice e e' = set-set es a.0 e e'

  -- storing what is there changes nothing
  pub set_entry_read : set_entry es a (entry_at es a) ≡ es
  set_entry_read = set-get_or es a.0 (fresh_entry 0)

  pub set_entry_length : (e : Entry) → length (set_entry es a e) ≡ length es
  set_entry_length e = length-set es a.0 e

-- accounts with one number are one account
pub same_account_lem : (a b : Account) → a.0 ≡ b.0 → a ≡ b
same_account_lem a b same = ap account_of same

-- what holds of each account's entry, and of the one that is stored, holds of each after the store
pub set_each : (I : Account → Entry → Type 0) (es : List Entry) (a : Account) (e : Entry)
    → I a e → ((b : Account) → I b (entry_at es b)) → (b : Account) → I b (entry_at (set_entry es a e) b)
set_each I es a e new old b = go (ℕ_discrete b.0 a.0) (dec_lt a.0 (length es))
  where
    go : Dec (b.0 ≡ a.0) → Dec (a.0 < length es) → I b (entry_at (set_entry es a e) b)
    go (no other) d = rw (entry_set_other es a e b other) (old b)
    go (yes same) (yes inside) = rw (same_account_lem b a same, entry_set_same es a e inside) new
    go (yes same) (no outside) = rw (set_out es a.0 e (omega arith)) (old b)

-- a ledger with other entries is the same ledger otherwise
pub record SameGroup (l m : Ledger) : Type 0 where
  pub seats_same : l.seats ≡ m.seats
  pub faults_same : l.faults ≡ m.faults
  pub accounts_same : l.accounts ≡ m.accounts
  pub total_same : l.total ≡ m.total

module _ (l : Ledger) where
  pub with_entries_lem : (es : List Entry) → ((with_entries l es).entries ≡ es) × SameGroup (with_entries l es) l
  with_entries_lem es = (refl, record { seats_same = refl; faults_same = refl; accounts_same = refl; total_same = refl })

  pub with_entry_same : (a : Account) (e : Entry) → a.0 < length l.entries → entry_of (with_entry l a e) a ≡ e
  with_entry_same a e h = entry_set_same l.entries a e h

  -- storing an entry as it is changes nothing
  pub with_entry_read : (a : Account) → with_entry l a (entry_of l a) ≡ l
  with_entry_read a = ap (with_entries l) (set_entry_read l.entries a)

  -- a store for an account, and then one that changes what was stored, is one store
  pub with_entry_again : (a : Account) (e : Entry) (change : Entry → Entry)
      → with_entry (with_entry l a e) a (change (entry_of (with_entry l a e) a)) ≡ with_entry l a (change e)
  with_entry_again a e change = go (dec_lt a.0 (length l.entries))
    where
      go : Dec (a.0 < length l.entries) → with_entry (with_entry l a e) a (change (entry_of (with_entry l a e) a)) ≡ with_entry l a (change e)
      go (yes h) = rw (with_entry_same a e h) (ap (with_entries l) (set_entry_twice l.entries a e (change e)))
      go (no h) =
          let behind : length l.entries ≤ a.0 = omega arith in
          rw (set_out l.entries a.0 e behind, set_out l.entries a.0 (change (entry_of l a)) behind, set_out l.entries a.0 (change e) behind)
