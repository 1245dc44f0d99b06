-- The waiting list: its accounts are exactly those with a waiting slip, each once, lowest first, and no other list is;
-- and what a list of any accounts keeps.
use Rattle.std.specs.Prelude.{Option, Some, None, Ok, Err}
use Prim.Native.Nat.{ℕ, ◌<◌}
use native.Mathlib.Decide.{dec_lt}
use native.Mathlib.Nat.{zero-add}
use native.Mathlib.Omega.{arith}
use mathlib.Core.Path.{◌≡◌, refl, ap, sym, ◌∙◌}
use mathlib.Core.Bool.{true, false}
use mathlib.Core.List.{List}
use lib.Dec.{eqb}
use lib.ListN.{length, drop, get_or-eq_default}
use lib.Seq.{drop-append_seam}
use Rattle.laws.specs.Types.{Ledger, Refusal, ListReply}
use Rattle.model.specs.Basics.{bit, count, ExactlyThose}
use Rattle.model.specs.Records.{fresh_entry}
use Rattle.model.specs.Settling.{is_waiting, waiting}
use Rattle.model.specs.Calls.{waits_at, waiting_accounts, list_reply, list_buffer, ListsBy}
use Rattle.laws.proofs.Sums.{impossible}
use Rattle.laws.proofs.Searches.{all_number, all_exactly, only_those, all_once}

module _ (l : Ledger) where
  -- an account at which a slip waits has an entry
  pub has_entry : (a : ℕ) → waits_at l a ≡ true → a < length l.entries
  has_entry a e = go (dec_lt a (length l.entries))
    where
      go : Dec (a < length l.entries) → a < length l.entries
      go (yes below) = below
      go (no above) =
          let fresh = get_or-eq_default l.entries (fresh_entry 0) {n = a} (omega arith) in
          impossible (let z : false ≡ true = sym (ap is_waiting fresh) ∙ e in cc)

  pub waiting_exactly : ExactlyThose (waits_at l) (waiting_accounts l)
  unfolding waiting_accounts
  waiting_exactly = all_exactly (waits_at l) (length l.entries) has_entry

  pub only_waiting : (accounts : List ℕ) → ExactlyThose (waits_at l) accounts → accounts ≡ waiting_accounts l
  unfolding waiting_accounts
  only_waiting accounts those = only_those (waits_at l) (length l.entries) has_entry accounts those

  -- each account as often as a slip waits at it
  pub waiting_once : (a : ℕ) → count (eqb a) (waiting_accounts l) ≡ bit (waits_at l a)
  unfolding waiting_accounts
  waiting_once a = all_once (waits_at l) (length l.entries) has_entry a

  -- they are as many as slips wait
  pub waiting_number : length (waiting_accounts l) ≡ waiting l.entries
  unfolding waiting_accounts
  waiting_number = all_number is_waiting (fresh_entry 0) l.entries (waits_at l) 0 (λ k below. ap (waits_at l) (zero-add k))

module _ (q : Option Refusal) (accounts before : List ℕ) where
  -- "this answer is free no longer": there is one, and no other
  pub one_answer : (r : ListReply) × (after : List ℕ) × ListsBy q accounts before r after
      × ((other : ListReply) (left : List ℕ) → ListsBy q accounts before other left → (other ≡ r) × (left ≡ after))
  one_answer = (
    list_reply q accounts,
    list_buffer (list_reply q accounts) accounts before,
    record { reply = refl; buffer = refl },
    λ other left h. (h.reply, h.buffer ∙ ap (λ (x : ListReply). list_buffer x accounts before) h.reply),
  )

  module _ (after : List ℕ) where
    -- the reply is how many there are
    pub list_number : (n : ℕ) → ListsBy q accounts before (Ok n) after → n ≡ length accounts
    list_number n h = go q h.reply
      where
        go : (q : Option Refusal) → Ok n ≡ list_reply q accounts → n ≡ length accounts
        go None e = cc (e)
        go (Some r) e = impossible (cc (e))

    -- the bytes behind the list keep their content
    pub list_rest : (n : ℕ) → ListsBy q accounts before (Ok n) after → drop n after ≡ drop n before
    list_rest n h = rw (h.buffer, list_number n h) (drop-append_seam accounts (drop (length accounts) before))

    -- a refused list leaves the buffer as it was
    pub list_refused : (r : Refusal) → ListsBy q accounts before (Err r) after → after ≡ before
    list_refused r h = h.buffer
