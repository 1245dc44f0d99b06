-- The k accounts have everything: behind the k-th every balance and current number
-- stays 0, with no premises on the run.
use Prim.Native.Nat.{◌≤◌}
use native.Mathlib.Omega.{arith}
use mathlib.Core.Path.{◌≡◌, refl, ap, ◌∙◌}
use lib.ListN.{take}
use Rattle.laws.specs.Types.{Seat, Account, Entry, Ledger, Opening, Message, Reply}
use Rattle.runs.specs.Runs.{Opens, Run, ledger_at, Obeys}
use Rattle.agreement.proofs.Soundness.{opened_entry, group, Sound}
use Rattle.agreement.proofs.Reachable.{sound, everywhere}
use Rattle.agreement.proofs.StepLaws.{switched_state, Turn, keeps, accepts, turn}
use Rattle.model.specs.Basics.{sum_of}
use Rattle.model.specs.Records.{account_of, fresh_entry, with_pending, sum_balances, set_entry, entry_of}
use Rattle.laws.proofs.Sums.{sum_front}
use Rattle.laws.proofs.Access.{entry_set_other}
use Rattle.laws.proofs.Settles.{Apart, settle_apart}

-- an account that has nothing, and has booked nothing
abbrev pub Unused : Entry → Type 0
Unused e = (e.balance ≡ 0) × (e.current ≡ 0)

module _ (o : Opening) where
  -- an account behind the k-th is named by no waiting slip
  apart_behind : (l : Ledger) (b : Account) → Sound o l → o.accounts ≤ b.0 → Apart b l.entries
  apart_behind l b ok above a t waits =
      let stands = (ok.each a).pending_stands t waits in
      let payer = ap (λ (c : Account). c.0) stands.0 in
      (λ same. omega (arith, stands.2), λ same. omega (arith, stands.3))

  -- so a call leaves it unused
  turn_unused : (l next : Ledger) (m : Message) (r : Reply) → Turn o l m r next
      → (b : Account) → o.accounts ≤ b.0 → Unused (entry_of l b) → Unused (entry_of next b)
  turn_unused l next m r (keeps same none_accepted not_k) b above old = ((same b).0 ∙ old.0, (same b).1 ∙ old.1)
  turn_unused l next m r (accepts t this done) b above old =
      let joined = set_entry l.entries t.account (with_pending done.entry t) in
      let other = entry_set_other l.entries t.account (with_pending done.entry t) b (λ same. omega (arith, done.fits.payer_known)) in
      rw (done.entries_are, settle_apart b joined (apart_behind _ b done.waits_soundly above), other) old

  module _ (opens : Opens o) (s : Seat) where
    -- and it is so at every place of a run
    pub behind : (r : Run) → Obeys o r → (a : Account) → o.accounts ≤ a.0 → Unused (entry_of (ledger_at o s r) a)
    behind =
        everywhere o opens s (λ v l. (a : Account) → o.accounts ≤ a.0 → Unused (entry_of l a))
        (λ v l ok old a above. let same = switched_state v l a in (same.0 ∙ (old a above).0, same.1 ∙ (old a above).1))
        (λ v l next m q ok h old a above. turn_unused l next m q (turn o l next m q (group o opens) ok h) a above (old a above))
        (λ v a above. rw (opened_entry o a) ((group o opens).rest_zero a.0 above, refl))

    -- so the balances of the k accounts add up to the opening sum
    pub accounts_sum : (r : Run) → Obeys o r → sum_balances (take o.accounts (ledger_at o s r).entries) ≡ sum_of (λ b. b) o.balances
    accounts_sum r obeys =
        sum_front (λ e. e.balance) (ledger_at o s r).entries (fresh_entry 0) o.accounts (λ i above. (behind r obeys (account_of i) above).0)
        ∙ (sound o opens s r obeys).sum_same
