-- Accounts of a held book, taken over one after another where the ledger lies.
use Rattle.std.specs.Prelude.{Some, None}
use Prim.Native.Nat.{ℕ, ◌+◌, ◌≤◌, ◌<◌}
use native.Mathlib.Decide.{dec_lt}
use native.Mathlib.Omega.{arith}
use mathlib.Core.Path.{◌≡◌, ap, sym, subst, ◌∙◌}
use mathlib.Core.List.{List}
use lib.ListN.{length}
use lib.Seq.{set_out}
use Rattle.model.specs.declared.Account.{Account}
use Rattle.model.specs.declared.Transfer.{Transfer}
use Rattle.model.specs.Types.{Slot, Entry}
use Rattle.model.specs.Records.{account_of, entry_of, with_none_retained, with_retained_of, with_retained, with_entries, with_entry}
use Rattle.model.specs.Switches.{since_request3, retains_from, retains_waiting, switched}
use Rattle.laws.proofs.Access.{with_entry_same, with_entry_again}
use Rattle.laws.proofs.Switching.{switched_entry, switched_length}
use Rattle.layout.specs.Layout.{ledger_in, entry_in, held_in}
use Rattle.layout.proofs.Entries.{pending_of}
use Rattle.store.specs.Stores.{RetainedStored}
use Rattle.store.proofs.Taking.{held_entries_length}
use Rattle.store.proofs.Entering.{Entered, none_entered, one_entered, all_entered}
use Rattle.switching.specs.Promises.{EntriesTaken}

-- The held entry was taken, with what the words retained; then what waits in it is retained, or nothing is.
module _
    (before mid after : List ℕ) (a : Account) (e : Entry)
    (took : ledger_in mid ≡ with_entry (ledger_in before) a (with_retained_of e (entry_in before a)))
  where
    abbrev taken : Entry
    taken = with_retained_of e (entry_in before a)

    -- what waits in it is in its place, if anything does; what is stored behind the last account is dropped
    retains : (p : Slot) → p ≡ (entry_in mid a).pending
        → with_entry (ledger_in before) a (retains_from p e) ≡ with_entry (ledger_in before) a (retains_waiting e)
    retains p found = go (dec_lt a.0 (length (ledger_in before).entries))
      where
        go : Dec (a.0 < length (ledger_in before).entries)
            → with_entry (ledger_in before) a (retains_from p e) ≡ with_entry (ledger_in before) a (retains_waiting e)
        go (yes h) =
            let here : entry_in mid a ≡ taken = rw took (with_entry_same (ledger_in before) a taken h) in
            ap
            (λ (x : Slot). with_entry (ledger_in before) a (retains_from x e))
            (found ∙ ap (λ (x : Entry). x.pending) here)
        go (no h) =
            let behind : length (ledger_in before).entries ≤ a.0 = omega arith in
            ap
            (with_entries (ledger_in before))
            (set_out (ledger_in before).entries a.0 (retains_from p e) behind ∙ sym (set_out (ledger_in before).entries a.0 (retains_waiting e) behind))

    -- a store that changes what was taken
    changed : (change : Entry → Entry) → ledger_in after ≡ with_entry (ledger_in mid) a (change (entry_in mid a))
        → ledger_in after ≡ with_entry (ledger_in before) a (change taken)
    changed change is =
        is ∙ rw took (with_entry_again (ledger_in before) a taken change)

    pub nothing_waits : None ≡ (entry_in mid a).pending
        → ledger_in after ≡ with_entry (ledger_in mid) a (with_none_retained (entry_in mid a))
        → ledger_in after ≡ with_entry (ledger_in before) a (retains_waiting e)
    nothing_waits found is = changed with_none_retained is ∙ retains None found

    pub slip_waits : (t : Transfer) → Some t ≡ (entry_in mid a).pending → RetainedStored mid t after
        → ledger_in after ≡ with_entry (ledger_in before) a (retains_waiting e)
    slip_waits t found kept =
        let own = pending_of mid a t (sym found) in
        let Stored : Account → Type 0 =
        λ b. ledger_in after ≡ with_entry (ledger_in mid) b (with_retained (entry_in mid b) t) in
        changed (λ x. with_retained x t) (subst Stored own.0 (kept.retained own.1)) ∙ retains (Some t) found

-- the entries that are wanted: as many as there are accounts
abbrev pub wanted : List ℕ → List Entry
wanted held = (switched since_request3 (held_in held)).entries

pub wanted_count : (held : List ℕ) → length (wanted held) ≡ 32
wanted_count held = switched_length since_request3 (held_in held) ∙ held_entries_length held

-- no account yet, one more, and all
pub none_taken : (held before : List ℕ) → Entered before (wanted held) before 0
none_taken held before = none_entered before (wanted held) (wanted_count held)

pub one_taken : (held before now after : List ℕ) (i : ℕ) → Entered before (wanted held) now i → i < 32
    → length after ≡ length now
    → ledger_in after
    ≡ with_entry (ledger_in now) (account_of i) (retains_waiting (entry_of (held_in held) (account_of i)))
    → Entered before (wanted held) after (i + 1)
one_taken held before now after i f h same is =
    let e = retains_waiting (entry_of (held_in held) (account_of i)) in
    one_entered before (wanted held) (wanted_count held) now i f after e h same
    (sym (switched_entry since_request3 (held_in held) (account_of i))) is

pub accounts_taken : (held before now : List ℕ) (i : ℕ) → Entered before (wanted held) now i → 32 ≤ i
    → EntriesTaken held before now
accounts_taken held before now i f h = record { taken = all_entered before (wanted held) (wanted_count held) now i f h }

pub ruleset of_accounts = (none_taken, one_taken, accounts_taken)
