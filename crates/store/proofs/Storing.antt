-- Words of an account's block, stored: what that makes of the account's entry.
use Rattle.std.specs.Prelude.{None}
use Prim.Native.Nat.{ℕ, ◌+◌, ◌<◌, ◌≤◌}
use native.Mathlib.Omega.{arith}
use mathlib.Core.Path.{◌≡◌, refl, ap, ◌∙◌}
use mathlib.Core.List.{List}
use lib.ListN.{length}
use Rattle.std.proofs.lemmas.List.{get_or_past}
use borrow.Author.Tests.{lt-ltb}
use Rattle.model.specs.declared.Seat.{Seat}
use Rattle.model.specs.declared.Account.{Account}
use Rattle.model.specs.declared.Transfer.{Transfer}
use Rattle.model.specs.Types.{AckSlot}
use Rattle.model.specs.Refusals.{ack_from}
use Rattle.model.specs.Records.{with_ack, with_pending, with_retained, no_acks, with_entry, with_balance, with_acked, with_proposed, with_booked, with_retained_proposed, with_none_retained}
use Rattle.layout.specs.Layout.{block_words, Block, block, as_read, slot_by, entry_by, ledger_in, entry_in}
use Rattle.layout.specs.Blocks.{put, Stores}
pub use Rattle.layout.proofs.Blocks.{entry_read}
use Rattle.layout.proofs.Blocks.{stored_more}
use Rattle.layout.proofs.Entries.{acks_length, entry_stored, entry_stored_at, current_in, ack_put, ack_read, pending_put, retained_put}
pub use Rattle.layout.proofs.Entries.{group_put}
use Rattle.store.specs.Stores.{cleared, numbered, AckStored, PendingStored, RetainedStored}
use Rattle.store.proofs.Reading.{numbered_slot}
pub use Rattle.store.proofs.Taking.{entry_taken, group_taken}

-- a word of a block, or a part of it, is put: what that makes of its entry
module _ (a : ℕ) (w : Block) where
  pub balance_put : (b : ℕ) → entry_by a (put w 0 b) ≡ with_balance (entry_by a w) b
  unfolding entry_by
  balance_put b = refl

  pub acked_put : entry_by a (put w 2 1) ≡ with_acked (entry_by a w)
  unfolding entry_by
  acked_put = refl

  pub proposed_put : entry_by a (put w 3 1) ≡ with_proposed (entry_by a w)
  unfolding entry_by
  proposed_put = refl

  pub late_put : entry_by a (put w 42 1) ≡ with_retained_proposed (entry_by a w)
  unfolding entry_by
  late_put = refl

  pub none_retained_put : entry_by a (cleared w 39 block_words) ≡ with_none_retained (entry_by a w)
  unfolding entry_by
  none_retained_put = refl

  -- all but the balance and what is retained is cleared, and then the number is put
  pub booked_put : (number : ℕ) → entry_by a (put (cleared w 1 39) 1 number) ≡ with_booked (entry_by a w) number
  unfolding no_acks entry_by
  booked_put number = refl

module _ (ws after : List ℕ) (a : Account) where
  abbrev was : Block
  was = block ws a.0

  pub balance_stored : (b : ℕ) → Stores ws a.0 (put (block ws a.0) 0 b) after
      → ledger_in after ≡ with_entry (ledger_in ws) a (with_balance (entry_in ws a) b)
  balance_stored b c = entry_stored ws after a _ (λ e. with_balance e b) c (balance_put a.0 was b)

  pub acked_stored : Stores ws a.0 (put (block ws a.0) 2 1) after
      → ledger_in after ≡ with_entry (ledger_in ws) a (with_acked (entry_in ws a))
  acked_stored c = entry_stored ws after a _ with_acked c (acked_put a.0 was)

  pub proposed_stored : Stores ws a.0 (put (block ws a.0) 3 1) after
      → ledger_in after ≡ with_entry (ledger_in ws) a (with_proposed (entry_in ws a))
  proposed_stored c = entry_stored ws after a _ with_proposed c (proposed_put a.0 was)

  pub late_stored : Stores ws a.0 (put (block ws a.0) 42 1) after
      → ledger_in after ≡ with_entry (ledger_in ws) a (with_retained_proposed (entry_in ws a))
  late_stored c = entry_stored ws after a _ with_retained_proposed c (late_put a.0 was)

  pub none_retained_stored : Stores ws a.0 (cleared (block ws a.0) 39 block_words) after
      → ledger_in after ≡ with_entry (ledger_in ws) a (with_none_retained (entry_in ws a))
  none_retained_stored c = entry_stored ws after a _ with_none_retained c (none_retained_put a.0 was)

  pub booked_stored : (mid : List ℕ) (number : ℕ) → Stores ws a.0 (cleared (block ws a.0) 1 39) mid → Stores mid a.0 (put (block mid a.0) 1 number) after
      → ledger_in after ≡ with_entry (ledger_in ws) a (with_booked (entry_in ws a) number)
  booked_stored mid number c d =
      entry_stored ws after a _ (λ e. with_booked e number) (stored_more (cleared was 1 39) 1 number c d) (booked_put a.0 was number)

-- a slip's words, stored one after another
module _ (ws after : List ℕ) (t : Transfer) (byte : t.recipient.0 < 256) where
  abbrev own : Block
  own = block ws t.account.0

  pub ack_stored : (s : Seat) (mid : List ℕ) → s.0 < 16
      → Stores ws t.account.0 (put own (7 + s.0) t.value) mid
      → Stores mid t.account.0 (put (block mid t.account.0) (23 + s.0) t.recipient.0) after → AckStored ws s t after
  ack_stored s mid seat c d =
      let words = stored_more (put own (7 + s.0) t.value) (23 + s.0) t.recipient.0 c d in
      record {
        words = words;
        recorded =
            λ next v.
            entry_stored_at ws after t.account _ (λ e. with_ack e s t) words
            (λ l. ack_put own s t seat v byte (next ∙ ap (λ n. n + 1) (current_in ws t.account l)));
      }

  pub pending_stored : (one two : List ℕ)
      → Stores ws t.account.0 (put own 4 t.value) one
      → Stores one t.account.0 (put (block one t.account.0) 5 t.number) two
      → Stores two t.account.0 (put (block two t.account.0) 6 t.recipient.0) after → PendingStored ws t after
  pending_stored one two c d e =
      let words =
      stored_more (put (put own 4 t.value) 5 t.number) 6 t.recipient.0 (stored_more (put own 4 t.value) 5 t.number c d) e in
      record { words = words; waits = λ v. entry_stored ws after t.account _ (λ e. with_pending e t) words (pending_put own t v byte) }

  pub retained_stored : (one two three : List ℕ) (mark : ℕ) → mark ≡ as_read t.account.0 own 3
      → Stores ws t.account.0 (put own 39 t.value) one
      → Stores one t.account.0 (put (block one t.account.0) 40 t.number) two
      → Stores two t.account.0 (put (block two t.account.0) 41 t.recipient.0) three
      → Stores three t.account.0 (put (block three t.account.0) 42 mark) after → RetainedStored ws t after
  unfolding entry_by
  retained_stored one two three mark same c d e f =
      let slip : Block = put (put (put own 39 t.value) 40 t.number) 41 t.recipient.0 in
      let stored = stored_more slip 42 mark (stored_more (put (put own 39 t.value) 40 t.number) 41 t.recipient.0 (stored_more (put own 39 t.value) 40 t.number c d) e) f in
      let words : Stores ws t.account.0 (put slip 42 (own 3)) after =
      record {
        inside = λ l. let is : mark ≡ own 3 = same ∙ rw (lt-ltb t.account.0 32 l) in rw (← is) (stored.inside l);
        behind = stored.behind;
      } in
      record { words = words; retained = λ v. entry_stored ws after t.account _ (λ e. with_retained e t) words (retained_put own t (own 3) v byte) }

-- a seat's ack, told with a number
pub ack_told : (ws : List ℕ) (a : Account) (s : Seat) (n : ℕ) → s.0 < 16
    → numbered n (ack_from (entry_in ws a) s)
    ≡ slot_by a.0 (as_read a.0 (block ws a.0) (7 + s.0)) n (as_read a.0 (block ws a.0) (23 + s.0))
ack_told ws a s n seat =
    let w : Block = as_read a.0 (block ws a.0) in
    ap (numbered n) (ack_read ws a s seat) ∙ numbered_slot a.0 (w (7 + s.0)) (w 1 + 1) n (w (23 + s.0))

-- behind the last seat's place there is none
pub no_ack_behind : (ws : List ℕ) (a : Account) (s : Seat) (n : ℕ) → 16 ≤ s.0 → numbered n (ack_from (entry_in ws a) s) ≡ None
no_ack_behind ws a s n behind =
    let past : length (entry_in ws a).acks ≤ s.0 = omega (arith, acks_length ws a, behind) in
    ap (λ (k : AckSlot). numbered n k.slot) (get_or_past (entry_in ws a).acks s.0 (record { slot = None }) past)

pub ruleset reads_and_stores = (
  entry_read,
  balance_stored,
  acked_stored,
  proposed_stored,
  late_stored,
  none_retained_stored,
  booked_stored,
  ack_told,
  no_ack_behind,
  ack_stored,
  pending_stored,
  retained_stored,
  entry_taken,
  group_taken,
  group_put,
)
