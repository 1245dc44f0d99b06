-- What is stored in an account's block, and what that makes of the account's entry; and the group's words.
use Rattle.std.specs.Prelude.{Some, None}
use Prim.Native.Nat.{ℕ, ◌+◌, ◌*◌, ◌%◌, ◌≤◌, ◌<◌}
use native.Mathlib.Nat.{zero-add, mod-eq_of_lt}
use native.Mathlib.Decide.{dec_lt}
use native.Mathlib.Omega.{arith}
use mathlib.Core.Path.{◌≡◌, refl, ap, sym, ◌∙◌, fun_ext}
use mathlib.Core.Logic.{◌≢◌}
use mathlib.Core.Bool.{Bool, true, false, cond}
use mathlib.Core.List.{List}
use lib.Dec.{eqb}
use lib.ListN.{length, get_or, set, length-set}
use lib.Seq.{get_or-set_same, get_or-set_other}
use Rattle.std.proofs.lemmas.List.{set_past}
use borrow.Author.Tests.{lt-ltb, le-ltb, ne_eqb, eqb-false}
use Rattle.model.specs.declared.Seat.{Seat}
use Rattle.model.specs.declared.Account.{Account}
use Rattle.model.specs.declared.Transfer.{Transfer}
use Rattle.model.specs.Types.{AckSlot, Entry}
use Rattle.model.specs.Records.{account_of, entry_of, with_entry, with_entries, with_ack, with_pending, with_retained_as}
use Rattle.model.specs.Refusals.{ack_from}
use Rattle.laws.proofs.Sums.{impossible}
use Rattle.layout.specs.Layout.{block_words, group_place, book_words, Block, block, current_place, as_read, mark, slot_by, ack_in, table_from, up_to, entry_by, entries_in, ledger_in}
use Rattle.layout.specs.Blocks.{put, Changes, Stores}
use Rattle.layout.proofs.Blocks.{table_at, table_each, table_length, table_same, table_set, put_here, put_else, entry_in_lem, entry_read, entries_length, changed_ledger}

-- an account's block was changed so that its entry is changed in a way: so is the entry in the ledger
pub entry_changed : (ws after : List ℕ) (a : Account) (w : Block) (change : Entry → Entry) → a.0 < 32 → Changes ws a.0 w after
    → entry_by a.0 w ≡ change (entry_by a.0 (block ws a.0)) → ledger_in after ≡ with_entry (ledger_in ws) a (change (entry_of (ledger_in ws) a))
entry_changed ws after a w change h c e =
    changed_ledger ws a w after c ∙ ap (with_entry (ledger_in ws) a) (e ∙ ap change (sym (entry_in_lem ws a h)))

-- the same of any account
pub entry_stored_at : (ws after : List ℕ) (a : Account) (w : Block) (change : Entry → Entry) → Stores ws a.0 w after
    → (a.0 < 32 → entry_by a.0 w ≡ change (entry_by a.0 (block ws a.0))) → ledger_in after ≡ with_entry (ledger_in ws) a (change (entry_of (ledger_in ws) a))
entry_stored_at ws after a w change c e = go (dec_lt a.0 32)
  where
    go : Dec (a.0 < 32) → ledger_in after ≡ with_entry (ledger_in ws) a (change (entry_of (ledger_in ws) a))
    go (yes l) = entry_changed ws after a w change l (c.inside l) (e l)
    go (no l) =
        rw (c.behind (omega arith))
        (ap (with_entries (ledger_in ws)) (sym (set_past (ledger_in ws).entries a.0 (change (entry_of (ledger_in ws) a)) (omega (arith, entries_length ws)))))

pub entry_stored : (ws after : List ℕ) (a : Account) (w : Block) (change : Entry → Entry) → Stores ws a.0 w after
    → entry_by a.0 w ≡ change (entry_by a.0 (block ws a.0)) → ledger_in after ≡ with_entry (ledger_in ws) a (change (entry_of (ledger_in ws) a))
entry_stored ws after a w change c e = entry_stored_at ws after a w change c (λ l. e)

-- the current number is a word of the block
pub current_in : (ws : List ℕ) (a : Account) → a.0 < 32 → (entry_of (ledger_in ws) a).current ≡ block ws a.0 current_place
unfolding entry_by
current_in ws a h = ap (λ e. e.current) (entry_in_lem ws a h)

-- the words of a slip are a place with that slip
pub slip_by : (t : Transfer) → 0 < t.value → t.recipient.0 < 256 → slot_by t.account.0 t.value t.number t.recipient.0 ≡ Some t
slip_by t v r = rw (ne_eqb t.value 0 (λ e. absurd (omega arith)), mod-eq_of_lt r)

-- the slip that waits
pub pending_put : (w : Block) (t : Transfer) → 0 < t.value → t.recipient.0 < 256
    → entry_by t.account.0 (put (put (put w 4 t.value) 5 t.number) 6 t.recipient.0) ≡ with_pending (entry_by t.account.0 w) t
unfolding entry_by
pending_put w t v r = rw (slip_by t v r)

-- the retained slip, with a mark
pub retained_put : (w : Block) (t : Transfer) (word : ℕ) → 0 < t.value → t.recipient.0 < 256
    → entry_by t.account.0 (put (put (put (put w 39 t.value) 40 t.number) 41 t.recipient.0) 42 word)
    ≡ with_retained_as (entry_by t.account.0 w) (Some t) (mark word)
unfolding entry_by
retained_put w t word v r = rw (slip_by t v r)

-- a seat's ack
ack_in_lem : (a : ℕ) (w : Block) (s : Seat) → s.0 < 16 → ack_from (entry_by a w) s ≡ (ack_in a w s.0).slot
unfolding entry_by
ack_in_lem a w s h = ap (λ k. k.slot) (table_at (ack_in a w) 16 0 s.0 (record { slot = None }) h ∙ ap (ack_in a w) (omega arith))

pub ack_read : (ws : List ℕ) (a : Account) (s : Seat) → s.0 < 16
    → ack_from (entry_of (ledger_in ws) a) s ≡ (ack_in a.0 (as_read a.0 (block ws a.0)) s.0).slot
ack_read ws a s seat = ap (λ e. ack_from e s) (entry_read ws a) ∙ ack_in_lem a.0 (as_read a.0 (block ws a.0)) s seat

-- each of the 16 seats has a place, and an ack in it is of the account and its next number
pub acks_length : (ws : List ℕ) (a : Account) → length (entry_of (ledger_in ws) a).acks ≡ 16
unfolding entry_by
acks_length ws a = ap (λ e. length e.acks) (entry_read ws a) ∙ table_length (ack_in a.0 (as_read a.0 (block ws a.0))) 16 0

-- a slip that stands in a place is of the block's account, has the place's number and a value, and
-- its recipient's number is a byte
pub slot_of_next : (a value number recipient : ℕ) (u : Transfer) → slot_by a value number recipient ≡ Some u
    → (u.account ≡ account_of a) × (u.number ≡ number) × (0 < u.value) × (u.recipient.0 < 256)
slot_of_next a value number recipient u = go (eqb value 0) refl
  where
    t : Transfer
    t = record { account = account_of a; number = number; value = value; recipient = account_of (recipient % 256) }

    go : (b : Bool) → eqb value 0 ≡ b → cond b None (Some t) ≡ Some u
        → (u.account ≡ account_of a) × (u.number ≡ number) × (0 < u.value) × (u.recipient.0 < 256)
    go true is e = impossible (cc)
    go false is e =
        let same : t ≡ u = cc in
        rw (← same) (refl, refl, omega (arith, eqb-false value 0 is), omega arith)

-- so is what waits
pub pending_of : (ws : List ℕ) (a : Account) (u : Transfer) → (entry_of (ledger_in ws) a).pending ≡ Some u
    → (u.account ≡ a) × (0 < u.value) × (u.recipient.0 < 256)
unfolding entry_by
pending_of ws a u waits =
    let w = as_read a.0 (block ws a.0) in
    let found = slot_of_next a.0 (w 4) (w 5) (w 6) u (sym (ap (λ e. e.pending) (entry_read ws a)) ∙ waits) in
    (found.0, found.2, found.3)

pub ack_of_next : (ws : List ℕ) (a : Account) (s : Seat) (u : Transfer) → ack_from (entry_of (ledger_in ws) a) s ≡ Some u
    → (u.account ≡ a) × (u.number ≡ (entry_of (ledger_in ws) a).current + 1)
unfolding entry_by
ack_of_next ws a s u = rw (entry_read ws a)
    (table_each OfNext (ack_in a.0 w) 16 0 s.0 none (λ e. impossible (cc))
    (λ k e. let found = slot_of_next a.0 (w (7 + k)) (w current_place + 1) (w (23 + k)) u e in (found.0, found.1)))
  where
    w : Block
    w = as_read a.0 (block ws a.0)

    none : AckSlot
    none = record { slot = None }

    OfNext : AckSlot → Type 0
    OfNext k = k.slot ≡ Some u → (u.account ≡ a) × (u.number ≡ w current_place + 1)

module _ (w : Block) (s : Seat) (t : Transfer) (seat : s.0 < 16) (value : 0 < t.value) (byte : t.recipient.0 < 256) (next : t.number ≡ w current_place + 1) where
  -- a block that is the same but at the seat's two places
  ack_changed : (w' : Block) → ((k : ℕ) → k ≢ 7 + s.0 → k ≢ 23 + s.0 → w' k ≡ w k) → w' (7 + s.0) ≡ t.value → w' (23 + s.0) ≡ t.recipient.0
      → entry_by t.account.0 w' ≡ with_ack (entry_by t.account.0 w) s t
  unfolding entry_by
  ack_changed w' same v r =
      let low : (k : ℕ) → k < 7 → w' k ≡ w k = λ k h. same k (λ e. absurd (omega arith)) (λ e. absurd (omega arith)) in
      let high : (k : ℕ) → 39 ≤ k → w' k ≡ w k = λ k h. same k (λ e. absurd (omega arith)) (λ e. absurd (omega arith)) in
      let a = t.account.0 in
      let others : (k : ℕ) → k < 16 → k ≢ s.0 → ack_in a w' k ≡ ack_in a w k =
      λ k h n. rw (same (7 + k) (λ e. n (omega arith)) (λ e. absurd (omega arith)), same (23 + k) (λ e. absurd (omega arith)) (λ e. n (omega arith)), low 1 (omega arith)) in
      let here : ack_in a w' s.0 ≡ record { slot = Some t } =
      rw (v, r, low 1 (omega arith), ← next, slip_by t value byte) in
      let acks : table_from (ack_in a w') 16 0 ≡ set (table_from (ack_in a w) 16 0) s.0 (record { slot = Some t }) =
      table_set (ack_in a w) (ack_in a w') 16 0 s.0 (λ k l h. others k (omega arith) (λ e. h (omega arith))) ∙ rw (zero-add s.0, here) in
      rw (
        acks,
        low 0 (omega arith),
        low 1 (omega arith),
        low 2 (omega arith),
        low 3 (omega arith),
        low 4 (omega arith),
        low 5 (omega arith),
        low 6 (omega arith),
        high 39 (omega arith),
        high 40 (omega arith),
        high 41 (omega arith),
        high 42 (omega arith),
      )

  pub ack_put : entry_by t.account.0 (put (put w (7 + s.0) t.value) (23 + s.0) t.recipient.0) ≡ with_ack (entry_by t.account.0 w) s t
  ack_put =
      let one : Block = put w (7 + s.0) t.value in
      ack_changed
      (put one (23 + s.0) t.recipient.0)
      (λ k v r. put_else one (23 + s.0) t.recipient.0 k r ∙ put_else w (7 + s.0) t.value k v)
      (put_else one (23 + s.0) t.recipient.0 (7 + s.0) (λ e. absurd (omega arith)) ∙ put_here w (7 + s.0) t.value)
      (put_here one (23 + s.0) t.recipient.0)

-- The group's words: the entries are as they were.
entries_same : (ws after : List ℕ) → ((i : ℕ) → i < group_place → get_or after i 0 ≡ get_or ws i 0) → entries_in after ≡ entries_in ws
unfolding entries_in
entries_same ws after same =
    table_same (λ b. entry_by b (block ws b)) (λ b. entry_by b (block after b)) 32 0 (λ k l h. ap (entry_by k) (fun_ext (at k (omega arith))))
  where
    at : (b : ℕ) → b < 32 → (j : ℕ) → block after b j ≡ block ws b j
    at b h j = go (dec_lt j block_words)
      where
        go : Dec (j < block_words) → block after b j ≡ block ws b j
        go (yes l) = rw (lt-ltb j block_words l) (same (b * block_words + j) (omega arith))
        go (no l) = rw (le-ltb j block_words (omega arith))

module _ (ws : List ℕ) (n f k total : ℕ) (size : length ws ≡ book_words) where
  abbrev one : List ℕ
  one = set ws group_place n

  abbrev two : List ℕ
  two = set one (group_place + 1) f

  abbrev three : List ℕ
  three = set two (group_place + 2) k

  abbrev grouped : List ℕ
  grouped = set three (group_place + 3) total

  pub group_put : ledger_in grouped ≡ record { seats = up_to 16 n; faults = up_to 16 f; accounts = up_to 32 k; total = total; entries = (ledger_in ws).entries }
  unfolding ledger_in
  group_put =
      let size1 : length one ≡ book_words = length-set ws group_place n ∙ size in
      let size2 : length two ≡ book_words = length-set one (group_place + 1) f ∙ size1 in
      let size3 : length three ≡ book_words = length-set two (group_place + 2) k ∙ size2 in
      let past1 : (i : ℕ) → i < group_place + 1 → get_or grouped i 0 ≡ get_or one i 0 =
      λ i h.
      get_or-set_other three (group_place + 3) i total 0 (λ e. absurd (omega arith))
      ∙ get_or-set_other two (group_place + 2) i k 0 (λ e. absurd (omega arith))
      ∙ get_or-set_other one (group_place + 1) i f 0 (λ e. absurd (omega arith)) in
      let first : get_or grouped group_place 0 ≡ n = past1 group_place (omega arith) ∙ get_or-set_same ws group_place n 0 (omega arith) in
      let second : get_or grouped (group_place + 1) 0 ≡ f =
      get_or-set_other three (group_place + 3) (group_place + 1) total 0 (λ e. absurd (omega arith))
      ∙ get_or-set_other two (group_place + 2) (group_place + 1) k 0 (λ e. absurd (omega arith))
      ∙ get_or-set_same one (group_place + 1) f 0 (omega arith) in
      let third : get_or grouped (group_place + 2) 0 ≡ k =
      get_or-set_other three (group_place + 3) (group_place + 2) total 0 (λ e. absurd (omega arith))
      ∙ get_or-set_same two (group_place + 2) k 0 (omega arith) in
      let fourth : get_or grouped (group_place + 3) 0 ≡ total = get_or-set_same three (group_place + 3) total 0 (omega arith) in
      let rest : entries_in grouped ≡ entries_in ws =
      entries_same ws grouped (λ i h. past1 i (omega arith) ∙ get_or-set_other ws group_place i n 0 (λ e. absurd (omega arith))) in
      rw (first, second, third, fourth, rest)
