-- A block copied word by word from a book held from before: nothing yet, one word more, and what the whole copy makes
-- of the entry; and the group's words.
use Prim.Native.Nat.{ℕ, ◌+◌, ◌*◌, ◌<◌}
use native.Mathlib.Decide.{ℕ_discrete, dec_lt}
use native.Mathlib.Omega.{arith}
use mathlib.Core.Path.{◌≡◌, refl, ap, sym, ◌∙◌, fun_ext}
use mathlib.Core.Bool.{Bool, true, false, cond}
use mathlib.Core.List.{List}
use lib.Dec.{leb}
use lib.ListN.{length, get_or}
use borrow.Author.Tests.{lt-ltb, le-ltb, eq-eqb, ne_eqb, le-leb}
use Rattle.std.proofs.lemmas.List.{set_past}
use Rattle.model.specs.declared.Account.{Account}
use Rattle.model.specs.Records.{fresh_entry, with_retained_of, entry_of, with_entries, with_entry}
use Rattle.layout.specs.Layout.{held_block_words, held_group_place, Block, block, held_block, up_to, entry_by, ledger_in, entry_in, held_entries_in, held_in}
use Rattle.layout.specs.Blocks.{put, Changes, Stores}
use Rattle.layout.proofs.Blocks.{table_at, table_length, entry_in_lem, entries_length, changed_more, changed_ledger}
use Rattle.store.specs.Stores.{GroupStored, copied}

-- nothing is copied yet
copied_none : (u w : Block) → w ≡ copied u w 0
copied_none u w = fun_ext (λ j. rw (le-ltb j 0 (omega arith)))

-- one word more
copied_more : (u w : Block) (n : ℕ) → put (copied u w n) n (u n) ≡ copied u w (n + 1)
copied_more u w n = fun_ext (λ j. go j (ℕ_discrete j n) (dec_lt j n))
  where
    go : (j : ℕ) → Dec (j ≡ n) → Dec (j < n) → put (copied u w n) n (u n) j ≡ copied u w (n + 1) j
    go j (yes e) q = rw (eq-eqb j n e, lt-ltb j (n + 1) (omega arith), e)
    go j (no e) (yes q) = rw (ne_eqb j n e, lt-ltb j n q, lt-ltb j (n + 1) (omega arith))
    go j (no e) (no q) = rw (ne_eqb j n e, le-ltb j n (omega arith), le-ltb j (n + 1) (omega arith))

-- .. as words that are stored
pub nothing_copied : (ws : List ℕ) (a : ℕ) (u : Block) → Changes ws a (copied u (block ws a) 0) ws
nothing_copied ws a u = record { size = refl; here = copied_none u (block ws a); others = λ b h. refl; group = λ j h. refl }

pub one_copied : (ws mid after : List ℕ) (a n word : ℕ) (u : Block) → word ≡ u n → Changes ws a (copied u (block ws a) n) mid
    → Changes mid a (put (block mid a) n word) after → Changes ws a (copied u (block ws a) (n + 1)) after
one_copied ws mid after a n word u is c d =
    rw (← copied_more u (block ws a) n, ← is) (changed_more (copied u (block ws a) n) n word c d)

-- a word of a held book's block
pub held_word : (ws : List ℕ) (a i word : ℕ) → i < held_block_words → word ≡ get_or ws (a * held_block_words + i) 0 → word ≡ held_block ws a i
held_word ws a i word inside is = is ∙ rw (lt-ltb i held_block_words inside)

-- the whole block is copied: the entry is the held one, with what is retained now
copied_entry : (a : ℕ) (u w : Block) → entry_by a (copied u w held_block_words) ≡ with_retained_of (entry_by a u) (entry_by a w)
unfolding entry_by
copied_entry a u w = refl

-- the entry of an account in a held book
held_entry : (ws : List ℕ) (a : Account) → a.0 < 32 → entry_of (held_in ws) a ≡ entry_by a.0 (held_block ws a.0)
unfolding held_entries_in held_in
held_entry ws a h = table_at (λ b. entry_by b (held_block ws b)) 32 0 a.0 (fresh_entry 0) h ∙ ap (λ b. entry_by b (held_block ws b)) (omega arith)

pub held_entries_length : (ws : List ℕ) → length (held_in ws).entries ≡ 32
unfolding held_entries_in held_in
held_entries_length ws = table_length (λ b. entry_by b (held_block ws b)) 32 0

pub entry_taken : (held ws after : List ℕ) (a : Account)
    → Stores ws a.0 (copied (held_block held a.0) (block ws a.0) held_block_words) after
    → ledger_in after ≡ with_entry (ledger_in ws) a (with_retained_of (entry_of (held_in held) a) (entry_in ws a))
entry_taken held ws after a c = go (dec_lt a.0 32)
  where
    go : Dec (a.0 < 32) → ledger_in after ≡ with_entry (ledger_in ws) a (with_retained_of (entry_of (held_in held) a) (entry_in ws a))
    go (yes h) =
        changed_ledger ws a (copied (held_block held a.0) (block ws a.0) held_block_words) after (c.inside h)
        ∙ ap (with_entry (ledger_in ws) a)
        (copied_entry a.0 (held_block held a.0) (block ws a.0) ∙ (λ i. with_retained_of (sym (held_entry held a h) i) (sym (entry_in_lem ws a h) i)))
    go (no h) =
        rw (c.behind (omega arith))
        (ap (with_entries (ledger_in ws)) (sym (set_past (ledger_in ws).entries a.0 (with_retained_of (entry_of (held_in held) a) (entry_in ws a)) (omega (arith, entries_length ws)))))

-- a number that is in its range is read as it is
up_to_again : (limit word : ℕ) → up_to limit (up_to limit word) ≡ up_to limit word
up_to_again limit word = go (leb word limit) refl
  where
    go : (b : Bool) → leb word limit ≡ b → up_to limit (cond b word 0) ≡ cond b word 0
    go true is = rw is
    go false is = rw (le-leb 0 limit (omega arith))

-- the group's words are stored
pub group_taken : (held ws after : List ℕ)
    → GroupStored ws (up_to 16 (get_or held held_group_place 0)) (up_to 16 (get_or held (held_group_place + 1) 0)) (up_to 32 (get_or held (held_group_place + 2) 0)) (get_or held (held_group_place + 3) 0) after
    → ledger_in after ≡ with_entries (held_in held) (ledger_in ws).entries
unfolding held_in
group_taken held ws after stored =
    stored.group
    ∙ rw (up_to_again 16 (get_or held held_group_place 0), up_to_again 16 (get_or held (held_group_place + 1) 0), up_to_again 32 (get_or held (held_group_place + 2) 0)) refl
