-- Laws of the layout: an account's entry is read off its block; and of stores in one account's
-- block, what they make of the ledger.
use Prim.Native.Nat.{ℕ, zero, suc, ◌+◌, ◌*◌, ◌≤◌, ◌<◌}
use native.Mathlib.Nat.{add-zero, zero-add}
use native.Mathlib.Decide.{ℕ_discrete, dec_lt}
use native.Mathlib.Omega.{arith}
use mathlib.Core.Path.{◌≡◌, refl, ap, subst, ◌∙◌, fun_ext}
use mathlib.Core.Logic.{◌≢◌}
use mathlib.Core.List.{List, ◌∷◌}
use lib.ListN.{length, get_or, set, length-set}
use lib.Seq.{get_or-set_same, get_or-set_other}
use Rattle.std.proofs.lemmas.List.{get_or_past}
use borrow.Author.Tests.{lt-ltb, le-ltb, eq-eqb, ne_eqb}
use Rattle.model.specs.declared.Account.{Account}
use Rattle.model.specs.Records.{no_acks, fresh_entry, entry_of, with_entry}
use Rattle.layout.specs.Layout.{block_words, group_place, book_words, Block, block, table_from, as_read, entry_by, entries_in, ledger_in}
use Rattle.layout.specs.Blocks.{put, Changes, Stores}

-- what a table has at a place, and how many places it has
pub table_at : {A : Type 0} (f : ℕ → A) (n i j : ℕ) (d : A) → j < n → get_or (table_from f n i) j d ≡ f (i + j)
table_at f zero i j d h = absurd (omega arith)
table_at f (suc n) i zero d h = ap f (omega arith)
table_at f (suc n) i (suc j) d h = table_at f n (suc i) j d (omega arith) ∙ ap f (omega arith)

pub table_length : {A : Type 0} (f : ℕ → A) (n i : ℕ) → length (table_from f n i) ≡ n
table_length f zero i = refl
table_length f (suc n) i = ap suc (table_length f n (suc i))

-- what holds of each, and of what is read behind the last, holds at every place
pub table_each : {A : Type 0} (P : A → Type 0) (f : ℕ → A) (n i j : ℕ) (d : A) → P d → ((k : ℕ) → P (f k)) → P (get_or (table_from f n i) j d)
table_each P f zero i j d last each = last
table_each P f (suc n) i zero d last each = each i
table_each P f (suc n) i (suc j) d last each = table_each P f n (suc i) j d last each

-- tables of functions that agree at the table's places
pub table_same : {A : Type 0} (f g : ℕ → A) (n i : ℕ) → ((k : ℕ) → i ≤ k → k < i + n → g k ≡ f k) → table_from g n i ≡ table_from f n i
table_same f g zero i same = refl
table_same f g (suc n) i same = rw (same i (omega arith) (omega arith), table_same f g n (suc i) (λ k l h. same k (omega arith) (omega arith)))

-- tables that are equal but at one place differ by a store there
pub table_set : {A : Type 0} (f g : ℕ → A) (n i j : ℕ) → ((k : ℕ) → k < i + n → k ≢ i + j → g k ≡ f k)
    → table_from g n i ≡ set (table_from f n i) j (g (i + j))
table_set f g zero i j same = refl
table_set f g (suc n) i zero same =
    rw (add-zero i) (ap (λ (r : List _). g i ∷ r) (table_same f g n (suc i) (λ k l h. same k (omega arith) (λ e. absurd (omega arith)))))
table_set f g (suc n) i (suc j) same =
    let next : suc i + j ≡ i + suc j = omega arith in
    rw (same i (omega arith) (λ e. absurd (omega arith)), ← next)
    (ap (λ (r : List _). f i ∷ r) (table_set f g n (suc i) j (λ k l h. same k (omega arith) (λ e. h (omega arith)))))

-- a word that was put is read back, and the others are as they were
pub put_here : (w : Block) (i v : ℕ) → put w i v i ≡ v
put_here w i v = rw (eq-eqb i i refl)

pub put_else : (w : Block) (i v j : ℕ) → j ≢ i → put w i v j ≡ w j
put_else w i v j h = rw (ne_eqb j i h)

-- one word is stored
module _ (ws : List ℕ) (a i v : ℕ) (size : length ws ≡ book_words) (account : a < 32) (inside : i < block_words) where
  abbrev stored : List ℕ
  stored = set ws (a * block_words + i) v

  pub changed : Changes ws a (put (block ws a) i v) stored
  changed =
      record {
        size = length-set ws (a * block_words + i) v;
        here = fun_ext at;
        others = λ b h. fun_ext (other b h);
        group = λ j h. get_or-set_other ws (a * block_words + i) j v 0 (λ e. absurd (omega arith));
      }
    where
      at : (j : ℕ) → block stored a j ≡ put (block ws a) i v j
      at j = go (ℕ_discrete j i)
        where
          go : Dec (j ≡ i) → block stored a j ≡ put (block ws a) i v j
          go (yes e) = rw (e, lt-ltb i block_words inside, eq-eqb i i refl) (get_or-set_same ws (a * block_words + i) v 0 (omega arith))
          go (no n) = rw (ne_eqb j i n, get_or-set_other ws (a * block_words + i) (a * block_words + j) v 0 (λ e. n (omega arith)))

      other : (b : ℕ) → b ≢ a → (j : ℕ) → block stored b j ≡ block ws b j
      other b h j = go (dec_lt j block_words)
        where
          go : Dec (j < block_words) → block stored b j ≡ block ws b j
          go (yes l) = rw (lt-ltb j block_words l) (get_or-set_other ws (a * block_words + i) (b * block_words + j) v 0 (λ e. h (omega arith)))
          go (no l) = rw (le-ltb j block_words (omega arith))

-- stores one after another
pub changed_again : {ws mid after : List ℕ} {a : ℕ} {w v : Block} → Changes ws a w mid → Changes mid a v after → Changes ws a v after
changed_again c d =
    record {
      size = d.size ∙ c.size;
      here = d.here;
      others = λ b h. d.others b h ∙ c.others b h;
      group = λ i h. d.group i h ∙ c.group i h;
    }

-- .. the later one of one word
pub changed_more : {ws mid after : List ℕ} {a : ℕ} (w : Block) (i v : ℕ) → Changes ws a w mid → Changes mid a (put (block mid a) i v) after
    → Changes ws a (put w i v) after
changed_more {mid = mid} {after = after} {a = a} w i v c d =
    changed_again c (subst (λ (b : Block). Changes mid a (put b i v) after) c.here d)

-- the entry of an account is the one that its block is
pub entry_in_lem : (ws : List ℕ) (a : Account) → a.0 < 32 → entry_of (ledger_in ws) a ≡ entry_by a.0 (block ws a.0)
unfolding entries_in ledger_in
entry_in_lem ws a h = table_at (λ b. entry_by b (block ws b)) 32 0 a.0 (fresh_entry 0) h ∙ ap (λ b. entry_by b (block ws b)) (omega arith)

pub entries_length : (ws : List ℕ) → length (ledger_in ws).entries ≡ 32
unfolding entries_in ledger_in
entries_length ws = table_length (λ b. entry_by b (block ws b)) 32 0

-- with another block for an account, the entries have that block's entry
changed_entries : (ws : List ℕ) (a : Account) (w : Block) (after : List ℕ) → Changes ws a.0 w after
    → entries_in after ≡ set (entries_in ws) a.0 (entry_by a.0 w)
unfolding entries_in
changed_entries ws a w after c =
    table_set (λ b. entry_by b (block ws b)) (λ b. entry_by b (block after b)) 32 0 a.0 (λ k l h. ap (entry_by k) (c.others k (λ e. h (omega arith))))
    ∙ rw (zero-add a.0, c.here)

-- and so has the ledger
pub changed_ledger : (ws : List ℕ) (a : Account) (w : Block) (after : List ℕ) → Changes ws a.0 w after
    → ledger_in after ≡ with_entry (ledger_in ws) a (entry_by a.0 w)
unfolding ledger_in
changed_ledger ws a w after c =
    rw (
      c.group group_place (omega arith),
      c.group (group_place + 1) (omega arith),
      c.group (group_place + 2) (omega arith),
      c.group (group_place + 3) (omega arith),
      changed_entries ws a w after c,
    )

-- the entry of any account is the one that its block is, as it is read
pub entry_read : (ws : List ℕ) (a : Account) → entry_of (ledger_in ws) a ≡ entry_by a.0 (as_read a.0 (block ws a.0))
unfolding entry_by no_acks
entry_read ws a = go (dec_lt a.0 32)
  where
    go : Dec (a.0 < 32) → entry_of (ledger_in ws) a ≡ entry_by a.0 (as_read a.0 (block ws a.0))
    go (yes l) = rw (lt-ltb a.0 32 l) (entry_in_lem ws a l)
    go (no l) = rw (le-ltb a.0 32 (omega arith)) (get_or_past (ledger_in ws).entries a.0 (fresh_entry 0) (omega (arith, entries_length ws)))

-- stores one after another, of any account, the later one of one word
pub stored_more : {ws mid after : List ℕ} {a : ℕ} (w : Block) (i v : ℕ) → Stores ws a w mid → Stores mid a (put (block mid a) i v) after
    → Stores ws a (put w i v) after
stored_more w i v c d = record { inside = λ l. changed_more w i v (c.inside l) (d.inside l); behind = λ l. d.behind l ∙ c.behind l }
