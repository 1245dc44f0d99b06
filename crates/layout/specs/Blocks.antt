-- What stores of words do, said of an account's block.
use Rattle.std.specs.Prelude.{ℕ, ◌<◌, ◌≤◌, ◌≡◌, ◌≢◌, cond, List, eqb, length, get_or}
use Rattle.layout.specs.Layout.{group_place, Block, block}

-- the block with another word at a place
abbrev pub put : Block → ℕ → ℕ → Block
put w i v j = cond (eqb j i) v (w j)

-- Words are stored in one account's block: it is now this one, and all else is as it was.
pub record Changes (ws : List ℕ) (a : ℕ) (w : Block) (after : List ℕ) : Type 0 where
  pub size : length after ≡ length ws
  pub here : block after a ≡ w
  pub others : (b : ℕ) → b ≢ a → block after b ≡ block ws b
  pub group : (i : ℕ) → group_place ≤ i → get_or after i 0 ≡ get_or ws i 0

-- The same where the account may be behind the last: then all is as it was.
pub record Stores (ws : List ℕ) (a : ℕ) (w : Block) (after : List ℕ) : Type 0 where
  pub inside : a < 32 → Changes ws a w after
  pub behind : 32 ≤ a → after ≡ ws
