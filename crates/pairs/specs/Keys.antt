-- An ack as two numbers, so that a pair is told by comparing these: with equal heads its two acks have one seat,
-- account and number; with different tails their slips differ.
use Rattle.std.specs.Prelude.{ℕ, ◌+◌, ◌*◌, ◌<◌, ◌≤◌, ◌≡◌, Bool, cond, not, ◌&&◌, List, eqb, get_or}
use Rattle.model.specs.declared.Transfer.{Transfer}
use Rattle.model.specs.Bundles.{entry_count, Page, page_at}
use Rattle.model.specs.Writing.{Bytes}
use Rattle.model.specs.Joins.{is_ack, slip_on}
use Rattle.pairs.specs.declared.keys.Key.{Key}

-- the seat (1 byte), account (1) and number (4)
abbrev pub head_of : ℕ → Transfer → ℕ
head_of seat t = seat + 256 * (t.account.0 + 256 * t.number)

-- the value (4) and recipient (1)
abbrev pub tail_of : Transfer → ℕ
tail_of t = t.value + 4_294_967_296 * t.recipient.0

abbrev pub key_of : ℕ → Transfer → Key
key_of seat t = record { head = head_of seat t; tail = tail_of t }

-- 2^48, which is above the head of every ack
abbrev pub no_head : ℕ
no_head = 281_474_976_710_656

-- of a page; one that is no ack has that
abbrev pub page_head : Page → ℕ
page_head p = cond (is_ack p) (head_of p.seat (slip_on p)) no_head

abbrev pub page_tail : Page → ℕ
page_tail p = tail_of (slip_on p)

abbrev pub page_key : Page → Key
page_key p = record { head = page_head p; tail = page_tail p }

-- entry j's key
abbrev pub key_at : List Key → ℕ → Key
key_at keys j = get_or keys j (record { head = 0; tail = 0 })

-- The keys of a bundle, which is bytes: each entry has that of its page.
pub record Keys (bytes : List ℕ) (keys : List Key) : Type 0 where
  pub small : Bytes bytes
  pub few : entry_count bytes ≤ 1_000
  pub each : (j : ℕ) → j < entry_count bytes → key_at keys j ≡ page_key (page_at bytes j)

-- the page with entry j's key makes a pair with an ack that has this key
abbrev pub meets : List Key → Key → ℕ → Bool
meets keys key j = eqb (key_at keys j).head key.head && not (eqb (key_at keys j).tail key.tail)
