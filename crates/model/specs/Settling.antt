-- Document 01: settling, and what booking does.
use Rattle.std.specs.Prelude.{ℕ, zero, suc, ◌+◌, ◌-◌, ◌%◌, Bool, false, List, leb, length, Option, Some, None, is_some, option_map}
use Rattle.model.specs.Types.{Account, Transfer, Slot, Entry}
use Rattle.model.specs.Basics.{count, first_where}
use Rattle.model.specs.Records.{account_of, entry_at, set_entry, with_balance, with_booked}

-- an accepted slip of the account waits
abbrev pub is_waiting : Entry → Bool
is_waiting e = is_some e.pending

-- the waiting slip in this place has a value that is at most this balance
abbrev pub affords : ℕ → Slot → Bool
affords balance None = false
affords balance (Some t) = leb t.value balance

-- "some waiting slip's value is at most its payer's balance": its payer is the account that holds it
abbrev pub affordable : Entry → Bool
affordable e = affords e.balance e.pending

-- the lowest account with such a slip
unfoldable pub lowest_affordable : List Entry → Option Account
lowest_affordable es = option_map account_of (first_where (λ a. affordable (entry_at es (account_of a))) (length es) 0)

-- how many slips wait
abbrev pub waiting : List Entry → ℕ
waiting es = count is_waiting es

-- "gives it to the recipient". Modulo 2^32, which is the plain sum wherever all balances together are below that
abbrev pub credited : Entry → ℕ → Entry
credited e v = with_balance e ((e.balance + v) % 4_294_967_296)

abbrev pub credit : List Entry → Account → ℕ → List Entry
credit es a v = set_entry es a (credited (entry_at es a) v)

-- "takes the value from the payer", "sets current to the slip's number, and clears the account's acks and marks"
abbrev pub debited : Entry → Transfer → Entry
debited e t = with_booked (with_balance e (e.balance - t.value)) t.number

-- booking the slip of an account's place: payer first, then recipient, who may be the payer
abbrev pub apply_slot : List Entry → Account → Slot → List Entry
apply_slot es a None = es
apply_slot es a (Some t) = credit (set_entry es a (debited (entry_at es a) t)) t.recipient t.value

-- booking the slip that waits at an account
unfoldable pub apply : List Entry → Account → List Entry
apply es a = apply_slot es a (entry_at es a).pending

-- what settling leaves: how many slips it booked, and the entries
pub record Settled : Type 0 where
  pub applied : ℕ
  pub entries : List Entry

abbrev pub one_more : Settled → Settled
one_more s = record { applied = suc s.applied; entries = s.entries }

-- "While some waiting slip's value is at most its payer's balance, the one with the lowest account is booked."
-- "Settling calls itself again on the waiting slips that are left, one fewer each time": the number is how many wait.
unfoldable pub settle_at_most : ℕ → List Entry → Settled
settle_at_most zero es = record { applied = 0; entries = es }
settle_at_most (suc n) es =
    elim (lowest_affordable es) [
      | None ↦ record { applied = 0; entries = es }
      | Some a ↦ one_more (settle_at_most n (apply es a))
    ]

unfoldable pub settle : List Entry → Settled
settle es = settle_at_most (waiting es) es
