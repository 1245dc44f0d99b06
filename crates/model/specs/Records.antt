-- The ledger and an account's entry: how they are made, read and changed. In the model no other file builds one of the
-- two records; words are read as such in crate layout.
use Rattle.std.specs.Prelude.{ℕ, ◌≡◌, Bool, true, false, List, map, get_or, set, replicate, Some, None}
use Rattle.model.specs.Types.{Seat, Account, Transfer, Slot, AckSlot, Entry, Ledger, Opening}
use Rattle.model.specs.Basics.{sum_of}

-- the seat and the account with a number
abbrev pub seat_of : ℕ → Seat
seat_of n = record { 0 = n }

abbrev pub account_of : ℕ → Account
account_of n = record { 0 = n }

-- no seat's ack is recorded
unfoldable pub no_acks : List AckSlot
no_acks = replicate 16 (record { slot = None })

-- an account at opening: its balance, current 0, nothing acked, recorded, put forward, waiting or retained
abbrev pub fresh_entry : ℕ → Entry
fresh_entry b =
    record { balance = b; current = 0; acked = false; acks = no_acks; proposed = false; pending = None; retained = None; retained_proposed = false }

-- the account's entry with another balance
abbrev pub with_balance : Entry → ℕ → Entry
with_balance e b =
    record { balance = b; current = e.current; acked = e.acked; acks = e.acks; proposed = e.proposed; pending = e.pending; retained = e.retained; retained_proposed = e.retained_proposed }

-- .. with the mark that this seat has acked the next number
abbrev pub with_acked : Entry → Entry
with_acked e =
    record { balance = e.balance; current = e.current; acked = true; acks = e.acks; proposed = e.proposed; pending = e.pending; retained = e.retained; retained_proposed = e.retained_proposed }

-- .. with the seat's ack recorded
abbrev pub with_ack : Entry → Seat → Transfer → Entry
with_ack e s t =
    record {
      balance = e.balance;
      current = e.current;
      acked = e.acked;
      acks = set e.acks s.0 (record { slot = Some t });
      proposed = e.proposed;
      pending = e.pending;
      retained = e.retained;
      retained_proposed = e.retained_proposed;
    }

-- .. with the mark that a slip was put forward for the next number
abbrev pub with_proposed : Entry → Entry
with_proposed e =
    record { balance = e.balance; current = e.current; acked = e.acked; acks = e.acks; proposed = true; pending = e.pending; retained = e.retained; retained_proposed = e.retained_proposed }

-- .. with an accepted slip that waits
abbrev pub with_pending : Entry → Transfer → Entry
with_pending e t =
    record { balance = e.balance; current = e.current; acked = e.acked; acks = e.acks; proposed = e.proposed; pending = Some t; retained = e.retained; retained_proposed = e.retained_proposed }

-- .. with current at a number that was booked, and the account's acks and marks cleared. What is retained stays
abbrev pub with_booked : Entry → ℕ → Entry
with_booked e number =
    record { balance = e.balance; current = number; acked = false; acks = no_acks; proposed = false; pending = None; retained = e.retained; retained_proposed = e.retained_proposed }

-- .. with these retained: a slip or none, and whether anything was put forward for its number
abbrev pub with_retained_as : Entry → Slot → Bool → Entry
with_retained_as e slot mark =
    record { balance = e.balance; current = e.current; acked = e.acked; acks = e.acks; proposed = e.proposed; pending = e.pending; retained = slot; retained_proposed = mark }

-- .. with what another entry retains
abbrev pub with_retained_of : Entry → Entry → Entry
with_retained_of e kept = with_retained_as e kept.retained kept.retained_proposed

-- .. with a slip of the next number retained, and the mark that this number has
abbrev pub with_retained : Entry → Transfer → Entry
with_retained e t = with_retained_as e (Some t) e.proposed

-- .. with the mark that a slip was put forward for the retained number
abbrev pub with_retained_proposed : Entry → Entry
with_retained_proposed e = with_retained_as e e.retained true

-- .. with nothing retained
abbrev pub with_none_retained : Entry → Entry
with_none_retained e = with_retained_as e None false

-- nothing is retained, and no mark of it is set
abbrev pub RetainsNothing : Entry → Type 0
RetainsNothing e = (e.retained ≡ None) × (e.retained_proposed ≡ false)

-- the entry of an account. An account behind the last entry has a fresh one with balance 0
abbrev pub entry_at : List Entry → Account → Entry
entry_at es a = get_or es a.0 (fresh_entry 0)

-- the entries with another one for an account. Behind the last entry nothing is stored
abbrev pub set_entry : List Entry → Account → Entry → List Entry
set_entry es a e = set es a.0 e

-- the sum of all balances
abbrev pub sum_balances : List Entry → ℕ
sum_balances es = sum_of (λ e. e.balance) es

-- "the sum of all current numbers"
abbrev pub sum_currents : List Entry → ℕ
sum_currents es = sum_of (λ e. e.current) es

-- a ledger just opened from a page
abbrev pub fresh_ledger : Opening → Ledger
fresh_ledger o =
    record {
      seats = o.seats;
      faults = o.faults;
      accounts = o.accounts;
      total = sum_of (λ b. b) o.balances;
      entries = map fresh_entry o.balances;
    }

-- a page with nothing on it
abbrev pub empty_page : Opening
empty_page = record { seats = 0; faults = 0; accounts = 0; balances = replicate 32 0 }

-- the ledger with no seats, no accounts and no balances
abbrev pub no_ledger : Ledger
no_ledger = fresh_ledger empty_page

abbrev pub with_entries : Ledger → List Entry → Ledger
with_entries l es = record { seats = l.seats; faults = l.faults; accounts = l.accounts; total = l.total; entries = es }

abbrev pub entry_of : Ledger → Account → Entry
entry_of l a = entry_at l.entries a

abbrev pub with_entry : Ledger → Account → Entry → Ledger
with_entry l a e = with_entries l (set_entry l.entries a e)
