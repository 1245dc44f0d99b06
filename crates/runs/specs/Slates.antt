-- Document 01: "A seat's slate is fed the opening page and the seat's calls with their replies, nothing
-- else." Plain numbers, no modulus.
use Rattle.std.specs.Prelude.{ℕ, zero, suc, ◌+◌, ◌-◌, Bool, cond, List, [], ◌∷◌, leb, length, get_or, Option, Some, None}
use Rattle.laws.specs.Types.{Seat, Account, Transfer, Opening}
use Rattle.runs.specs.Runs.{Run, start, ◌▹◌, same_seat, accepted}
use Rattle.model.specs.Basics.{bit}
use Rattle.model.specs.Transfers.{same_account, equal}

-- "It has a balance and a count of booked numbers per account, and waiting slips"
pub record Slate : Type 0 where
  pub balance : Account → ℕ
  pub count : Account → ℕ
  pub waiting : List Transfer

-- "at first the page's balances, counts of 0, no slips"
abbrev pub fresh_slate : Opening → Slate
fresh_slate o = record { balance = λ a. get_or o.balances a.0 0; count = λ a. 0; waiting = [] }

-- the slip's value is at most its payer's balance
abbrev pub covered : Slate → Transfer → Bool
covered s t = leb t.value (s.balance t.account)

-- of a slip and perhaps another, the one with the lower account
abbrev pub lower : Transfer → Option Transfer → Transfer
lower t None = t
lower t (Some u) = cond (leb t.account.0 u.account.0) t u

-- of the slips that pass the test, the one with the lowest account
abbrev pub lowest : (Transfer → Bool) → List Transfer → Option Transfer
lowest p [] = None
lowest p (t ∷ ts) = cond (p t) (Some (lower t (lowest p ts))) (lowest p ts)

-- the slips without this one
abbrev pub without : Transfer → List Transfer → List Transfer
without t [] = []
without t (u ∷ us) = cond (equal t u) us (u ∷ without t us)

-- what of a value that belongs to one account is another's: all of it or nothing
abbrev pub part_of : Account → Account → ℕ → ℕ
part_of a b value = cond (same_account a b) value 0

-- the slip leaves: "its value goes from payer to recipient, and the payer's count rises by 1"
abbrev pub leave : Slate → Transfer → Slate
leave s t =
    record {
      balance = λ a. s.balance a - part_of a t.account t.value + part_of a t.recipient t.value;
      count = λ a. s.count a + bit (same_account a t.account);
      waiting = without t s.waiting;
    }

-- "while some waiting slip's value is at most its payer's balance, the one with the lowest
-- account leaves": at most n of them
unfoldable pub leave_at_most : ℕ → Slate → Slate
leave_at_most zero s = s
leave_at_most (suc n) s = elim (lowest (covered s) s.waiting) [ None ↦ s | Some t ↦ leave_at_most n (leave s t) ]

-- no more can leave than wait
unfoldable pub leave_all : Slate → Slate
leave_all s = leave_at_most (length s.waiting) s

abbrev pub join : Slate → Transfer → Slate
join s t = record { balance = s.balance; count = s.count; waiting = t ∷ s.waiting }

-- "At a call answered K, the call's slip joins the waiting ones. Then .." "Any other call, refused or
-- not, leaves the slate as it is."
abbrev pub next_slate : Slate → Option Transfer → Slate
next_slate s None = s
next_slate s (Some t) = leave_all (join s t)

-- the slate of seat s after a run
unfoldable pub slate_at : Opening → Seat → Run → Slate
slate_at o s (start from) = fresh_slate o
slate_at o s (r ▹ e) = cond (same_seat e.at s) (next_slate (slate_at o s r) (accepted e.call)) (slate_at o s r)
