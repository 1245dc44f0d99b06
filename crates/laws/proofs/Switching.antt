-- The sets of rules: that the first are document 01's; what acks and rulings meet, which does not differ between them;
-- and what a switch does to a ledger: nothing but what is retained changes.
use Rattle.std.specs.Prelude.{Some, None}
use mathlib.Core.Path.{◌≡◌, refl}
use mathlib.Core.Logic.{◌⊎◌, inl, inr}
use mathlib.Core.List.{[], ◌∷◌, ◌++◌, map}
use lib.ListN.{length, get_or-map, length-map}
use Rattle.laws.specs.Types.{Seat, Account, Transfer, Slot, Entry, Ledger, InsufficientFunds, AlreadyAcked, Request, Circulated, Ack, Decision}
use Rattle.model.specs.Refusals.{above_balance, transfer_rules, rules_of}
use Rattle.model.specs.Calls.{rules_in}
use Rattle.model.specs.Switches.{Rules, first_rules, since_request3, since_request5, retains_from, retains_waiting, switched, rules_under, rules_met}
use Rattle.model.specs.Records.{fresh_entry, entry_of}
use Rattle.laws.proofs.Access.{SameButRetained, SameGroup, with_entries_lem}

-- under the first rules a request meets 5 6 7 8 11 and a slip 5 6 7 8 12 11, as in document 01
pub first_request : (l : Ledger) (e : Entry) (t : Transfer)
    → rules_under first_rules (rules_of l e (Request t)) ≡ transfer_rules l e t ++ ((above_balance e t, InsufficientFunds) ∷ [])
first_request l e t = refl

pub first_circulated : (l : Ledger) (e : Entry) (t : Transfer)
    → rules_under first_rules (rules_of l e (Circulated t)) ≡ transfer_rules l e t ++ ((e.acked, AlreadyAcked) ∷ (above_balance e t, InsufficientFunds) ∷ [])
first_circulated l e t = refl

-- an ack, and a ruling, meet the same under every set of rules
pub ack_rules_lem : (v : Rules) (l : Ledger) (s : Seat) (t : Transfer) → rules_met v l (Ack s t) ≡ rules_in l (Ack s t)
ack_rules_lem first_rules l s t = refl
ack_rules_lem since_request3 l s t = refl
ack_rules_lem since_request5 l s t = refl

pub ruling_rules : (v : Rules) (l : Ledger) (t : Transfer) → rules_met v l (Decision t) ≡ rules_in l (Decision t)
ruling_rules first_rules l t = refl
ruling_rules since_request3 l t = refl
ruling_rules since_request5 l t = refl

-- what an account's entry becomes at a switch
abbrev pub takes_over : Rules → Entry → Entry
takes_over first_rules e = e
takes_over since_request3 e = retains_waiting e
takes_over since_request5 e = e

pub switched_entry : (v : Rules) (l : Ledger) (a : Account) → entry_of (switched v l) a ≡ takes_over v (entry_of l a)
switched_entry first_rules l a = refl
switched_entry since_request3 l a = get_or-map retains_waiting l.entries a.0 (fresh_entry 0)
switched_entry since_request5 l a = refl

pub takes_over_keeps : (v : Rules) (e : Entry) → SameButRetained e (takes_over v e)
takes_over_keeps first_rules e = refl
takes_over_keeps since_request3 e = go e.pending
  where
    go : (p : Slot) → SameButRetained e (retains_from p e)
    go None = refl
    go (Some t) = refl
takes_over_keeps since_request5 e = refl

-- what is retained then is what was, or what waits
pub takes_over_from : (v : Rules) (e : Entry) (t : Transfer) → (takes_over v e).retained ≡ Some t → (e.retained ≡ Some t) ⊎ (e.pending ≡ Some t)
takes_over_from first_rules e t h = inl h
takes_over_from since_request3 e t h = inr (go e.pending refl h)
  where
    go : (p : Slot) → e.pending ≡ p → (retains_from p e).retained ≡ Some t → p ≡ Some t
    go None is h = h
    go (Some u) is h = h
takes_over_from since_request5 e t h = inl h

-- so of each account nothing changes but what is retained
pub switched_keeps : (v : Rules) (l : Ledger) (a : Account) → SameButRetained (entry_of l a) (entry_of (switched v l) a)
switched_keeps v l a = rw (switched_entry v l a) (takes_over_keeps v (entry_of l a))

-- and neither n, f, k, the opening sum nor how many accounts there are
pub switched_group : (v : Rules) (l : Ledger) → SameGroup (switched v l) l
switched_group first_rules l = (with_entries_lem l l.entries).1
switched_group since_request3 l = (with_entries_lem l (map retains_waiting l.entries)).1
switched_group since_request5 l = (with_entries_lem l l.entries).1

pub switched_length : (v : Rules) (l : Ledger) → length (switched v l).entries ≡ length l.entries
switched_length first_rules l = refl
switched_length since_request3 l = length-map l.entries retains_waiting
switched_length since_request5 l = refl
