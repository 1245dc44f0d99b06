-- What is handed over, tried; and that what is not refused there is a message.
use Rattle.std.specs.Prelude.{Option, Some, None}
use Prim.Native.Nat.{ℕ, zero, suc, ◌≤◌}
use native.Mathlib.Omega.{arith}
use mathlib.Core.Path.{◌≡◌, refl}
use mathlib.Core.Bool.{Bool, true, false, cond}
use lib.ListN.{get_or, replicate}
use Rattle.model.specs.declared.Message.{Message}
use Rattle.model.specs.declared.Message.TheVariants.{Request, Circulated, Ack, Decision, Inquiry}
use Rattle.model.specs.declared.Refusal.{Refusal}
use Rattle.model.specs.declared.Refusal.TheVariants.{BadGroup, BadContents, BadEnd}
use Rattle.model.specs.Records.{seat_of, account_of}
use Rattle.model.specs.Refusals.{first_refusal}
use Rattle.model.specs.Bundles.{Page, wrong_page, transfer_of, message_of}
use Rattle.laws.proofs.Sums.{impossible}
use Rattle.bundle.proofs.Longest.{kind_later}
use Rattle.host.specs.Handing.{handed_refusal, opening_rules}

-- a kind, a seat and a body of so many zeros
abbrev handed : ℕ → ℕ → ℕ → Option Refusal
handed kind seat size = handed_refusal (record { kind = kind; seat = seat; body = replicate size 0 })

-- 14, also where the body is wrong too
pub wrong_entries : (handed 0 0 131 ≡ Some BadContents)
    × (handed 6 0 10 ≡ Some BadContents)
    × (handed 255 0 0 ≡ Some BadContents)
    × (handed 2 1 10 ≡ Some BadContents)
    × (handed 5 3 0 ≡ Some BadContents)
wrong_entries = (refl, refl, refl, refl, refl)

-- 15, for fewer bytes and for more
pub wrong_bodies : (handed 1 0 9 ≡ Some BadEnd)
    × (handed 2 0 11 ≡ Some BadEnd)
    × (handed 4 0 0 ≡ Some BadEnd)
    × (handed 5 0 0 ≡ Some BadEnd)
    × (handed 5 0 10 ≡ Some BadEnd)
wrong_bodies = (refl, refl, refl, refl, refl)

-- what a bundle's pages have; an ack's seat may be any
pub right_ones : (handed 1 0 10 ≡ None) × (handed 3 255 10 ≡ None) × (handed 4 0 10 ≡ None) × (handed 5 0 1 ≡ None)
right_ones = (refl, refl, refl, refl)

-- an opening page of another length: 15, before anything is opened
abbrev opening : ℕ → Option Refusal
opening size = first_refusal (opening_rules (replicate size 0))

pub wrong_pages : (opening 0 ≡ Some BadEnd) × (opening 130 ≡ Some BadEnd) × (opening 132 ≡ Some BadEnd) × (opening 131 ≡ Some BadGroup)
wrong_pages = (refl, refl, refl, refl)

-- So there is always a message where nothing is refused.
asked : (p : Page) → 1 ≤ p.kind → p.kind ≤ 5 → (m : Message) × (message_of p ≡ Some m)
asked p from to = go p.kind refl
  where
    go : (kind : ℕ) → p.kind ≡ kind → (m : Message) × (message_of p ≡ Some m)
    go zero k = absurd (omega arith)
    go (suc zero) k = (Request (transfer_of p.body), rw k)
    go (suc (suc zero)) k = (Circulated (transfer_of p.body), rw k)
    go (suc (suc (suc zero))) k = (Ack (seat_of p.seat) (transfer_of p.body), rw k)
    go (suc (suc (suc (suc zero)))) k = (Decision (transfer_of p.body), rw k)
    go (suc (suc (suc (suc (suc zero))))) k = (Inquiry (account_of (get_or p.body 0 0)), rw k)
    go (suc (suc (suc (suc (suc (suc more)))))) k = absurd (omega arith)

right_entry : (entry : Bool) (rest : Option Refusal) → cond entry (Some BadContents) rest ≡ None → entry ≡ false
right_entry true rest e = impossible (cc)
right_entry false rest e = refl

pub always_asks : (p : Page) → handed_refusal p ≡ None → (m : Message) × (message_of p ≡ Some m)
always_asks p e =
    let kind = kind_later 0 0 (record { kind = p.kind; seat = p.seat; start = 0; sum = 0 }) (right_entry (wrong_page 1 p) _ e) in
    asked p kind.1 kind.0
