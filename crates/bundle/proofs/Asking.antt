-- In a sound bundle every entry behind page 0 holds a message: so none of them goes without a reply.
use Rattle.std.proofs.Common.{◌≡◌, ℕ, zero, suc, ◌<◌, ◌≤◌, List, get_or, refl, arith, Some, Ok}
use Rattle.model.specs.declared.Message.{Message}
use Rattle.model.specs.declared.Message.TheVariants.{Request, Circulated, Ack, Decision, Inquiry}
use Rattle.model.specs.Records.{seat_of, account_of}
use Rattle.model.specs.Bundles.{entry_count, Page, contents_at, start_at, transfer_of, page_at, message_of, check_bundle}
use Rattle.bundle.proofs.Longest.{kind_later, right_entries}

-- a page of kind 1 to 5
known_kind : (p : Page) → 1 ≤ p.kind → p.kind ≤ 5 → (m : Message) × (message_of p ≡ Some m)
known_kind p from to = go p.kind refl
  where
    go : (kind : ℕ) → p.kind ≡ kind → (m : Message) × (message_of p ≡ Some m)
    go zero e = absurd (omega arith)
    go (suc zero) e = (Request (transfer_of p.body), rw e)
    go (suc (suc zero)) e = (Circulated (transfer_of p.body), rw e)
    go (suc (suc (suc zero))) e = (Ack (seat_of p.seat) (transfer_of p.body), rw e)
    go (suc (suc (suc (suc zero)))) e = (Decision (transfer_of p.body), rw e)
    go (suc (suc (suc (suc (suc zero))))) e = (Inquiry (account_of (get_or p.body 0 0)), rw e)
    go (suc (suc (suc (suc (suc (suc more)))))) e = absurd (omega arith)

pub all_ask : (bytes : List ℕ) (m : ℕ) → check_bundle bytes ≡ Ok m → (i : ℕ) → suc i < entry_count bytes
    → (asked : Message) × (message_of (page_at bytes (suc i)) ≡ Some asked)
all_ask bytes m sound i inside =
    let right = right_entries bytes m sound (suc i) (omega arith) (omega arith) in
    let kind = kind_later i (start_at bytes (suc i)) (contents_at bytes (suc i)) right in
    known_kind (page_at bytes (suc i)) kind.1 kind.0
