-- A page of a bundle that is read and written out again is the same page, and what is read fits its types.
use Rattle.std.specs.Prelude.{Some}
use Prim.Native.Nat.{ℕ, zero, suc, ◌≤◌, ◌<◌}
use native.Mathlib.Omega.{arith}
use mathlib.Core.Path.{◌≡◌, refl, ap, sym, ◌∙◌}
use mathlib.Core.Bool.{false, not, ◌&&◌}
use mathlib.Core.List.{List, [], ◌∷◌}
use lib.Dec.{eqb}
use lib.ListN.{length, get_or, take, drop, length-drop}
use lib.Seq.{take_all, drop-cons, take-add}
use Rattle.model.specs.declared.Message.{Message}
use Rattle.model.specs.declared.Message.TheVariants.{Request, Circulated, Ack, Decision, Inquiry}
use Rattle.model.specs.Records.{seat_of, account_of}
use Rattle.model.specs.Bundles.{Page, body_length, opening_of, transfer_of, message_of}
use Rattle.model.specs.Writing.{Bytes, page_zero, transfer_bytes, message_page}
use Rattle.laws.proofs.Numbers.{number_written, number_small, joined, words_back, words_small}
use Rattle.bundle.proofs.Longest.{no_difference}
use Rattle.writer.specs.RoundTrips.{TransferFits, MessageFits, OpeningFits}

-- a byte at a place, by itself
byte_there : (bytes : List ℕ) (at : ℕ) → at < length bytes → get_or bytes at 0 ∷ [] ≡ take 1 (drop at bytes)
byte_there bytes at h = rw (drop-cons bytes at 0 h)

-- a list by its first three and what is behind them
three_first : (xs : List ℕ) {rest : List ℕ} → 3 ≤ length xs → rest ≡ drop 3 xs
    → get_or xs 0 0 ∷ get_or xs 1 0 ∷ get_or xs 2 0 ∷ rest ≡ xs
three_first [] h e = absurd (omega arith)
three_first (x ∷ []) h e = absurd (omega arith)
three_first (x ∷ y ∷ []) h e = absurd (omega arith)
three_first (x ∷ y ∷ z ∷ xs) h e = rw e

module _ (body : List ℕ) (small : Bytes body) where
  -- a transfer, of 1, 4, 4 and 1 bytes
  transfer_back : length body ≡ 10 → transfer_bytes (transfer_of body) ≡ body
  transfer_back size =
      let number = number_written 4 body 1 small (omega arith) in
      let value = number_written 4 body 5 small (omega arith) in
      let five = joined (byte_there body 0 (omega arith)) number ∙ sym (take-add 1 4 body) in
      let nine = joined five value ∙ sym (take-add 5 4 body) in
      let ten = joined nine (byte_there body 9 (omega arith)) ∙ sym (take-add 9 1 body) in
      ten ∙ take_all 10 body (omega arith)

  transfer_fits : TransferFits (transfer_of body)
  transfer_fits =
      record { account = small 0; number = number_small 4 body 1 small; value = number_small 4 body 5 small; recipient = small 9 }

  -- an opening page
  opening_back : length body ≡ 131 → (page_zero (opening_of body)).body ≡ body
  opening_back size =
      let left = length-drop 3 body in
      three_first body (omega arith) (words_back body small 32 3 (omega arith) ∙ take_all 128 (drop 3 body) (omega arith))

  pub opening_fits : OpeningFits (opening_of body)
  opening_fits =
      record { seats = small 0; faults = small 1; accounts = small 2; count = refl; balances = words_small body small 32 3 }

  -- the account of a balance question
  account_back : length body ≡ 1 → get_or body 0 0 ∷ [] ≡ body
  account_back size = byte_there body 0 (omega arith) ∙ take_all 1 body (omega arith)

-- a page by its parts
page_of_parts : (p : Page) {kind seat : ℕ} {body : List ℕ} → p.kind ≡ kind → p.seat ≡ seat → body ≡ p.body
    → record { kind = kind; seat = seat; body = body } ≡ p
page_of_parts p k s b = rw (← k, ← s, b)

-- an opening page with a whole body and no seat
pub first_back : (p : Page) → p.kind ≡ 0 → p.seat ≡ 0 → Bytes p.body → length p.body ≡ 131
    → page_zero (opening_of p.body) ≡ p
first_back p k s small size = page_of_parts p k s (opening_back p.body small size)

-- What a page is read as, written, is the page; and it fits.
pub record PageBack (p : Page) (m : Message) : Type 0 where
  pub asked : message_of p ≡ Some m
  pub same : message_page m ≡ p
  pub fits : MessageFits m

-- a page of kind 1 to 5 with a whole body, and a seat only if it is an ack
module _ (p : Page) (small : Bytes p.body) (size : length p.body ≡ body_length p.kind) (byte : p.seat < 256)
    (seat : (not (eqb p.kind 3) && not (eqb p.seat 0)) ≡ false) where
  -- what its kind says of its body and of its seat
  whole : {kind n : ℕ} → p.kind ≡ kind → body_length kind ≡ n → length p.body ≡ n
  whole k e = size ∙ ap body_length k ∙ e

  no_seat : {kind : ℕ} → p.kind ≡ kind → eqb kind 3 ≡ false → p.seat ≡ 0
  no_seat k e = no_difference p.seat 0 (rw (k, e) at seat)

  pub page_back : 1 ≤ p.kind → p.kind ≤ 5 → (m : Message) × PageBack p m
  page_back from to = go p.kind refl
    where
      back : {kind : ℕ} → p.kind ≡ kind → body_length kind ≡ 10 → transfer_bytes (transfer_of p.body) ≡ p.body
      back k e = transfer_back p.body small (whole k e)

      fits : TransferFits (transfer_of p.body)
      fits = transfer_fits p.body small

      go : (kind : ℕ) → p.kind ≡ kind → (m : Message) × PageBack p m
      go zero k = absurd (omega arith)
      go (suc zero) k = (
        Request (transfer_of p.body),
        record { asked = rw k; same = page_of_parts p k (no_seat k refl) (back k refl); fits = fits },
      )
      go (suc (suc zero)) k = (
        Circulated (transfer_of p.body),
        record { asked = rw k; same = page_of_parts p k (no_seat k refl) (back k refl); fits = fits },
      )
      go (suc (suc (suc zero))) k = (
        Ack (seat_of p.seat) (transfer_of p.body),
        record { asked = rw k; same = page_of_parts p k refl (back k refl); fits = (byte, fits) },
      )
      go (suc (suc (suc (suc zero)))) k = (
        Decision (transfer_of p.body),
        record { asked = rw k; same = page_of_parts p k (no_seat k refl) (back k refl); fits = fits },
      )
      go (suc (suc (suc (suc (suc zero))))) k =
          let one = account_back p.body small (whole k refl) in (
            Inquiry (account_of (get_or p.body 0 0)),
            record { asked = rw k; same = page_of_parts p k (no_seat k refl) one; fits = small 0 },
          )
      go (suc (suc (suc (suc (suc (suc more)))))) k = absurd (omega arith)
