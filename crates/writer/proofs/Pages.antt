-- One page: what is written of it is read, how long its body is, that its entry is right wherever it
-- stands, and that all of it is bytes.
use Rattle.std.specs.Prelude.{Some}
use Prim.Native.Nat.{ℕ, suc, ◌≤◌, ◌<◌}
use native.Mathlib.Omega.{arith}
use mathlib.Core.Path.{◌≡◌, refl, ap, sym, ◌∙◌}
use mathlib.Core.Bool.{false}
use mathlib.Core.List.{[], ◌∷◌, ◌++◌, append-nil}
use lib.Dec.{eqb-suc-zero}
use lib.ListN.{length}
use borrow.Author.Tests.{eq-eqb}
use Rattle.model.specs.declared.Transfer.{Transfer}
use Rattle.model.specs.declared.Opening.{Opening}
use Rattle.model.specs.declared.Message.{Message}
use Rattle.model.specs.declared.Message.TheVariants.{Request, Circulated, Ack, Decision, Inquiry}
use Rattle.model.specs.Bundles.{body_length, Page, wrong_entry, words_from, opening_of, transfer_of, message_of}
use Rattle.model.specs.Writing.{number_bytes, Bytes, word_bytes, page_zero, transfer_bytes, message_page}
use Rattle.laws.proofs.Numbers.{number_read, number_bytes_lem, no_bytes, one_byte, more_bytes, words_length, words_read, word_bytes_lem}
use Rattle.writer.specs.RoundTrips.{TransferFits, MessageFits, OpeningFits}

-- a transfer's ten bytes
pub transfer_read : (t : Transfer) → TransferFits t → transfer_of (transfer_bytes t) ≡ t
transfer_read t fits =
    let rest = number_bytes 4 t.value ++ (t.recipient.0 ∷ []) in
    rw (
      number_read 4 t.number 1 (transfer_bytes t) rest fits.number refl,
      number_read 4 t.value 5 (transfer_bytes t) (t.recipient.0 ∷ []) fits.value refl,
    )

-- a message is read as it was written
pub message_read : (m : Message) → MessageFits m → message_of (message_page m) ≡ Some m
message_read (Request t) fits = rw (transfer_read t fits)
message_read (Circulated t) fits = rw (transfer_read t fits)
message_read (Ack s t) fits = rw (transfer_read t fits.1)
message_read (Decision t) fits = rw (transfer_read t fits)
message_read (Inquiry a) fits = refl

-- an opening page is read as it was written
pub opening_read : (o : Opening) → OpeningFits o → opening_of (page_zero o).body ≡ o
opening_read o fits =
    let balances : words_from 32 3 (page_zero o).body ≡ o.balances =
    ap (λ n. words_from n 3 (page_zero o).body) (sym fits.count)
    ∙ words_read o.balances 3 (page_zero o).body [] fits.balances (sym (append-nil (word_bytes o.balances))) in
    ap (λ bs. record { seats = o.seats; faults = o.faults; accounts = o.accounts; balances = bs }) balances

-- What a page has wherever it stands in a bundle: a body of its kind's length, and an
-- entry that is right with its start.
pub record Right (i : ℕ) (p : Page) : Type 0 where
  pub size : length p.body ≡ body_length p.kind
  pub entry : (start sum : ℕ) → wrong_entry i start (record { kind = p.kind; seat = p.seat; start = start; sum = sum }) ≡ false

pub opening_right : (o : Opening) → length o.balances ≡ 32 → Right 0 (page_zero o)
opening_right o count =
    record { size = omega (arith, words_length o.balances); entry = λ start sum. rw (eq-eqb start start refl) }

pub message_right : (m : Message) (i : ℕ) → Right (suc i) (message_page m)
message_right (Request t) i = record { size = refl; entry = λ start sum. rw (eqb-suc-zero i, eq-eqb start start refl) }
message_right (Circulated t) i = record { size = refl; entry = λ start sum. rw (eqb-suc-zero i, eq-eqb start start refl) }
message_right (Ack s t) i = record { size = refl; entry = λ start sum. rw (eqb-suc-zero i, eq-eqb start start refl) }
message_right (Decision t) i = record { size = refl; entry = λ start sum. rw (eqb-suc-zero i, eq-eqb start start refl) }
message_right (Inquiry a) i = record { size = refl; entry = λ start sum. rw (eqb-suc-zero i, eq-eqb start start refl) }

-- a message's body has at most ten bytes
pub message_short : (m : Message) → length (message_page m).body ≤ 10
message_short (Request t) = omega arith
message_short (Circulated t) = omega arith
message_short (Ack s t) = omega arith
message_short (Decision t) = omega arith
message_short (Inquiry a) = omega arith

-- What of a page is written is bytes.
pub record PageBytes (p : Page) : Type 0 where
  pub kind : p.kind < 256
  pub seat : p.seat < 256
  pub body : Bytes p.body

transfer_bytes_lem : (t : Transfer) → TransferFits t → Bytes (transfer_bytes t)
transfer_bytes_lem t fits =
    let recipient = t.recipient.0 ∷ [] in
    let value = number_bytes 4 t.value ++ recipient in
    let number = number_bytes 4 t.number ++ value in
    one_byte t.account.0 fits.account number
    (more_bytes (number_bytes 4 t.number) value (number_bytes_lem 4 t.number)
    (more_bytes (number_bytes 4 t.value) recipient (number_bytes_lem 4 t.value)
    (one_byte t.recipient.0 fits.recipient [] no_bytes)))

pub message_bytes : (m : Message) → MessageFits m → PageBytes (message_page m)
message_bytes (Request t) fits = record { kind = omega arith; seat = omega arith; body = transfer_bytes_lem t fits }
message_bytes (Circulated t) fits = record { kind = omega arith; seat = omega arith; body = transfer_bytes_lem t fits }
message_bytes (Ack s t) fits = record { kind = omega arith; seat = fits.0; body = transfer_bytes_lem t fits.1 }
message_bytes (Decision t) fits = record { kind = omega arith; seat = omega arith; body = transfer_bytes_lem t fits }
message_bytes (Inquiry a) fits = record { kind = omega arith; seat = omega arith; body = one_byte a.0 fits [] no_bytes }

pub opening_bytes : (o : Opening) → OpeningFits o → PageBytes (page_zero o)
opening_bytes o fits =
    let balances = word_bytes o.balances in
    record {
      kind = omega arith;
      seat = omega arith;
      body =
          one_byte o.seats fits.seats (o.faults ∷ o.accounts ∷ balances)
          (one_byte o.faults fits.faults (o.accounts ∷ balances)
          (one_byte o.accounts fits.accounts balances (word_bytes_lem o.balances)));
    }
