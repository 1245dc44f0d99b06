-- The book that a host lends: an opening and a message, told in numbers.
use Rattle.std.specs.Prelude.{ℕ, ◌≡◌, ◌≢◌, List, ◌∷◌, ◌++◌, take, replicate, Err}
use Rattle.model.specs.declared.Refusal.{Refusal}
use Rattle.model.specs.declared.Reply.{Reply}
use Rattle.model.specs.declared.Reply.TheVariants.{Refuse}
use Rattle.model.specs.Records.{fresh_ledger}
use Rattle.model.specs.Types.{OpenReply}
use Rattle.model.specs.Refusals.{first_refusal, check_of}
use Rattle.model.specs.Replies.{letter_of, values_of}
use Rattle.model.specs.Bundles.{Page, opening_of}
use Rattle.model.specs.Openings.{open_ledger_by}
use Rattle.layout.specs.Layout.{ledger_in}
use Rattle.ledger.specs.Promises.{code_if_any}
use Rattle.host.specs.Handing.{answer, opening_rules}

-- An opening from a page's bytes: the code, 0 where there is none, and the ledger after it. "A refusal .. changes
-- nothing": not one of the words.
pub record ToldOpening (before page : List ℕ) (r : ℕ) (after : List ℕ) : Type 0 where
  pub code : r ≡ code_if_any (first_refusal (opening_rules page))
  pub ledger : ledger_in after ≡ open_ledger_by (first_refusal (opening_rules page)) (fresh_ledger (opening_of page)) (ledger_in before)
  pub kept : r ≢ 0 → after ≡ before

-- The same, answered by the refusal.
pub record OpenedHanded (before page : List ℕ) (r : OpenReply) (after : List ℕ) : Type 0 where
  pub reply : r ≡ check_of (first_refusal (opening_rules page))
  pub ledger : ledger_in after ≡ open_ledger_by (first_refusal (opening_rules page)) (fresh_ledger (opening_of page)) (ledger_in before)
  pub kept : (code : Refusal) → r ≡ Err code → after ≡ before

-- the five words of a reply: the letter, what the reply carries, and zeros
abbrev pub reply_words : Reply → List ℕ
reply_words r = take 5 (letter_of r ∷ values_of r ++ replicate 5 0)

-- The answer to what is handed over: the reply, and the ledger after it; a refusal leaves every word as it was.
pub record AnsweredAs (before : List ℕ) (p : Page) (r : Reply) (after : List ℕ) : Type 0 where
  pub reply : r ≡ (answer (ledger_in before) p).reply
  pub ledger : ledger_in after ≡ (answer (ledger_in before) p).next
  pub kept : (code : Refusal) → r ≡ Refuse code → after ≡ before

-- One message, of a kind, a seat and a body as a bundle has them: the words of the reply,
-- and those of the book after it.
pub record ToldCall (before : List ℕ) (p : Page) (after replied : List ℕ) : Type 0 where
  pub told : replied ≡ reply_words (answer (ledger_in before) p).reply
  pub answered : AnsweredAs before p (answer (ledger_in before) p).reply after
