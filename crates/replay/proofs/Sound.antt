-- What a sound bundle tells, and what words are that a page was opened in.
use Rattle.std.specs.Prelude.{Result, MatchResult, IsErrAnd, Ok, Err}
use Rattle.std.proofs.lemmas.Result.{err_from_is_err_and}
use Prim.Native.Nat.{ℕ, ◌≤◌}
use native.Mathlib.Omega.{arith}
use mathlib.Core.Path.{◌≡◌, refl, ap, sym, ◌∙◌}
use mathlib.Core.List.{List}
use Rattle.model.specs.Bundles.{entry_count, check_bundle, opening_of}
use Rattle.model.specs.Openings.{open_reply}
use Rattle.model.specs.declared.BundleError.{BundleError}
use Rattle.model.specs.declared.Opening.{Opening}
use Rattle.model.specs.declared.Refusal.{Refusal}
use Rattle.model.specs.Types.{OpenReply}
use Rattle.model.specs.Records.{fresh_ledger}
use Rattle.laws.proofs.Opened.{opened_fresh}
use Rattle.laws.proofs.Sums.{impossible}
use Rattle.layout.specs.Layout.{ledger_in}
use Rattle.opening.specs.Promises.{Opens}
use Rattle.bundle.proofs.Longest.{few_entries}
use Rattle.reader.specs.Promises.{opening_body}
use Rattle.reader.proofs.Pages.{opens_with}
use Rattle.replay.specs.Text.{opening_page, opened}
use Rattle.replay.specs.Promises.{opened_by, OpensBook}

-- it has from 1 to 1,000 entries
pub sound_count : (bytes : List ℕ) (m : ℕ) → check_bundle bytes ≡ Ok m → (m ≡ entry_count bytes) × (1 ≤ entry_count bytes) × (entry_count bytes ≤ 1_000)
sound_count bytes m sound =
    let few = few_entries bytes m sound in
    (few.0, omega (arith, few.0, few.1), omega (arith, few.0, few.2))

-- a page that opened left its ledger
pub fresh_words : (before after : List ℕ) (page : Opening) (r : OpenReply) → Opens before page r after → r ≡ Ok tt → ledger_in after ≡ fresh_ledger page
fresh_words before after page r answer opens = answer.ledger ∙ opened_fresh page (sym answer.reply ∙ opens) (ledger_in before)

-- What page 0 of a sound bundle opens: a fresh book, or nothing, by a refusal that names entry 0.
module _ (bytes : List ℕ) {m : ℕ} (sound : check_bundle bytes ≡ Ok m) {before after : List ℕ} {page : Opening} (read : page ≡ opening_of (opening_body bytes))
    {r : OpenReply} (answer : Opens before page r after) where
  is_page : page ≡ opening_page bytes
  is_page = read ∙ ap opening_of (opens_with bytes (sound_count bytes m sound).1)

  answers : r ≡ opened bytes
  answers = answer.reply ∙ ap open_reply is_page

  pub page_opens : r ≡ Ok tt → (opened_by (check_bundle bytes) (opened bytes) ≡ Ok tt) × (ledger_in after ≡ fresh_ledger (opening_page bytes))
  page_opens is = (rw (sound, ← answers, is) refl, fresh_words before after page r answer is ∙ ap fresh_ledger is_page)

  pub page_refused : {q : Refusal} → r ≡ Err q → opened_by (check_bundle bytes) (opened bytes) ≡ Err (record { refusal = q; entry = 0 })
  page_refused is = rw (sound, ← answers, is) refl

  -- so what is told of the answer, with the entry of a refusal, is what page 0 opens
  pub opens_book : {told : Result (Unit {0}) BundleError}
      → MatchResult r (λ u. told ≡ Ok tt) (λ q. IsErrAnd told (λ e. e ≡ record { refusal = q; entry = 0 })) → OpensBook bytes before told after
  opens_book {told} tells = go r refl tells
    where
      go : (s : OpenReply) → r ≡ s → MatchResult s (λ u. told ≡ Ok tt) (λ q. IsErrAnd told (λ e. e ≡ record { refusal = q; entry = 0 }))
          → OpensBook bytes before told after
      go (Ok u) is this =
          let page = page_opens is in
          record { meets = this ∙ sym page.0; fresh = λ opens. page.1; kept = λ e refused. impossible (cc) }
      go (Err q) is this =
          let e = err_from_is_err_and told this in
          record { meets = e.1 ∙ (ap Err e.2 ∙ sym (page_refused is)); fresh = λ opens. impossible (cc); kept = λ f refused. answer.kept q is }
