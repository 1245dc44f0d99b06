-- The whole text, put together: of the bundle's entries, of a refused opening, of a refused bundle.
use Rattle.std.specs.Prelude.{Result, Ok, Err}
use Prim.Native.Nat.{ℕ, ◌-◌, ◌≤◌}
use native.Mathlib.Omega.{arith}
use mathlib.Core.Path.{◌≡◌, refl, sym, subst, ◌∙◌}
use mathlib.Core.List.{List}
use lib.ListN.{length, take, drop, length-append}
use lib.Seq.{take-append_seam}
use Rattle.model.specs.Types.{OpenReply, BundleReply}
use Rattle.model.specs.declared.BundleError.{BundleError}
use Rattle.model.specs.Records.{fresh_ledger}
use Rattle.model.specs.Bundles.{entry_count, check_bundle}
use Rattle.model.specs.Replies.{code_of}
use Rattle.basics.specs.declared.output.Output.{Output}
use Rattle.basics.specs.Outputs.{Appends}
use Rattle.basics.proofs.Writing.{then, within, whole}
use Rattle.text.specs.Lines.{refusal_line}
use Rattle.layout.specs.Layout.{ledger_in}
use Rattle.replay.specs.Text.{closing, played_text, opening_page, opened, text_of}
use Rattle.replay.specs.Promises.{closing_most, text_most, opened_by, OpensBook, Replayed, PlayedAll}
use Rattle.replay.proofs.Sound.{sound_count}

-- what the text is, by what keeps page 0 from opening, if anything does
abbrev Told : List ℕ → Result (Unit {0}) BundleError → Type 0
Told bytes (Err e) = text_of bytes ≡ refusal_line (code_of e.refusal) e.entry
Told bytes (Ok u) =
    (text_of bytes ≡ played_text bytes (entry_count bytes - 1) (fresh_ledger (opening_page bytes))) × (entry_count bytes ≤ 1_000)

told : (bytes : List ℕ) → Told bytes (opened_by (check_bundle bytes) (opened bytes))
told bytes = go (check_bundle bytes) (opened bytes) refl refl
  where
    go : (c : BundleReply) (o : OpenReply) → check_bundle bytes ≡ c → opened bytes ≡ o → Told bytes (opened_by c o)
    go (Err e) o checked answer = rw checked refl
    go (Ok m) (Err r) checked answer = rw (checked, answer) refl
    go (Ok m) (Ok u) checked answer =
        let count = sound_count bytes m checked in
        (rw (checked, answer, count.0) refl, count.2)

module _ (bytes : List ℕ) {held words : List ℕ} {r : Result (Unit {0}) BundleError} (opens : OpensBook bytes held r words) where
  module _ (is : r ≡ Ok tt) where
    text_is : (text_of bytes ≡ played_text bytes (entry_count bytes - 1) (fresh_ledger (opening_page bytes))) × (entry_count bytes ≤ 1_000)
    text_is = subst (λ x. Told bytes x) (sym opens.meets ∙ is) (told bytes)

    -- a bundle that opens has few entries,
    pub few_opened : entry_count bytes ≤ 1_000
    few_opened = text_is.1

    -- and its text is their lines, and behind them the closing lines of the ledger that they leave
    pub told_opened : {left : List ℕ} {before mid after : Output} → PlayedAll bytes words left before mid
        → Appends mid (closing (ledger_in left)) closing_most after → Appends before (text_of bytes) text_most after
    told_opened played closes =
        rw (text_is.0, ← opens.fresh is) (rw (← played.ledger) (within (omega arith) (then played.writes closes)))

  -- the text of a bundle, or an opening, that is refused
  pub told_refused : {e : BundleError} → r ≡ Err e → {code : ℕ} → code ≡ code_of e.refusal → {before after : Output}
      → Appends before (refusal_line code e.entry) 24 after → Appends before (text_of bytes) text_most after
  told_refused {e} is code_is w =
      let text : text_of bytes ≡ refusal_line (code_of e.refusal) e.entry = subst (λ x. Told bytes x) (sym opens.meets ∙ is) (told bytes) in
      rw text (within (omega arith) (rw code_is at w))

-- every text fits
pub replayed : {text buffer : List ℕ} {before after : Output} → before.buffer.now ≡ buffer → before.filled ≡ 0 → length buffer ≡ text_most
    → Appends before text text_most after → Replayed text buffer after.buffer.now after.filled
replayed {text} {buffer} is front size w =
    let fits : length text ≤ length buffer = omega (arith, w.writes.short) in
    let all = whole (rw (is, front) at w.writes) fits in
    record { front = all.0; size = all.1; fits = fits }

-- the text stands inside the buffer, and the part of it that is replied is the text
module _ {text before after : List ℕ} {r : ℕ} (w : Replayed text before after r) where
  pub inside : r ≤ length after
  inside = rw (w.front, w.size, length-append) (omega arith)

  pub is_text : take r after ≡ text
  is_text = rw (w.front, w.size) (take-append_seam text (drop (length text) before))
