-- The waiting list behind a bundle.
use Rattle.std.specs.Prelude.{Some, Result, Ok, Err}
use Prim.Native.Nat.{ℕ}
use mathlib.Core.Path.{◌≡◌, refl, ap, sym, subst, ◌∙◌}
use mathlib.Core.List.{List}
use Rattle.laws.proofs.Sums.{impossible}
use Rattle.model.specs.Types.{Ledger, ListReply, OpenReply, BundleReply}
use Rattle.model.specs.declared.BundleError.{BundleError}
use Rattle.model.specs.declared.Refusal.{Refusal}
use Rattle.model.specs.Refusals.{list_refusal}
use Rattle.model.specs.Replies.{values_of_list}
use Rattle.model.specs.Bundles.{check_bundle}
use Rattle.basics.specs.declared.output.Output.{Output}
use Rattle.layout.specs.Layout.{ledger_in}
use Rattle.ledger.specs.Promises.{ListedBy, ListedAs}
use Rattle.replay.specs.Text.{opened}
use Rattle.replay.specs.Promises.{opened_by, OpensBook, PlayedAll}
use Rattle.replay.specs.Lists.{accounts_behind, bundle_refusal_or, sound_refusal, refusal_behind, ListOf}

-- a list that meets a refusal tells it, and leaves the buffer
refused_list : (q : Refusal) (accounts before : List ℕ) (r : ListReply) (after : List ℕ) → r ≡ Err q → after ≡ before → ListedBy (Some q) accounts before r after
refused_list q accounts before r after told kept = record { lists = record { reply = told; buffer = rw told kept }; told = ap values_of_list told }

-- the list of the ledger that is held once the entries are played
pub list_played : {before after : List ℕ} {r : ListReply} (l k : Ledger) → l ≡ k → ListedAs l before r after → ListedAs k before r after
list_played {before = before} {after = after} {r = r} l k same h = subst (λ (x : Ledger). ListedAs x before r after) same h

-- the refusal that a list meets: the bundle's, else the opening's, else the list's own
module _ (bytes before : List ℕ) where
  met_bundle : {e : BundleError} → check_bundle bytes ≡ Err e → refusal_behind bytes before ≡ Some e.refusal
  unfolding refusal_behind
  met_bundle checked = ap (bundle_refusal_or (sound_refusal bytes before)) checked

  met_opening : {m : ℕ} {q : Refusal} → check_bundle bytes ≡ Ok m → opened bytes ≡ Err q → refusal_behind bytes before ≡ Some q
  unfolding refusal_behind
  met_opening checked answer = rw (checked, answer) refl

  met_list : {m : ℕ} → check_bundle bytes ≡ Ok m → opened bytes ≡ Ok tt → refusal_behind bytes before ≡ list_refusal before
  unfolding refusal_behind
  met_list checked answer = rw (checked, answer) refl

-- what opens is sound, and so is its opening
both_sound : (c : BundleReply) (o : OpenReply) → opened_by c o ≡ Ok tt → (m : ℕ) × (c ≡ Ok m) × (o ≡ Ok tt)
both_sound (Err e) o h = impossible (cc)
both_sound (Ok m) (Err r) h = impossible (cc)
both_sound (Ok m) (Ok u) h = (m, refl, refl)

module _ (bytes before : List ℕ) {held words : List ℕ} {opening : Result (Unit {0}) BundleError} (opens : OpensBook bytes held opening words) where
  -- behind a bundle, or an opening, that is refused
  pub list_refused : {e : BundleError} → opening ≡ Err e → ListOf bytes before (Err e.refusal) before
  list_refused {e} is =
      rw (go (check_bundle bytes) (opened bytes) refl refl (sym opens.meets ∙ is))
      (refused_list e.refusal (accounts_behind bytes) before (Err e.refusal) before refl refl)
    where
      go : (c : BundleReply) (o : OpenReply) → check_bundle bytes ≡ c → opened bytes ≡ o → opened_by c o ≡ Err e → refusal_behind bytes before ≡ Some e.refusal
      go (Err x) o checked answer h = let same : x ≡ e = cc in rw (← same) (met_bundle bytes before checked)
      go (Ok m) (Err q) checked answer h =
          let same : record { refusal = q; entry = 0 } ≡ e = cc in rw (← same) (met_opening bytes before checked answer)
      go (Ok m) (Ok u) checked answer h = impossible (cc)

  -- behind one that opens: of the ledger that its entries leave
  pub list_opened : {left after : List ℕ} {r : ListReply} {from to : Output} → opening ≡ Ok tt → PlayedAll bytes words left from to
      → ListedAs (ledger_in left) before r after → ListOf bytes before r after
  unfolding accounts_behind
  list_opened is played h =
      let sound = both_sound (check_bundle bytes) (opened bytes) (sym opens.meets ∙ is) in
      rw (met_list bytes before sound.1 sound.2, ← opens.fresh is) (list_played _ _ played.ledger h)
