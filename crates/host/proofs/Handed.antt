-- What is handed over: the refusal that it meets, or what the page that it is comes to.
use Rattle.std.specs.Prelude.{Option, Some, None, Ok, Err, Result}
use Prim.Native.Nat.{ℕ}
use mathlib.Core.Path.{◌≡◌, refl, ap, sym, ◌∙◌}
use mathlib.Core.Logic.{◌≢◌}
use mathlib.Core.Bool.{Bool, true, false, cond}
use mathlib.Core.List.{List, [], ◌∷◌}
use lib.ListN.{get_or}
use Rattle.model.specs.declared.Opening.{Opening}
use Rattle.model.specs.declared.Message.{Message}
use Rattle.model.specs.declared.Refusal.{Refusal}
use Rattle.model.specs.declared.Refusal.TheVariants.{BadContents, BadEnd}
use Rattle.model.specs.declared.Reply.{Reply}
use Rattle.model.specs.declared.Reply.TheVariants.{Refuse}
use Rattle.model.specs.Types.{OpenReply}
use Rattle.model.specs.Types.{Ledger, Outcome}
use Rattle.model.specs.Records.{fresh_ledger}
use Rattle.model.specs.Refusals.{first_refusal}
use Rattle.model.specs.Replies.{code_of, values_of_open}
use Rattle.model.specs.Bundles.{Page, wrong_page, opening_of, message_of, message_or}
use Rattle.model.specs.Openings.{open_rules, open_reply, open_ledger_by, open_ledger}
use Rattle.model.specs.Calls.{step}
use Rattle.laws.proofs.Sums.{impossible}
use Rattle.model.specs.Refusals.{check_of}
use Rattle.basics.proofs.ReadBack.{failed, passed}
use Rattle.layout.specs.Layout.{ledger_in}
use Rattle.ledger.specs.Promises.{code_if_any, OpenedAs, Answered}
use Rattle.host.specs.Handing.{wrong_body, handed_rules, handed_refusal, answer_by, answer, opening_rules}
use Rattle.host.specs.Messages.{ToldOpening, OpenedHanded, AnsweredAs}

-- the two tests, and what follows where neither holds
abbrev tests : Bool → Bool → Option Refusal → Option Refusal
tests entry body rest = cond entry (Some BadContents) (cond body (Some BadEnd) rest)

-- the check, by what its tests find
pub by_tests : (i : ℕ) (p : Page) {entry body : Bool} → wrong_page i p ≡ entry → wrong_body p ≡ body
    → check_of (first_refusal (handed_rules i p)) ≡ check_of (tests entry body None)
by_tests i p {entry} is_entry is_IsBody =
    ap (λ (e : Bool). check_of (tests e (wrong_body p) None)) is_entry ∙ ap (λ (b : Bool). check_of (tests entry b None)) is_IsBody

-- a refusal stands whatever follows
found_first : (entry body : Bool) (rest : Option Refusal) (r : Refusal) → tests entry body None ≡ Some r → tests entry body rest ≡ Some r
found_first true body rest r e = e
found_first false true rest r e = e
found_first false false rest r e = impossible (cc)

none_found : (entry body : Bool) (rest : Option Refusal) → tests entry body None ≡ None → tests entry body rest ≡ rest
none_found true body rest e = impossible (cc)
none_found false true rest e = impossible (cc)
none_found false false rest e = refl

-- An opening page that is handed over, and what the check of it found.
module _ (before page : List ℕ) (found : Result (Unit {0}) Refusal) (is : found ≡ check_of (first_refusal (handed_rules 0 (record { kind = 0; seat = 0; body = page })))) where
  abbrev handed : Page
  handed = record { kind = 0; seat = 0; body = page }

  abbrev later : Option Refusal
  later = first_refusal (open_rules (opening_of page))

  abbrev all : Option Refusal
  all = first_refusal (opening_rules page)

  abbrev opened : Option Refusal → Ledger
  opened q = open_ledger_by q (fresh_ledger (opening_of page)) (ledger_in before)

  pub handed_refused : (r : Refusal) → found ≡ Err r → OpenedHanded before page (Err r) before
  handed_refused r failing =
      let e : all ≡ Some r = found_first (wrong_page 0 handed) (wrong_body handed) later r (failed _ r (sym is ∙ failing)) in
      record { reply = ap check_of (sym e); ledger = ap opened (sym e); kept = λ code same. refl }

  -- the page that was read, and what its opening told
  pub handed_opened : found ≡ Ok tt → (o : Opening) (q : OpenReply) (after : List ℕ) → o ≡ opening_of page → OpenedAs before o q after → OpenedHanded before page q after
  unfolding open_reply open_ledger
  handed_opened passing o q after read opens =
      let e : all ≡ later = none_found (wrong_page 0 handed) (wrong_body handed) later (passed _ (sym is ∙ passing)) in
      record {
        reply = opens.opens.reply ∙ ap (λ (page : Opening). check_of (first_refusal (open_rules page))) read ∙ ap check_of (sym e);
        ledger = opens.opens.ledger ∙ ap (λ (page : Opening). open_ledger page (ledger_in before)) read ∙ ap opened (sym e);
        kept = opens.opens.kept;
      }

-- An opening, told in numbers.
module _ {before page : List ℕ} {r : OpenReply} {after : List ℕ} (h : OpenedHanded before page r after) where
  pub told_opened : r ≡ Ok tt → ToldOpening before page 0 after
  told_opened is =
      let none = passed (first_refusal (opening_rules page)) (sym h.reply ∙ is) in
      record { code = ap code_if_any (sym none); ledger = h.ledger; kept = λ differs. absurd (differs refl) }

  pub told_refused : {q : Refusal} {code : ℕ} → r ≡ Err q → code ≡ code_of q → ToldOpening before page code after
  told_refused {q} is code_is =
      let some = failed (first_refusal (opening_rules page)) q (sym h.reply ∙ is) in
      record { code = code_is ∙ ap code_if_any (sym some); ledger = h.ledger; kept = λ differs. h.kept q is }

-- What is handed over as a message, and what the check of it found.
module _ (before : List ℕ) (p : Page) (found : Result (Unit {0}) Refusal) (is : found ≡ check_of (handed_refusal p)) where
  abbrev by : Option Refusal → Outcome
  by q = answer_by q (ledger_in before) (message_or (message_of p))

  pub answer_refused : (r : Refusal) → found ≡ Err r → AnsweredAs before p (Refuse r) before
  answer_refused r failing =
      let e = ap by (sym (failed (handed_refusal p) r (sym is ∙ failing))) in
      record { reply = ap (λ (o : Outcome). o.reply) e; ledger = ap (λ (o : Outcome). o.next) e; kept = λ code same. refl }

  pub answer_played : found ≡ Ok tt → (m : Message) (r : Reply) (after : List ℕ) → m ≡ message_or (message_of p) → Answered before m r after → AnsweredAs before p r after
  answer_played passing m r after read plays =
      let e : step (ledger_in before) m ≡ answer (ledger_in before) p = ap (step (ledger_in before)) read ∙ ap by (sym (passed (handed_refusal p) (sym is ∙ passing))) in
      record {
        reply = plays.reply ∙ ap (λ (o : Outcome). o.reply) e;
        ledger = plays.ledger ∙ ap (λ (o : Outcome). o.next) e;
        kept = plays.kept;
      }
