-- A list's reply told as one number.
use Rattle.std.specs.Prelude.{Option}
use Prim.Native.Nat.{ℕ}
use mathlib.Core.Path.{◌≡◌, ap, ◌∙◌}
use mathlib.Core.List.{List}
use Rattle.model.specs.declared.Refusal.{Refusal}
use Rattle.model.specs.Types.{ListReply}
use Rattle.model.specs.Calls.{list_reply, list_buffer}
use Rattle.ledger.specs.Promises.{ListedBy}
use Rattle.host.specs.Waiting.{number_of}

module _ {q : Option Refusal} {accounts before : List ℕ} (r : ListReply) (after : List ℕ) (h : ListedBy q accounts before r after) where
  pub told_number : (n : ℕ) → n ≡ number_of r → n ≡ number_of (list_reply q accounts)
  told_number n is = is ∙ ap number_of h.lists.reply

  pub told_buffer : after ≡ list_buffer (list_reply q accounts) accounts before
  told_buffer = h.lists.buffer ∙ ap (λ (x : ListReply). list_buffer x accounts before) h.lists.reply
