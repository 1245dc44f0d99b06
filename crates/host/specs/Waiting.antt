-- The waiting list, told as one number.
use Rattle.std.specs.Prelude.{ℕ, ◌*◌, ◌≡◌, List, Option, Ok, Err}
use Rattle.model.specs.declared.Refusal.{Refusal}
use Rattle.model.specs.Types.{ListReply}
use Rattle.model.specs.Replies.{code_of}
use Rattle.model.specs.Calls.{list_reply, list_buffer}

-- how many accounts were written, or 256 times the code of the refusal
abbrev pub number_of : ListReply → ℕ
number_of (Ok n) = n
number_of (Err r) = 256 * code_of r

-- A list of these accounts, given the refusal that it meets, if any: the number of its reply, and the buffer after
-- it, given the buffer before it.
pub record ToldList (q : Option Refusal) (accounts before : List ℕ) (r : ℕ) (after : List ℕ) : Type 0 where
  pub told : r ≡ number_of (list_reply q accounts)
  pub buffer : after ≡ list_buffer (list_reply q accounts) accounts before
