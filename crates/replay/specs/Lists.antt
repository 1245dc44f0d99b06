-- The waiting list of the ledger that a bundle leaves. No bundle asks for it; a host may, behind the last entry.
use Rattle.std.specs.Prelude.{ℕ, ◌-◌, List, Option, Some, Err, Ok}
use Rattle.model.specs.Types.{Ledger}
use Rattle.model.specs.declared.Refusal.{Refusal}
use Rattle.model.specs.Types.{ListReply}
use Rattle.model.specs.Types.{OpenReply}
use Rattle.model.specs.Types.{BundleReply}
use Rattle.model.specs.Records.{fresh_ledger}
use Rattle.model.specs.Refusals.{list_refusal}
use Rattle.model.specs.Bundles.{entry_count, check_bundle}
use Rattle.model.specs.Calls.{waiting_accounts}
use Rattle.ledger.specs.Promises.{ListedBy}
use Rattle.replay.specs.Text.{ledger_from, opening_page, opened}

-- the accounts at which a slip waits once the bundle's entries are played on this ledger; and
-- on the one that its page opens
abbrev pub accounts_from : List ℕ → Ledger → List ℕ
accounts_from bytes l = waiting_accounts (ledger_from bytes (entry_count bytes - 1) 1 l)

unfoldable pub accounts_behind : List ℕ → List ℕ
accounts_behind bytes = accounts_from bytes (fresh_ledger (opening_page bytes))

-- the refusal of an opening; and of a bundle; where there is none, one that is tried later
abbrev pub opening_refusal_or : Option Refusal → OpenReply → Option Refusal
opening_refusal_or later (Err r) = Some r
opening_refusal_or later (Ok u) = later

abbrev pub bundle_refusal_or : Option Refusal → BundleReply → Option Refusal
bundle_refusal_or later (Err e) = Some e.refusal
bundle_refusal_or later (Ok m) = later

-- the refusal that the list behind a sound bundle meets: its opening's, else 17; and behind any
-- bundle: that of the bundle first
abbrev pub sound_refusal : List ℕ → List ℕ → Option Refusal
sound_refusal bytes before = opening_refusal_or (list_refusal before) (opened bytes)

unfoldable pub refusal_behind : List ℕ → List ℕ → Option Refusal
refusal_behind bytes before = bundle_refusal_or (sound_refusal bytes before) (check_bundle bytes)

-- the list behind a sound bundle
abbrev pub SoundList : List ℕ → List ℕ → ListReply → List ℕ → Type 0
SoundList bytes before r after = ListedBy (sound_refusal bytes before) (accounts_behind bytes) before r after

-- The list behind a bundle: the reply, and the buffer after it, given the buffer before it.
abbrev pub ListOf : List ℕ → List ℕ → ListReply → List ℕ → Type 0
ListOf bytes before r after = ListedBy (refusal_behind bytes before) (accounts_behind bytes) before r after
