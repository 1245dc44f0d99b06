-- Document 01: a slip is account (who pays), number, value, recipient.
use Rattle.std.specs.Prelude.{Bool, not, ◌&&◌, eqb}
use Rattle.model.specs.Types.{Account, Transfer}

abbrev pub same_account : Account → Account → Bool
same_account a b = eqb a.0 b.0

-- a slip with this account and number
abbrev pub same_number : Transfer → Transfer → Bool
same_number t u = same_account t.account u.account && eqb t.number u.number

-- "Two slips are equal if all four are."
unfoldable pub equal : Transfer → Transfer → Bool
equal t u = same_number t u && eqb t.value u.value && same_account t.recipient u.recipient

-- "They conflict if account and number are equal and the slips are not."
unfoldable pub conflict : Transfer → Transfer → Bool
conflict t u = same_number t u && not (equal t u)
