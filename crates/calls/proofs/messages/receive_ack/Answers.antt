-- A late P, or the ack is in time.
use Rattle.calls.proofs.Taking.{proposes_late}
use borrow.Author.Rules.{rules}
use Rattle.calls.proofs.messages.receive_ack.Goals as goal

pub returns-in-Some : goal.returns-in-Some
returns-in-Some c = search (rules, proposes_late)
