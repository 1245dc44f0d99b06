-- The invariant: the accounts before `i` are what the held ones become, and all but the entries is as it was.
use Rattle.store.proofs.Entering.{Entered}
use Rattle.switching.proofs.Accounts.{wanted}
use Rattle.switching.proofs.take_accounts.Given as goal

abbrev pub invariant-loop-i : goal.invariant-loop-i
invariant-loop-i l = Entered l.initial.words (wanted l.held) l.words l.i
