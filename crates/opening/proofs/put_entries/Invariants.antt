-- The invariant: the accounts before `i` are at opening, and all but the entries is as it was.
use Rattle.opening.proofs.Fresh.{Freshened}
use Rattle.opening.proofs.put_entries.Given as goal

abbrev pub invariant-loop-i : goal.invariant-loop-i
invariant-loop-i l = Freshened l.initial.words l.balances l.words l.i
