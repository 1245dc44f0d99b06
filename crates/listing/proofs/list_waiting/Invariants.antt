-- The loop keeps at the front of the buffer the accounts before `i` at which a slip waits, and behind
-- them what the buffer held before.
use Rattle.layout.specs.Layout.{ledger_in}
use Rattle.listing.proofs.Waiters.{ListedBelow}
use Rattle.listing.proofs.list_waiting.Given as goal

abbrev pub invariant-loop-i : goal.invariant-loop-i
invariant-loop-i l = ListedBelow (ledger_in l.words) l.initial.buffer l.i l.n l.buffer
