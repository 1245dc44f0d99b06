-- The loop over the entries keeps `PlayedTo`, of the ledger that the words are.
use Prim.Native.Nat.{◌-◌}
use Rattle.model.specs.Bundles.{entry_count}
use Rattle.layout.specs.Layout.{ledger_in}
use Rattle.replay.proofs.Playing.{PlayedTo}
use Rattle.replay.proofs.play.Given as goal

abbrev pub invariant-loop-c : goal.invariant-loop-c
invariant-loop-c l = PlayedTo l.bytes (ledger_in l.initial.words) l.initial.out l.cursor.next (ledger_in l.words) l.out

abbrev pub decreases-loop-c : goal.decreases-loop-c
decreases-loop-c l = entry_count l.bytes - l.cursor.next
