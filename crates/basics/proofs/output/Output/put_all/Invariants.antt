-- The bytes before the index are written.
use Rattle.std.proofs.Common.{drop}
use Rattle.basics.proofs.Writing.{Pieces}
use Rattle.basics.proofs.output.Output.put_all.Given as goal

abbrev pub invariant-loop-b : goal.invariant-loop-b
invariant-loop-b l = Pieces l.initial.self l.bytes (drop l.b-index l.bytes) l.b-index (record l.self { filled = l.filled })
