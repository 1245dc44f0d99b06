-- The sum of what is left, begun with the sum so far, is the sum of all.
use Rattle.std.proofs.Common.{◌≡◌, drop}
use Rattle.model.specs.Bundles.{sum_from}
use Rattle.writer.proofs.sinks.SumSink.put_all.Given as goal

abbrev pub invariant-loop-b : goal.invariant-loop-b
invariant-loop-b l = sum_from l.self.0 (drop l.b-index l.bytes) ≡ sum_from l.initial.self.0 l.bytes
