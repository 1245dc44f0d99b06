-- With the numbers that are left, all of them are taken.
use Rattle.std.proofs.Common.{drop}
use Rattle.model.specs.Writing.{word_bytes}
use Rattle.writer.proofs.sinks.put_words.Given as goal

abbrev pub invariant-loop-word : goal.invariant-loop-word
invariant-loop-word g l =
    (final : g.row.S.Denot) → g.S.Sink.takes l.to (word_bytes (drop l.word-index l.words)) final
    → g.S.Sink.takes l.initial.to (word_bytes l.words) final
