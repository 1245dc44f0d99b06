-- What is left at a turn is one number, and the others.
use Rattle.std.proofs.Common.{ap, arith}
use Rattle.std.proofs.lemmas.List.{drop_more, drop_all}
use Rattle.model.specs.Writing.{word_bytes}
use Rattle.laws.proofs.Numbers.{words_length}
use Rattle.writer.proofs.Numbers.{number_bytes_4}
use Rattle.writer.proofs.sinks.put_words.Goals as goal

pub loop-word-preserved : goal.loop-word-preserved
loop-word-preserved g c = λ final rest.
    let words = c.args.words.now in
    let i = c.loop-word.word-index in
    let word = rw (c.to_le_bytes.ensures, number_bytes_4) at c.put_all.ensures in
    c.loop-word.invariant final (rw (drop_more words i 0 (omega arith)) (g.met.S.Sink.then _ _ _ _ _ word rest))

pub returns : goal.returns
returns g c =
    let none = ap word_bytes (drop_all c.loop-word.word-index c.args.words.now c.loop-word-test.false) in
    (c.loop-word.invariant _ (rw none (g.met.S.Sink.nothing _)), omega (arith, words_length c.args.words.now))
