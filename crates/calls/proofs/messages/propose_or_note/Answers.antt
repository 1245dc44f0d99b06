-- The tally decides: P, else N.
use mathlib.Core.Path.{refl, sym, ◌∙◌}
use Rattle.tally.proofs.Nexts.{most_next}
use Rattle.calls.proofs.Taking.{tally_proposes}
use Rattle.calls.proofs.messages.propose_or_note.Goals as goal

pub returns-then-must_propose : goal.returns-then-must_propose
returns-then-must_propose c =
    let ws = c.args.words.now in
    let t = c.args.t in
    record {
      decided = λ next among tally few.
          tally_proposes ws t c.args.tally tally few _ _
          (sym (c.must_propose.ensures.decided t refl next.number tally (rw tally among)) ∙ c.if-must_propose.true)
          (most_next ws t _ next.number among c.most_acked-most.ensures) c.put_proposed.ensures;
    }
