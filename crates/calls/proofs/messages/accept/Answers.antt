-- The slip is retained and waits, and what settling leaves is what the model says.
use Rattle.calls.proofs.Taking.{retained_waits, settled}
use Rattle.calls.proofs.messages.accept.Goals as goal

pub returns : goal.returns
returns c =
    let waits = c.put_pending in
    let kept = c.put_retained in
    record {
      settled =
          λ value.
          settled c.args.words.now _ _ c.args.t _
          (retained_waits c.args.words.now _ _ c.args.t (kept.ensures.retained value) (waits.ensures.waits value))
          c.settle_all.ensures;
    }
