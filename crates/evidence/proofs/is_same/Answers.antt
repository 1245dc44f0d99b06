-- Slices of one length are the same where each of their pairs is.
use Rattle.std.proofs.Common.{ne_eqb, length, false, ap, ◌∙◌, rules, tests}
use Rattle.std.proofs.lemmas.Iterator.{YieldsList-from_slice, YieldsList-from_zip, same_from_all}
use Rattle.laws.proofs.Sums.{impossible}
use Rattle.evidence.proofs.Joining.{decided_same}
use Rattle.evidence.proofs.is_same.Goals as goal

pub returns-then-a-b : goal.returns-then-a-b
returns-then-a-b c =
    let a = c.args.a.now in
    let b = c.args.b.now in
    decided_same c.all.result a b
    (same_from_all c.all.new.self _ _ a b c.all.ensures.ran (YieldsList-from_zip (YieldsList-from_slice a cc) (YieldsList-from_slice b cc)) c.if-a-b.true
    (λ x q k. search (rules, tests)) (λ x q k. search (rules, tests)))

pub returns-else-a-b : goal.returns-else-a-b
returns-else-a-b c =
    let a = c.args.a.now in
    let b = c.args.b.now in
    ne_eqb (length a) (length b) c.if-a-b.false ∙ decided_same false a b (λ is. impossible (cc), λ same. absurd (c.if-a-b.false (ap length same)))
