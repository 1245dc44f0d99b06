-- The leader of all seats is the one that is put forward.
use Rattle.std.proofs.Common.{refl, ap, ◌∙◌, arith, rules}
use Rattle.std.proofs.lemmas.Iterator.{YieldsList-from_range, YieldsList-from_map}
use Rattle.std.proofs.lemmas.Iterator.Consumers.{fold_from_yields_List}
use Rattle.model.specs.Records.{seat_of}
use Rattle.layout.specs.Layout.{entry_in}
use Rattle.layout.proofs.Entries.{acks_length}
use Rattle.tally.specs.declared.Leader.{Leader}
use Rattle.tally.proofs.Leaders.{no_leader, next, led_last}
use Rattle.tally.proofs.most_acked.Goals as goal

pub returns : goal.returns
returns c =
    let acks = (entry_in c.args.words.now c.args.t.account).acks in
    let number = c.args.t.number in
    ap (λ (l : Leader). l.transfer)
    (fold_from_yields_List _ (next acks number) (no_leader acks number) c.fold.result c.fold.ensures.ran
    (YieldsList-from_map _ seat_of (YieldsList-from_range 0 16 16 c.map.ensures.source refl) c.map.ensures.closure (λ x r q k. search rules))
    (λ a x b q k. search rules))
    ∙ led_last acks number 16 (omega (arith, acks_length c.args.words.now c.args.t.account))
