-- An entry that is no ack, or of no seat, has no partner; an ack's is found by its key.
use Rattle.std.proofs.Common.{sym, ◌∙◌, arith}
use Rattle.pairs.proofs.Partners.{not_ack, not_seat, partner_found}
use Rattle.pairs.proofs.Index.partner.Goals.{then-c-from-via-then-c-from, then-c-from-via-else-c-from+then-seats-c}
use Rattle.pairs.proofs.Index.partner.Goals as goal

pub returns-then-c-from : goal.returns-then-c-from
returns-then-c-from c =
    elim c.then-c-from.branch [
      | then-c-from-via-then-c-from w ↦ sym (not_ack c.args.first.now c.args.self.now.bundle.now c.args.i _ c.contents_at-c.ensures (rw c.from.ensures at w.if-c-from.true))
      | then-c-from-via-else-c-from+then-seats-c w ↦
          sym (not_seat c.args.first.now c.args.self.now.bundle.now c.args.i _ c.contents_at-c.ensures (rw c.requires at w.if-seats-c.true))
    ]

pub returns : goal.returns
returns c =
    c.first_meeting.ensures
    ∙ partner_found c.args.first.now c.args.self.now.bundle.now c.args.i _ c.contents_at-c.ensures _ (λ k. omega (arith, c.type_inv.first k)) c.args.self.now.keyed
    (rw c.from.ensures at c.if-c-from.false)
    (rw c.requires at c.if-seats-c.false)
    c.body.ensures c.transfer_of.ensures c.key_of.ensures
