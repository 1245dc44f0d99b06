-- The walk begins in the key's bucket, and goes on where the entry at hand makes no pair.
use Rattle.std.proofs.Common.{◌≡◌, false, refl, sym, eq-eqb, ne_eqb}
use Rattle.pairs.specs.Keys.{meets}
use Rattle.pairs.proofs.Linking.{walk_starts, walk_goes, walk_nearer, walk_found}
use Rattle.pairs.proofs.Index.first_meeting.Goals.{else-other-key-via-then-other-key+else-other-key-2, else-other-key-via-else-other-key}
use Rattle.pairs.proofs.Index.first_meeting.Goals as goal

pub loop-next-init : goal.loop-next-init
loop-next-init c = rw c.bucket_of.ensures (walk_starts c.args.self.now.keys.now _ c.args.key _ _ c.args.self.now.linked)

pub returns-then-other-key-2 : goal.returns-then-other-key-2
returns-then-other-key-2 c =
    sym
    (walk_found c.args.self.now.keys.now _ c.args.key _ _ c.in-Some.is c.loop-next.invariant
    (rw (← c.from.ensures, eq-eqb _ _ c.if-other-key.true, ne_eqb _ _ c.if-other-key-2.true) refl))

pub loop-next-smaller : goal.loop-next-smaller
loop-next-smaller c =
    rw c.from-in-Some.ensures (walk_nearer c.args.self.now.keys.now _ c.args.key _ _ c.args.self.now.linked _ _ c.in-Some.is c.loop-next.invariant)

pub loop-next-preserved : goal.loop-next-preserved
loop-next-preserved c =
    let missed : meets c.args.self.now.keys.now c.args.key c.in-Some.j ≡ false =
    rw (← c.from.ensures)
    (elim c.else-other-key.branch [
      | else-other-key-via-then-other-key+else-other-key-2 w ↦ rw (eq-eqb _ _ w.if-other-key.true, eq-eqb _ _ w.if-other-key-2.false) refl
      | else-other-key-via-else-other-key w ↦ rw (ne_eqb _ _ w.if-other-key.false) refl
    ]) in
    rw c.from-in-Some.ensures (walk_goes c.args.self.now.keys.now _ c.args.key _ _ c.args.self.now.linked _ _ c.in-Some.is c.loop-next.invariant missed)
