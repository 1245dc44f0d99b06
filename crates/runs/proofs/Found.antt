-- What a test over a run found: an event that passes it, and a slip that is equal to the one looked for.
use Rattle.std.specs.Prelude.{Option, Some, None}
use mathlib.Core.Path.{◌≡◌, refl, ap, sym}
use mathlib.Core.Bool.{Bool, true, false}
use Rattle.laws.specs.Types.{Transfer}
use Rattle.runs.specs.Runs.{Event, Run, start, ◌▹◌, Within, at_end, sooner, happened, passes}
use Rattle.model.specs.Transfers.{equal}
use Rattle.laws.proofs.Sums.{impossible}
use Rattle.laws.proofs.Equality.{equal_sound}

-- a test that some event passes: such an event
pub happened_found : (test : Event → Bool) (r : Run) → happened test r ≡ true
    → (p : Run) × (e : Event) × Within (p ▹ e) r × (test e ≡ true)
happened_found test (start from) h = impossible (cc)
happened_found test (r ▹ e) h = go (happened test r) refl (happened_found test r)
  where
    go : (b : Bool) → happened test r ≡ b
        → (happened test r ≡ true → (p : Run) × (d : Event) × Within (p ▹ d) r × (test d ≡ true))
        → (p : Run) × (d : Event) × Within (p ▹ d) (r ▹ e) × (test d ≡ true)
    go true yet rest = let found = rest yet in (found.0, found.1, sooner found.2, found.3)
    go false yet rest = (r, e, at_end, rw yet at h)

-- a slip that is equal to t is t
pub that_slip : (t : Transfer) (x : Option Transfer) → passes (equal t) x ≡ true → x ≡ Some t
that_slip t None e = impossible (cc)
that_slip t (Some u) e = ap Some (sym (equal_sound t u e))
