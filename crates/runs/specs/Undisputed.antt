-- The paper's Theorem 1. Its proof is `theorem1` in Theorem1.antt of the crate agreement.
use Rattle.std.specs.Prelude.{◌≡◌, Bool, true, false, not, ◌&&◌, eqb, Some}
use Rattle.laws.specs.Types.{Seat, Transfer, Opening, Request, Circulated, Ack, Decision, Inquiry, Reply}
use Rattle.runs.specs.Runs.{Opens, FewBad, honest, Call, message, waiting_list, switch, Event, Run, ◌▹◌, Within, happened, at_honest, same_seat, Obeys, is_refusal, accepted, proposed}
use Rattle.runs.specs.Premises.{acked_by, Premises}
use Rattle.model.specs.Transfers.{equal}
use Rattle.model.specs.Replies.{values_of}
use Rattle.model.specs.Basics.{any}
use Rattle.runs.specs.Facts.{accepted_by}

-- every honest seat acked the slip
abbrev pub AllAcked : Opening → (Seat → Bool) → Transfer → Run → Type 0
AllAcked o bad t run = (s : Seat) → honest o bad s ≡ true → acked_by s t run ≡ true

-- refused with 7: the ack came too early, for a number above the next
abbrev pub too_early : Reply → Bool
too_early r = is_refusal r && any (eqb 7) (values_of r)

-- the call is an ack of slip t from seat s, and does not come too early
abbrev pub brings : Seat → Transfer → Call → Bool
brings s t (message (Request u) r) = false
brings s t (message (Circulated u) r) = false
brings s t (message (Ack z u) r) = same_seat z s && (equal t u && not (too_early r))
brings s t (message (Decision u) r) = false
brings s t (message (Inquiry a) r) = false
brings s t (waiting_list before r after) = false
brings s t switch = false

-- such an ack from seat s reached seat z in this run
abbrev pub reached : Seat → Seat → Transfer → Run → Bool
reached z s t run = happened (λ e. same_seat e.at z && brings s t e.call) run

-- such acks from all honest seats did
abbrev pub AllReached : Opening → (Seat → Bool) → Seat → Transfer → Run → Type 0
AllReached o bad z t run = (s : Seat) → honest o bad s ≡ true → reached z s t run ≡ true

-- A slip t that every honest seat acked: where acks of it from all of them arrived, none too early, it has been
-- accepted; and nowhere is another slip with its account and number put forward or accepted.
pub record Undisputed (o : Opening) (bad : Seat → Bool) (run : Run) (t : Transfer) : Type 0 where
  pub accepted_there : (p : Run) (z : Seat) → Within p run → honest o bad z ≡ true → AllReached o bad z t p → accepted_by z t p ≡ true
  pub none_other_proposed : (q : Run) (d : Event) (u : Transfer) → Within (q ▹ d) run → proposed d.call ≡ Some u
      → t.account ≡ u.account → t.number ≡ u.number → t ≡ u
  pub none_other_accepted : (q : Run) (d : Event) (u : Transfer) → Within (q ▹ d) run → accepted d.call ≡ Some u
      → t.account ≡ u.account → t.number ≡ u.number → t ≡ u

abbrev pub Theorem1 : Type 0
Theorem1 =
    (o : Opening) (bad : Seat → Bool) (run : Run) (t : Transfer)
    → Opens o → FewBad o bad → at_honest o bad run ≡ true → Obeys o run → Premises o bad run
    → AllAcked o bad t run
    → Undisputed o bad run t
