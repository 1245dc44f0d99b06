-- What a check promises beside the first refusal of the model's rules.
use Rattle.std.specs.Prelude.{cond, None}
use Rattle.model.specs.declared.Seat.{Seat}
use Rattle.model.specs.declared.Transfer.{Transfer}
use Rattle.model.specs.declared.Message.TheVariants.{Ack}
use Rattle.model.specs.Types.{Slot, Entry, Ledger}
use Rattle.model.specs.Calls.{must_join}

-- The slip that an ack's late P carries, if it brings one: the retained one.
abbrev pub late_slip : Ledger → Entry → Seat → Transfer → Slot
late_slip l e s t = cond (must_join l e (Ack s t)) e.retained None
