-- The messages before `i` are those of the records.
use Rattle.std.proofs.Common.{◌≡◌, length, take, map}
use Rattle.writer.specs.RecordLists.{record_message}
use Rattle.writer.proofs.records.messages_in.Given as goal

abbrev pub invariant-loop-i : goal.invariant-loop-i
invariant-loop-i l =
    (length l.messages ≡ 999) × (take l.i l.messages ≡ map record_message (take l.i l.records))
