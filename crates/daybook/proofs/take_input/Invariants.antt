-- What is left of the buffer falls at each read that brings something.
use Rattle.std.proofs.Common.{◌-◌, ◌≤◌, length}
use Rattle.daybook.proofs.take_input.Given as goal

abbrev pub invariant-loop-read : goal.invariant-loop-read
invariant-loop-read l = l.read ≤ length l.input

abbrev pub decreases-loop-read : goal.decreases-loop-read
decreases-loop-read l = length l.initial.input - l.read
