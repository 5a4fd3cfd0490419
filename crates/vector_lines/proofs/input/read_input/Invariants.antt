-- `read_input` fills the room from its start. The measure is how much room is left.
use Rattle.std.proofs.Common.{◌-◌, ◌≤◌, length}
use Rattle.vector_lines.proofs.input.read_input.Given as goal

abbrev pub invariant-loop-got : goal.invariant-loop-got
invariant-loop-got g l = l.done ≤ length l.room

abbrev pub decreases-loop-got : goal.decreases-loop-got
decreases-loop-got g l = length l.room - l.done
