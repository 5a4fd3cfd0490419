-- `lend` takes numbers one by one, so that no more is left than before.
use Rattle.std.proofs.Common.{◌≤◌, length}
use Rattle.vector_lines.proofs.input.Numbers.lend.Given as goal

abbrev pub invariant-loop-place : goal.invariant-loop-place
invariant-loop-place g l = length l.self.rest.now ≤ length l.initial.self.rest.now
