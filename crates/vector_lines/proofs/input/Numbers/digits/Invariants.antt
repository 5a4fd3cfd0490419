-- `digits` passes over a byte at each turn. The measure is how many bytes are left.
use Rattle.std.proofs.Common.{◌^◌, ◌<◌, ◌≤◌, length}
use Rattle.vector_lines.proofs.input.Numbers.digits.Given as goal

abbrev pub invariant-loop-self : goal.invariant-loop-self
invariant-loop-self l = (l.size < 2 ^ 44) × (length l.self.rest.now ≤ length l.initial.self.rest.now)

abbrev pub decreases-loop-self : goal.decreases-loop-self
decreases-loop-self l = length l.self.rest.now
