-- `put_number` writes the low byte of what is left of the number before those that are written. Assumes nothing.
use Rattle.packing.proofs.Spelled.{Put}
use Rattle.packing.proofs.put_number.Given as goal

abbrev pub invariant-loop-k : goal.invariant-loop-k
invariant-loop-k l = Put l.x l.initial.out l.out l.rest l.k
