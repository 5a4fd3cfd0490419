-- `pack` writes the three bytes of one coefficient after the other. Assumes nothing.
use Rattle.packing.proofs.Packed.{Packed}
use Rattle.packing.proofs.pack.Given as goal

abbrev pub invariant-loop-p : goal.invariant-loop-p
invariant-loop-p l = Packed l.coefficients l.initial.out l.out l.p
