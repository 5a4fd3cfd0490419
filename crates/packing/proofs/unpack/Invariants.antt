-- `unpack` writes one coefficient after the other. Assumes nothing.
use Rattle.packing.proofs.Packed.{Unpacked}
use Rattle.packing.proofs.unpack.Given as goal

abbrev pub invariant-loop-p : goal.invariant-loop-p
invariant-loop-p l = Unpacked l.packed l.initial.out l.out l.p
