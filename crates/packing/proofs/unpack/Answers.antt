-- A coefficient more is unpacked, by the lemmas of Packed. Assumes nothing.
use Rattle.packing.proofs.Packed.{unpacked-none, unpacked-more, unpacked-all}
use Rattle.packing.proofs.unpack.Goals as goal

pub loop-p-init : goal.loop-p-init
loop-p-init c = unpacked-none _ _

pub loop-p-preserved : goal.loop-p-preserved
loop-p-preserved c = search unpacked-more

pub returns : goal.returns
returns c = unpacked-all _ _ _ _ c.loop-p.invariant c.loop-p-test.false c.requires
