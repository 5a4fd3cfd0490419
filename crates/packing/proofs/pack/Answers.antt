-- A coefficient more is packed, by the lemmas of Packed. Assumes nothing.
use Rattle.packing.proofs.Packed.{packed_none, packed_more, packed_all}
use Rattle.packing.proofs.pack.Goals as goal

pub loop-p-init : goal.loop-p-init
loop-p-init c = packed_none _ _ c.requires.out_len

pub loop-p-preserved : goal.loop-p-preserved
loop-p-preserved c = search packed_more

pub returns : goal.returns
returns c = packed_all _ _ c.requires.out_len _ _ c.loop-p.invariant c.loop-p-test.false
