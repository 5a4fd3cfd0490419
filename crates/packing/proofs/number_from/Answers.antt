-- A byte more is read, by the lemmas of Spelled. Assumes nothing.
use Rattle.kit.proofs.{arith}
use Rattle.packing.proofs.Spelled.{read_none, read_more, shifted_fits}
use Rattle.packing.proofs.number_from.Goals as goal

pub loop-byte-init : goal.loop-byte-init
loop-byte-init c = read_none _

pub overflow_mul-x : goal.overflow_mul-x
overflow_mul-x c = shifted_fits _ _ _ c.loop-byte.invariant c.loop-byte-test.true c.requires

pub loop-byte-preserved : goal.loop-byte-preserved
loop-byte-preserved c =
    read_more _ _ _ _ c.loop-byte.invariant c.loop-byte-test.true c.from.ensures (omega arith)
