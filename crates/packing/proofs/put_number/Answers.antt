-- A byte more is written, by the lemmas of Spelled. Assumes nothing.
use Rattle.packing.proofs.Spelled.{put-none, put-more}
use Rattle.packing.proofs.put_number.Goals as goal

pub loop-k-init : goal.loop-k-init
loop-k-init c = put-none _ _

pub loop-k-preserved : goal.loop-k-preserved
loop-k-preserved c = put-more _ _ _ _ _ c.loop-k.invariant c.loop-k-test.true
