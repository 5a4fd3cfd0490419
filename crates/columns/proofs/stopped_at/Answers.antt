-- `stopped_at` refuses a level with more nodes than there are hours, and divides the hours by the nodes. Assumes
-- nothing.
use Rattle.kit.proofs.{arith}
use Rattle.sizes.proofs.Lent.{is-lent}
use Rattle.stepping.proofs.Lending.{whole-lent}
use Rattle.columns.proofs.Depths as depths
use Rattle.columns.proofs.Stopping as laws
use Rattle.columns.proofs.stopped_at.Goals as goal

pub returns-then-d-gt-LARGEST_LEVEL : goal.returns-then-d-gt-LARGEST_LEVEL
returns-then-d-gt-LARGEST_LEVEL c = laws.too-deep _ _ _ _ _ (depths.over-all _ _ c.if-d-gt-LARGEST_LEVEL.true)

pub returns-then-whole-nodes : goal.returns-then-whole-nodes
returns-then-whole-nodes c =
    laws.too-deep _ _ _ _ _
    (depths.more-nodes _ _ _ _ c.args.whole.now.places c.power-nodes.ensures (omega arith))

pub stopped_over-requires-clause-lent_to : goal.stopped_over-requires-clause-lent_to
stopped_over-requires-clause-lent_to c = whole-lent _ _ _ (is-lent c.args.whole.now) _

pub returns : goal.returns
returns c =
    let deep = depths.deep-enough _ _ _ _ c.args.whole.now.places c.power-nodes.ensures (omega arith) in
    let covered = depths.covered _ _ _ _ c.args.whole.now.places c.power-nodes.ensures (omega arith) in
    laws.deep-enough _ _ _ _ _ deep _ covered _ c.stopped_over.ensures
