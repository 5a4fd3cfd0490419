-- Of two causes that stand together the one decides whose turn is first: the definitions are computed. Assumes nothing.
use Rattle.kit.proofs.{refl}
use Rattle.om3.specs.Document.{Answered, two_causes}
unfoldable use Rattle.om3.proofs.Numbers.{computing}

pub two-causes-hold : Answered two_causes
unfolding computing
two-causes-hold = refl
