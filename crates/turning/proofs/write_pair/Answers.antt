-- The step down at a pair, and both hours that come out written. Assumes nothing.
use Rattle.turning.proofs.Writing.{pair-written, pair-not-written}
use Rattle.turning.proofs.write_pair.Goals as goal

pub returns-in-Some : goal.returns-in-Some
returns-in-Some c = search pair-written

pub returns-in_default : goal.returns-in_default
returns-in_default c = search pair-not-written
