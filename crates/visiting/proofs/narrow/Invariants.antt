-- `narrow` opens one node after the other. Wherever it has come to, a visit from there is a visit from the start
-- (`CameTo`); the hours of the node it is at fall by half in each turn. Assumes nothing.
use Rattle.visiting.proofs.Narrowing.{CameTo}
use Rattle.visiting.proofs.narrow.Given as goal

abbrev pub invariant-loop-x : goal.invariant-loop-x
invariant-loop-x l =
    CameTo l.table.n l.table.coefficients.now l.table.codes.now l.x l.stop l.before l.fn.start l.at l.opened

abbrev pub decreases-loop-x : goal.decreases-loop-x
decreases-loop-x l = l.at.hours
