-- `walk` takes one half after the other. Wherever it has come to, a walk from there is a walk from the start
-- (`CameTo`); the hours of the node it is at fall by half in each turn. Assumes nothing.
use Rattle.walking.proofs.Walking.{CameTo}
use Rattle.walking.proofs.walk.Given as goal

abbrev pub invariant-loop-at : goal.invariant-loop-at
invariant-loop-at l = CameTo l.table.n l.table.coefficients.now l.table.codes.now l.towards l.fn.start l.at l.levels

abbrev pub decreases-loop-at : goal.decreases-loop-at
decreases-loop-at l = l.at.hours
