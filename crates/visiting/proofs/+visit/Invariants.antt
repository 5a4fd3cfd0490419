-- Each of the two halves that narrowing comes to covers fewer hours than the node where it began. Assumes nothing.
use Rattle.visiting.proofs.+visit.Given as goal

abbrev pub decreases-visit : goal.decreases-visit
decreases-visit l = l.start.hours
