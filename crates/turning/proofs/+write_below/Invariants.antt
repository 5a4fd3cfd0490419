-- Each half covers fewer hours. Assumes nothing.
use Rattle.turning.proofs.+write_below.Given as goal

abbrev pub decreases-write_below : goal.decreases-write_below
decreases-write_below l = l.hours
