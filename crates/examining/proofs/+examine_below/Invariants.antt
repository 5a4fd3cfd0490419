-- Each half covers fewer hours. Assumes nothing.
use Rattle.examining.proofs.+examine_below.Given as goal

abbrev pub decreases-examine_below : goal.decreases-examine_below
decreases-examine_below g l = l.hours
