-- The measure of `subproduct::climb` is the number of pairs of rows. Assumes nothing.
use Rattle.subproduct.proofs.+climb.Given as goal

abbrev pub decreases-climb : goal.decreases-climb
decreases-climb l = l.pairs
