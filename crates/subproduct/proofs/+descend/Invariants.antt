-- The measure of `subproduct::descend` is the number of pairs of rows. Assumes nothing.
use Rattle.subproduct.proofs.+descend.Given as goal

abbrev pub decreases-descend : goal.decreases-descend
decreases-descend l = l.pairs
