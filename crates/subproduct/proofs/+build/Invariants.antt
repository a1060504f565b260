-- The measure of `subproduct::build` is the number of pairs of rows. Assumes nothing.
use Rattle.subproduct.proofs.+build.Given as goal

abbrev pub decreases-build : goal.decreases-build
decreases-build l = l.pairs
