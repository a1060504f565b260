-- The loop of `invert`: Euclid's algorithm before a turn (`Turning`). The measure is the second remainder. Assumes nothing.
use Rattle.residue.specs.UnsignedEuclid.{Turning}
use Rattle.residue.proofs.invert.Given as goal

abbrev pub invariant-loop-s : goal.invariant-loop-s
invariant-loop-s l = Turning l.m l.x l.r l.s l.t l.u

abbrev pub decreases-loop-s : goal.decreases-loop-s
decreases-loop-s l = l.s
