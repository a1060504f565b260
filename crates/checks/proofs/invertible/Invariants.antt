-- The loop of `invertible`: each of the entries that were passed has an inverse. Assumes nothing.
use Rattle.definitions.specs.Refusals.{no_inverse}
use Rattle.checks.specs.Passes.{Passed}
use Rattle.checks.proofs.invertible.Given as goal

abbrev pub invariant-loop-i : goal.invariant-loop-i
invariant-loop-i l = Passed (no_inverse l.m) l.list l.i
