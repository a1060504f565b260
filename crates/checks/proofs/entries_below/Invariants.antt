-- The loop of `entries_below`: each of the entries that were passed is below m. Assumes nothing.
use Rattle.definitions.specs.Refusals.{not_below}
use Rattle.checks.specs.Passes.{Passed}
use Rattle.checks.proofs.entries_below.Given as goal

abbrev pub invariant-loop-i : goal.invariant-loop-i
invariant-loop-i l = Passed (not_below l.m) l.list l.i
