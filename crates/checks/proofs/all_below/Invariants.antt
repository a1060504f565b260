-- The loop of `all_below`: none of the entries that were passed is outside, if it still says so. Assumes nothing.
use mathlib.Core.Path.{◌≡◌}
use mathlib.Core.Bool.{true}
use Rattle.definitions.specs.Refusals.{not_below}
use Rattle.checks.specs.Passes.{Passed}
use Rattle.checks.proofs.all_below.Given as goal

abbrev pub invariant-loop-entry : goal.invariant-loop-entry
invariant-loop-entry l = l.all ≡ true → Passed (not_below l.m) l.list l.entry-index
