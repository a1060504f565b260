-- The loop of `one_by_one`: it fills the output with inverses from the front. Assumes nothing.
use Rattle.std.proofs.Common.{◌≡◌, get_or}
use Rattle.definitions.specs.Number.{inverse}
use Rattle.numbers.specs.Lists.{filled}
use Rattle.inverses.proofs.one_by_one.Given as goal

abbrev pub invariant-loop-i : goal.invariant-loop-i
invariant-loop-i l = l.output ≡ filled (λ j. inverse l.m (get_or l.list j 0)) l.i l.initial.output
