-- The loop of `of_list`: it fills the output with zeros from the front. Assumes nothing.
use Rattle.std.proofs.Common.{◌≡◌}
use Rattle.numbers.specs.Lists.{filled}
use Rattle.inverses.proofs.of_list.Given as goal

abbrev pub invariant-loop-i : goal.invariant-loop-i
invariant-loop-i l = l.output ≡ filled (λ _. 0) l.i l.initial.output
