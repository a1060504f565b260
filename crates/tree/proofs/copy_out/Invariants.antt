-- The loop of `copy_out`: the entries before i are copied. Assumes nothing.
use Rattle.std.proofs.Common.{◌≡◌, get_or}
use Rattle.numbers.specs.Lists.{filled}
use Rattle.tree.proofs.copy_out.Given as goal

abbrev pub invariant-loop-i : goal.invariant-loop-i
invariant-loop-i l = l.to ≡ filled (λ j. get_or l.from j 0) l.i l.initial.to
