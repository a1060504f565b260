-- The loop of `clear`: it fills the working list with zeros from the front. The measure is what is left of them. Assumes nothing.
use Rattle.std.proofs.Common.{◌≡◌}
use Rattle.numbers.specs.Lists.{filled}
use Rattle.lists.proofs.clear.Given as goal

abbrev pub invariant-loop-i : goal.invariant-loop-i
invariant-loop-i l = l.work ≡ filled (λ _. 0) l.i l.initial.work
