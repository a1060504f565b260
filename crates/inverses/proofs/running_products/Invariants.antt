-- The loop of `running_products`: it fills the output from the front, and keeps the product of the entries so far. Assumes nothing.
use Rattle.std.proofs.Common.{◌≡◌, get_or}
use Rattle.numbers.specs.RunningProduct.{running_product}
use Rattle.numbers.specs.Lists.{filled}
use Rattle.inverses.proofs.running_products.Given as goal

abbrev pub invariant-loop-i : goal.invariant-loop-i
invariant-loop-i l =
    (l.whole ≡ running_product l.m (λ j. get_or l.list j 0) l.i)
    × (l.output ≡ filled (running_product l.m (λ j. get_or l.list j 0)) l.i l.initial.output)
