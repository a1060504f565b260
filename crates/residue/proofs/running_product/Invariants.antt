-- The loop of `running_product`: it holds the product of the entries that were passed. Assumes nothing.
use Rattle.std.proofs.Common.{◌≡◌, get_or}
use Rattle.numbers.specs.RunningProduct.{running_product}
use Rattle.residue.proofs.running_product.Given as goal

abbrev pub invariant-loop-i : goal.invariant-loop-i
invariant-loop-i l = l.result ≡ running_product l.m (λ j. get_or l.list j 0) l.i
