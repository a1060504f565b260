-- The loop of `negative_products`: it fills the output from the front. Assumes nothing.
use Rattle.std.proofs.Common.{◌≡◌}
use Rattle.numbers.specs.Lists.{filled}
use Rattle.plain.specs.Decomposing.{negative_product}
use Rattle.plain.proofs.negative_products.Given as goal

abbrev pub invariant-loop-i : goal.invariant-loop-i
invariant-loop-i l = l.output ≡ filled (negative_product l.m l.list l.factors) l.i l.initial.output
