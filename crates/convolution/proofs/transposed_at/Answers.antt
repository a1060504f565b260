-- `convolution::transposed_at` meets its contract: the pairs as far as the lists reach make up the sum (`transposed-ends`). Assumes
-- nothing.
use Rattle.std.proofs.Common.{arith}
use Rattle.convolution.specs.Terms.{transposed-ends}
use Rattle.convolution.proofs.transposed_at.Goals as goal

pub returns : goal.returns
returns c =
    transposed-ends _ _ _ _ _ c.requires _ _ (record { first = omega arith; second = omega arith; one = λ l. omega arith })
    c.with_pairs-total.ensures _ c.remainder_of_sum.ensures
