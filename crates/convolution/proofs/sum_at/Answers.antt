-- `convolution::sum_at` meets its contract: the pairs of both halves and what is beside them make up the sum (`sum-ends`). Assumes nothing.
use Rattle.std.proofs.Common.{arith}
use Rattle.convolution.specs.Terms.{beside-added, sum-ends}
use Rattle.convolution.proofs.sum_at.Goals as goal

pub returns : goal.returns
returns c =
    sum-ends _ _ _ _ c.requires _ (omega arith) (omega (arith, c.well_formed))
    (beside-added _ _ _ _ c.requires _ (omega arith) c.with_singles-odd.ensures)
    c.with_pairs-total.ensures _ c.remainder_of_sum.ensures
