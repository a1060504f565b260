-- `convolution::products_at` meets its contract: the laws of `Multiplying` at the loop. Assumes nothing.
use Rattle.std.proofs.Common.{arith}
use Rattle.convolution.proofs.Coefficients.{multiplying-starts, multiplying-next}
use Rattle.convolution.proofs.Coefficients.{multiplying-ends}
use Rattle.convolution.proofs.products_at.Goals as goal

pub loop-t-init : goal.loop-t-init
loop-t-init c =
    multiplying-starts c.requires (omega arith) (record { first = omega arith; second = omega arith; one = λ l. omega arith })
    (omega arith)

pub loop-t-preserved : goal.loop-t-preserved
loop-t-preserved c =
    multiplying-next c.requires c.loop-t.invariant c.loop-t-test.true
    c.pair-x.ensures c.plus-total.ensures

pub returns : goal.returns
returns c =
    multiplying-ends c.requires c.loop-t.invariant c.loop-t-test.false _ c.remainder_of_sum.ensures
