-- `norm_total` meets its contract: the laws of `Totalling` at the loop. Assumes nothing.
use Rattle.definitions.specs.Orthogonality.{norm_total}
use Rattle.totals.specs.Totals.{totalling-starts, totalling-next, totalling-ends, product-of-three}
use Rattle.totals.proofs.norm_total.Goals as goal

pub loop-i-init : goal.loop-i-init
loop-i-init c = totalling-starts

pub loop-i-preserved : goal.loop-i-preserved
loop-i-preserved c =
    totalling-next c.loop-i.invariant
    c.loop-i-test.true
    (product-of-three _ _ _ _ c.product.ensures c.product-in-loop-i.ensures) c.sum-total.ensures

pub returns : goal.returns
unfolding norm_total
returns c = totalling-ends c.loop-i.invariant c.loop-i-test.false
