-- `row_total` meets its contract: the laws of `Totalling` at the loop. Assumes nothing.
use Rattle.totals.specs.Totals.{totalling-starts, totalling-next, totalling-ends, row_total}
use Rattle.totals.proofs.row_total.Goals as goal

pub loop-j-init : goal.loop-j-init
loop-j-init c = totalling-starts

pub loop-j-preserved : goal.loop-j-preserved
loop-j-preserved c =
    totalling-next c.loop-j.invariant c.loop-j-test.true
    c.product.ensures c.sum-total.ensures

pub returns : goal.returns
unfolding row_total
returns c = totalling-ends c.loop-j.invariant c.loop-j-test.false
