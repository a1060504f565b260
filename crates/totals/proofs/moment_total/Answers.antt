-- `moment_total` meets its contract: the sum of the rows' totals is the moments' total (`row_totals-moment_total`). Assumes nothing.
use mathlib.Core.Path.{◌∙◌}
use Rattle.totals.specs.Totals.{totalling-starts, totalling-next, totalling-ends}
use Rattle.totals.proofs.Totals.{row_totals-moment_total}
use Rattle.totals.proofs.moment_total.Goals as goal

pub loop-i-init : goal.loop-i-init
loop-i-init c = totalling-starts

pub loop-i-preserved : goal.loop-i-preserved
loop-i-preserved c =
    totalling-next c.loop-i.invariant c.loop-i-test.true
    (rw (← c.row_total.ensures) c.product.ensures) c.sum-total.ensures

pub returns : goal.returns
returns c =
    totalling-ends c.loop-i.invariant c.loop-i-test.false
    ∙ row_totals-moment_total _ _ _ _ _ c.requires.positive c.requires.least
