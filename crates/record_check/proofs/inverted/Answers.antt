-- `inverted` says whether each entry has the one beside it for its inverse: a pass over their products. Assumes nothing.
use mathlib.Core.Path.{sym, ◌∙◌}
use Rattle.record_check.specs.Scans.{pass-begins, pass-goes-on, pass-stops, pass-ends}
use Rattle.record_check.proofs.inverted.Goals as goal

pub loop-i-init : goal.loop-i-init
loop-i-init c = pass-begins

pub returns-then-product-ne1 : goal.returns-then-product-ne1
returns-then-product-ne1 c =
    pass-stops c.loop-i.invariant c.loop-i-test.true (λ one. c.if-product-ne1.true (c.product.ensures ∙ one))

pub loop-i-preserved : goal.loop-i-preserved
loop-i-preserved c =
    pass-goes-on c.loop-i.invariant (sym c.product.ensures ∙ c.if-product-ne1.false)

pub returns : goal.returns
returns c = pass-ends c.loop-i.invariant c.loop-i-test.false
