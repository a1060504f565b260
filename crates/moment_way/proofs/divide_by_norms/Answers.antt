-- `divide_by_norms` meets its contract: the laws of `Dividing` at the loop. Assumes nothing.
use Rattle.moment_way.specs.Decompose.{dividing-starts, dividing-next, dividing-ends}
use Rattle.moment_way.proofs.divide_by_norms.Goals as goal

pub loop-i-init : goal.loop-i-init
loop-i-init c = dividing-starts

pub loop-i-preserved : goal.loop-i-preserved
loop-i-preserved c =
    dividing-next c.requires c.loop-i.invariant c.loop-i-test.true
    c.row_entry-x.ensures (rw c.new-modulus.ensures at c.product-y.ensures) (rw c.new-modulus.ensures at c.product.ensures)
    c.row_entry-w.ensures (rw c.new-modulus.ensures at c.negative.ensures) (rw c.new-modulus.ensures at c.product-signed.ensures)

pub shape_of-output : goal.shape_of-output
shape_of-output c = c.loop-i.invariant.written.same_length

pub returns : goal.returns
returns c = dividing-ends c.requires c.loop-i.invariant c.loop-i-test.false
