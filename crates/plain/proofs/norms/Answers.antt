-- `norms` meets its contract: the laws of `Norming` at the loop. Assumes nothing.
use Rattle.plain.specs.Norming.{norming-starts, norming-next, norming-ends}
use Rattle.plain.proofs.norms.Goals as goal

pub loop-i-init : goal.loop-i-init
loop-i-init c = norming-starts

pub loop-i-preserved : goal.loop-i-preserved
loop-i-preserved c =
    norming-next c.requires c.loop-i-test.true
    c.loop-i.invariant
    c.row_entry-p.ensures (rw c.new-modulus.ensures at c.product.ensures)
    c.row_entry-r.ensures (rw c.new-modulus.ensures at c.negative.ensures) (rw c.new-modulus.ensures at c.product-signed.ensures)

pub returns : goal.returns
returns c = norming-ends c.requires c.loop-i-test.false c.loop-i.invariant
