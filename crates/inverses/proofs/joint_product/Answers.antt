-- `joint_product` meets its contract: what the four products settle is every entry of the two lists at the end. Assumes nothing.
use Rattle.std.proofs.Common.{arith}
use Rattle.inverses.specs.Joint.{shared-next, shared-ends, joint-of}
use Rattle.inverses.proofs.joint_product.Goals as goal

pub loop-k-preserved : goal.loop-k-preserved
loop-k-preserved c = (
  shared-next _ _ _ _ _ _ _ _ c.loop-k.invariant.0 (rw c.new-modulus.ensures at c.product-p.ensures)
      (rw c.new-modulus.ensures at c.product-q.ensures),
  shared-next _ _ _ _ _ _ _ _ c.loop-k.invariant.1 (rw c.new-modulus.ensures at c.product-s.ensures)
      (rw c.new-modulus.ensures at c.product-t.ensures),
)

pub returns : goal.returns
returns c =
    joint-of _ _ _ _ _ _ _ _ (rw c.new-modulus.ensures at c.product-3.ensures)
    (shared-ends _ _ _ _ _ _ _ _ _ _ (omega arith) c.loop-k.invariant.0 (omega arith) (rw c.new-modulus.ensures at c.product.ensures)
    c.running_product.ensures
    (rw c.new-modulus.ensures at c.product-first.ensures))
    (shared-ends _ _ _ _ _ _ _ _ _ _ (omega arith) c.loop-k.invariant.1 (omega arith)
    (rw c.new-modulus.ensures at c.product-2.ensures)
    c.running_product-2.ensures (rw c.new-modulus.ensures at c.product-second.ensures))
