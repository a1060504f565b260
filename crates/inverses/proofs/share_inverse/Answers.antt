-- `share_inverse` meets its contract: the laws of `Sharing` at the loop. Assumes what Sharable says.
use Rattle.inverses.specs.Sharing.{sharing-next, sharing-ends}
use Rattle.inverses.proofs.share_inverse.Goals as goal

pub loop-i-preserved : goal.loop-i-preserved
loop-i-preserved c =
    sharing-next _ _ _ _ _ c.requires.modulus c.requires.room _ _ c.loop-i-test.true c.loop-i.invariant _ _
    (rw c.new-modulus.ensures at c.product.ensures) (rw c.new-modulus.ensures at c.product-shared.ensures)

pub returns : goal.returns
returns c =
    sharing-ends _ _ _ _ _ c.requires.modulus c.requires.room _ _ c.loop-i-test.false c.loop-i.invariant
