-- `quotient` meets its contract: the laws of `Dividing` at the loop. Assumes nothing.
use Rattle.series.specs.Division.{dividing-starts, dividing-input, dividing-next, dividing-ends}
use Rattle.series.proofs.quotient.Goals as goal

pub loop-k-init : goal.loop-k-init
loop-k-init c = dividing-starts _ _ _ _ _ _ _ c.requires

pub coefficient-requires : goal.coefficient-requires
coefficient-requires c =
    rw c.new-modulus.ensures (dividing-input _ _ _ _ _ _ _ c.requires _ _ c.loop-k.invariant c.loop-k-test.true)

pub loop-k-preserved : goal.loop-k-preserved
loop-k-preserved c =
    dividing-next _ _ _ _ _ _ _ c.requires _ _ c.loop-k.invariant
    c.loop-k-test.true _
    (rw c.new-modulus.ensures at c.coefficient.ensures)

pub returns : goal.returns
returns c =
    dividing-ends _ _ _ _ _ _ _ c.requires _ _ c.loop-k.invariant c.loop-k-test.false
