-- `convolution::with_singles` meets its contract: the laws of one product a step at the loop (`singles-next`, `singles-all`). Assumes nothing.
use Rattle.std.proofs.Common.{arith}
use Rattle.convolution.proofs.Steps.{singles-start, singles-next, singles-all}
use Rattle.convolution.proofs.with_singles.Goals as goal

pub loop-j-init : goal.loop-j-init
loop-j-init c = singles-start _ _ _ _ _ _ _ c.requires

pub loop-j-preserved : goal.loop-j-preserved
loop-j-preserved c =
    singles-next _ _ _ _ _ _ _ c.requires c.loop-j.invariant c.loop-j-test.true
    c.pair-x.ensures c.plus-sum.ensures

pub returns : goal.returns
returns c = singles-all _ _ _ _ _ _ c.requires c.loop-j.invariant (omega arith)
