-- `tree::stretch` meets its contract: the laws of `Writing` at the loop. Assumes nothing.
use native.Mathlib.Omega.{arith}
use Rattle.numbers.specs.Regions.{writing-starts, writing-next}
use Rattle.tree.specs.RootPair.{stretch-ends}
use Rattle.tree.proofs.stretch.Goals as goal

pub loop-i-init : goal.loop-i-init
loop-i-init c = writing-starts _ _ _ _ c.requires.room

pub overflow_add-first : goal.overflow_add-first
overflow_add-first c = omega (arith, c.requires.few, c.requires.room, c.well_formed)

pub loop-i-preserved : goal.loop-i-preserved
loop-i-preserved c = writing-next _ _ _ _ _ _ c.loop-i.invariant _ c.loop-i-test.true c.entry.ensures

pub returns : goal.returns
returns c = stretch-ends _ _ c.loop-i.invariant c.loop-i-test.false
