-- `tests` answers the verdict of the tests after the moduli: the lengths, then the rows. Assumes nothing.
use native.Mathlib.Omega.{arith}
use Rattle.acceptance.specs.Stages.{all-remain, stage-refuses, stage-passes, stages-end}
use Rattle.expand_join.specs.Stages.{sizes-pass}
use Rattle.expand_join.proofs.tests.Goals as goal

pub returns-in_default : goal.returns-in_default
returns-in_default c = stage-refuses _ _ all-remain _ c.sizes-sized.ensures _ c.in_default.is

pub rows-requires : goal.rows-requires
rows-requires c = (
  omega (arith, c.requires.0.least),
  omega (arith, c.requires.1.least),
  sizes-pass _ _ _ _ _ _ c.sizes-sized.ensures c.in-Ok.is,
)

pub returns : goal.returns
returns c =
    stages-end _ (stage-passes _ _ all-remain _ c.sizes-sized.ensures c.in-Ok.is) c.rows.result (c.rows.ensures c.args.b.now)
