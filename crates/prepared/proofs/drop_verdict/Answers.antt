-- `drop_verdict` answers the verdict of the tests of dropping a row. Assumes nothing.
use Rattle.definitions.specs.Prepared.{drop_tests}
use Rattle.acceptance.specs.Stages.{all-remain, stage-refuses}
use Rattle.prepared.specs.ChangeCalls.{drop-none, drop-some}
use Rattle.prepared.proofs.drop_verdict.Goals as goal

pub returns-in_default : goal.returns-in_default
unfolding drop_tests
returns-in_default c = stage-refuses _ _ all-remain _ c.right-right.ensures _ c.in_default.is

pub returns-then-p-eq0 : goal.returns-then-p-eq0
returns-then-p-eq0 c = drop-none _ _ c.right-right.ensures c.in-Ok.is c.if-p-eq0.true

pub returns : goal.returns
returns c = drop-some _ _ c.right-right.ensures c.in-Ok.is c.if-p-eq0.false
