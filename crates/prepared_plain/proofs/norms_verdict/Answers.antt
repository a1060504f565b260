-- `norms_verdict` answers the verdict of Norms' tests on a record. Assumes nothing.
use Rattle.definitions.specs.PreparedCalls.{prepared_norms_tests}
use Rattle.acceptance.specs.Stages.{all-remain, stage-refuses, stage-passes, stages-end}
use Rattle.prepared_model.specs.Lending.{right-size}
use Rattle.prepared_model.specs.Rightness.{record-tested}
use Rattle.prepared_plain.proofs.norms_verdict.Goals as goal

pub returns-in_default : goal.returns-in_default
unfolding prepared_norms_tests
returns-in_default c = stage-refuses _ _ all-remain _ c.right-right.ensures _ c.in_default.is

pub returns : goal.returns
unfolding prepared_norms_tests
returns c =
    let size = right-size (record-tested _ _ c.right-right.ensures c.in-Ok.is) in
    let after_right = stage-passes _ _ all-remain _ c.right-right.ensures c.in-Ok.is in
    stages-end _ after_right c.output_length.result (rw size at c.output_length.ensures)
