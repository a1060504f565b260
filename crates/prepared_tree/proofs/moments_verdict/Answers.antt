-- `moments_verdict` answers the verdict of Moments' tests on a record. Assumes nothing.
use Rattle.definitions.specs.PreparedCalls.{prepared_moments_tests}
use Rattle.acceptance.specs.Stages.{all-remain, stage-refuses, stage-passes, stages-end}
use Rattle.prepared_model.specs.Lending.{right-moments}
use Rattle.prepared_model.specs.Rightness.{record-tested}
use Rattle.prepared_tree.proofs.moments_verdict.Goals as goal

pub returns-in_default : goal.returns-in_default
unfolding prepared_moments_tests
returns-in_default c = stage-refuses _ _ all-remain _ c.right-right.ensures _ c.in_default.is

pub returns-in_default-place : goal.returns-in_default-place
unfolding prepared_moments_tests
returns-in_default-place c =
    let count = right-moments (record-tested _ _ c.right-right.ensures c.in-Ok.is) in
    let after_right = stage-passes _ _ all-remain _ c.right-right.ensures c.in-Ok.is in
    stage-refuses _ _ after_right _ (rw count at c.output_length-place.ensures) _ c.in_default-place.is

pub returns : goal.returns
unfolding prepared_moments_tests
returns c =
    let count = right-moments (record-tested _ _ c.right-right.ensures c.in-Ok.is) in
    let after_right = stage-passes _ _ all-remain _ c.right-right.ensures c.in-Ok.is in
    let after_place = stage-passes _ _ after_right _ (rw count at c.output_length-place.ensures)
    c.in-Ok-place.is in
    stages-end _ after_place c.work_length.result c.work_length.ensures
