-- `plain_verdict` answers the verdict of the plain way's tests on a record. Assumes nothing.
use Rattle.definitions.specs.PreparedCalls.{prepared_plain_tests}
use Rattle.acceptance.specs.Stages.{all-remain, stage-refuses, stage-passes, stages-end}
use Rattle.prepared_model.specs.Lending.{right-size}
use Rattle.prepared_model.specs.Rightness.{record-tested}
use Rattle.prepared_plain.proofs.plain_verdict.Goals as goal

pub returns-in_default : goal.returns-in_default
unfolding prepared_plain_tests
returns-in_default c = stage-refuses _ _ all-remain _ c.right-right.ensures _ c.in_default.is

pub returns-in_default-entries : goal.returns-in_default-entries
unfolding prepared_plain_tests
returns-in_default-entries c =
    let size = right-size (record-tested _ _ c.right-right.ensures c.in-Ok.is) in
    let after_right = stage-passes _ _ all-remain _ c.right-right.ensures c.in-Ok.is in
    stage-refuses _ _ after_right _ (rw size at c.curve_length-entries.ensures) _ c.in_default-entries.is

pub returns-in_default-place : goal.returns-in_default-place
unfolding prepared_plain_tests
returns-in_default-place c =
    let size = right-size (record-tested _ _ c.right-right.ensures c.in-Ok.is) in
    let after_right = stage-passes _ _ all-remain _ c.right-right.ensures c.in-Ok.is in
    let after_entries = stage-passes _ _ after_right _ (rw size at c.curve_length-entries.ensures)
    c.in-Ok-entries.is in
    stage-refuses _ _ after_entries _ (rw size at c.output_length-place.ensures) _ c.in_default-place.is

pub returns : goal.returns
unfolding prepared_plain_tests
returns c =
    let size = right-size (record-tested _ _ c.right-right.ensures c.in-Ok.is) in
    let after_right = stage-passes _ _ all-remain _ c.right-right.ensures c.in-Ok.is in
    let after_entries = stage-passes _ _ after_right _ (rw size at c.curve_length-entries.ensures)
    c.in-Ok-entries.is in
    let after_place = stage-passes _ _ after_entries _ (rw size at c.output_length-place.ensures)
    c.in-Ok-place.is in
    stages-end _ after_place c.curve_entries.result c.curve_entries.ensures
