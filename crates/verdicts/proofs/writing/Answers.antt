-- `writing` answers the verdict of the tests of the call that writes a job: those of `lengths`, then those on values. Assumes nothing.
use Rattle.definitions.specs.JobWriting.{writing_tests}
use Rattle.acceptance.specs.Stages.{all-remain, stage-none, stage-refuses, stage-passes, stages-end}
use Rattle.verdicts.specs.Sizes.{lengths-shaped}
use Rattle.verdicts.proofs.writing.Goals as goal

pub returns-in_default : goal.returns-in_default
unfolding writing_tests
returns-in_default c = stage-refuses _ _ all-remain _ c.lengths-job.ensures _ c.in_default.is

pub values-requires : goal.values-requires
values-requires c =
    lengths-shaped _ _ _ _ _ _ _ _ (stage-none _ _ c.lengths-job.ensures c.in-Ok.is)

pub returns : goal.returns
unfolding writing_tests
returns c =
    let after_job = stage-passes _ _ all-remain _ c.lengths-job.ensures c.in-Ok.is in
    stages-end _ after_job c.values.result c.values.ensures
