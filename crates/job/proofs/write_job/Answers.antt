-- `write_job` meets its promise: a refusal by its tests, or the job text. Assumes nothing.
use Rattle.acceptance.proofs.HandedOn.{handed-on}
use Rattle.job.specs.Writing.{job-refused, job-room, job-written}
use Rattle.job.proofs.write_job.Goals as goal

pub returns-in_err-writing : goal.returns-in_err-writing
returns-in_err-writing c =
    job-refused _ _ _ c.writing.ensures _ c.in_err-writing.was _ (handed-on _ _ c.from_residual.ensures.1)

pub write_text-requires : goal.write_text-requires
write_text-requires c =
    job-room _ _ _ c.writing.ensures c.in_ok-writing.was

pub returns : goal.returns
returns c =
    job-written _ _ _ c.writing.ensures c.in_ok-writing.was _ _ c.write_text.ensures
