-- `zahupnik_write_job` returns 2 if its number names no operation; otherwise it writes the length and returns 0, or returns the refusal's
-- number, and what the call that writes a job leaves stays. Assumes nothing.
use Rattle.zahupnik.proofs.Returning.{nothing-returned, length-returned, job-refusal-returned}
use Rattle.zahupnik.proofs.zahupnik_write_job.Goals as goal

pub returns-in_default : goal.returns-in_default
returns-in_default c = rw c.from.ensures (nothing-returned _ _ _ _ _ c.choose.ensures c.in_default.is)

pub returns-in-Ok : goal.returns-in-Ok
returns-in-Ok c =
    length-returned _ _ _ _ _ _ c.choose.ensures c.in-Some.is
    _ _ c.write_job.ensures _ c.in-Ok.is

pub returns-in-Err : goal.returns-in-Err
returns-in-Err c =
    rw c.from-in-Err.ensures (job-refusal-returned _ _ _ _ _ _ c.choose.ensures c.in-Some.is
    _ _ c.write_job.ensures _ c.in-Err.is)
