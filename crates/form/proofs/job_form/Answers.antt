-- `job_form` reads the lines of a family and then the end of a job. Assumes nothing.
use Rattle.std.proofs.Math.Path.{subst⁻¹}
use Rattle.form.specs.JobForm.{Formed, no-family, job-formed, job-malformed}
use Rattle.form.proofs.job_form.Goals as goal

pub returns-in_err-family : goal.returns-in_err-family
returns-in_err-family c =
    subst⁻¹ (Formed _ _ _ _ _ _ _ _ _) c.from_residual.ensures (no-family _ c.in_err-family.ensures)

pub returns-in_err-end : goal.returns-in_err-end
returns-in_err-end c =
    subst⁻¹ (Formed _ _ _ _ _ _ _ _ _) c.from_residual-in_err-end.ensures
    (job-malformed _ _ _ _ _ _ _ _ _ _ _ _ c.in_ok-family.ensures c.in_err-end.ensures)

pub returns : goal.returns
returns c =
    job-formed _ _ _ _ _ _ _ _ _ _ _ _ c.in_ok-family.ensures _ _ _ _ c.in_ok-end.ensures
