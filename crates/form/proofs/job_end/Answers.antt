-- `job_end` reads the lines of the operation and of the curve, and then the text is to end. Assumes nothing.
use Rattle.std.proofs.Math.Path.{subst⁻¹}
use Rattle.form.specs.JobForm.{EndRead, no-operation, no-curve, no_end, end-at}
use Rattle.form.proofs.job_end.Goals as goal

pub returns-in_err-operation : goal.returns-in_err-operation
returns-in_err-operation c =
    subst⁻¹ (EndRead _ _ _) c.from_residual.ensures (no-operation _ c.in_err-operation.ensures)

pub returns-in_err-entries : goal.returns-in_err-entries
returns-in_err-entries c =
    subst⁻¹ (EndRead _ _ _) c.from_residual-in_err-entries.ensures
    (no-curve _ _ _ _ c.in_ok-operation.ensures c.in_err-entries.ensures)

pub returns-then-entries-text : goal.returns-then-entries-text
returns-then-entries-text c =
    no_end _ _ _ _ c.in_ok-operation.ensures _ _ _ _ c.in_ok-entries.ensures c.if-entries-text.true

pub returns : goal.returns
returns c =
    end-at _ _ _ _ c.in_ok-operation.ensures _ _ _ _ c.in_ok-entries.ensures c.if-entries-text.false
