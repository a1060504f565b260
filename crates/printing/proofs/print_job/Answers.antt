-- `print_job` meets its promise: what the text call leaves is printed, or the refusal text of its number. Assumes nothing.
use Rattle.printing.specs.Printouts.{answer-printed, refusal-printed}
use Rattle.printing.proofs.print_job.Goals as goal

pub returns-in-Ok : goal.returns-in-Ok
returns-in-Ok c = answer-printed _ _ _ _ _ _ c.convert_text.ensures
    c.zeros-bytes.ensures
    c.zeros-work.ensures
    _ c.in-Ok.is

pub returns-in-Err : goal.returns-in-Err
returns-in-Err c = refusal-printed _ _ _ _ _ _ c.convert_text.ensures
    c.zeros-bytes.ensures
    c.zeros-work.ensures
    _ c.in-Err.is _ _ (rw c.from.ensures at c.write_refusal-length.ensures)
