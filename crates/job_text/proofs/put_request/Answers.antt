-- `put_request` puts the line of the operation, and that of the curve right after it. Assumes nothing.
use Rattle.job_text.specs.Parts.{put-request}
use Rattle.job_text.proofs.put_request.Goals as goal

pub returns : goal.returns
returns c =
    put-request _ _ _ _ c.requires _ _ c.put_operation_line-next.ensures _ _ c.put_line.ensures
