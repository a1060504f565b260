-- `write_text` puts the lines of the family and those of what is asked: the job text. Assumes nothing.
use Rattle.job_text.specs.Parts.{text-written}
use Rattle.job_text.proofs.write_text.Goals as goal

pub returns : goal.returns
returns c =
    text-written _ _ _ _ _ _ _ c.requires _ _ c.put_family-request.ensures _ _ c.put_request.ensures
