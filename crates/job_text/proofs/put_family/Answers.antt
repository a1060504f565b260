-- `put_family` puts the line of the modulus, and those of the rows right after it. Assumes nothing.
use Rattle.job_text.specs.Parts.{put-family}
use Rattle.job_text.proofs.put_family.Goals as goal

pub returns : goal.returns
returns c =
    put-family _ _ _ _ _ _ c.requires _ _ c.put_number_line-rows.ensures _ _ c.put_rows.ensures
