-- `put_rows` puts the lines of a, b and c, each right after the one before. Assumes nothing.
use Rattle.job_text.specs.Parts.{put-rows}
use Rattle.job_text.proofs.put_rows.Goals as goal

pub returns : goal.returns
returns c =
    put-rows _ _ _ _ _ c.requires _ _ c.put_line-after_a.ensures _ _ c.put_line-after_b.ensures _ _ c.put_line.ensures
