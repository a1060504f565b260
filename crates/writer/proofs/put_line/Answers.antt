-- `put_line` puts a line: its key, its numbers and byte 10, each right after the one before. Assumes nothing.
use Rattle.writer.specs.Lines.{put_ended}
use Rattle.writer.proofs.put_line.Goals as goal

pub returns : goal.returns
returns c =
    put_ended _ _ _ _ _ c.requires _ _ c.put_bytes-first.ensures _ _ c.put_numbers-end.ensures
