-- `put_bytes` copies all bytes at once. Assumes nothing.
use native.Mathlib.Omega.{arith}
use Rattle.writer.specs.Putting.{put_whole}
use Rattle.writer.proofs.put_bytes.Goals as goal

pub returns : goal.returns
returns c = put_whole _ _ _ _ _ c.copy_from_slice.ensures.after (omega arith)
