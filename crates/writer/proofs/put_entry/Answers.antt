-- `put_entry` puts a number, after a space if it is not the first of its list. Assumes nothing.
use native.Mathlib.Omega.{arith}
use Rattle.writer.specs.Entries.{put_first, put-later}
use Rattle.writer.proofs.put_entry.Goals as goal

pub returns-then-is_first : goal.returns-then-is_first
returns-then-is_first c = put_first _ _ _ _ _ _ c.if-is_first.true c.put_number.ensures

pub returns : goal.returns
returns c = put-later _ _ _ _ _ _ c.if-is_first.false (omega arith) c.put_number-2.ensures
