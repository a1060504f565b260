-- `reversed_entry` meets its contract: the entries of a reversal, inside and past the end.
-- Assumes nothing.
use Rattle.series.specs.Division.{reversed-inside, reversed-past}
use Rattle.series.proofs.reversed_entry.Goals as goal

pub returns-then-i-n : goal.returns-then-i-n
returns-then-i-n c = reversed-inside _ _ _ c.if-i-n.true

pub returns-else-i-n : goal.returns-else-i-n
returns-else-i-n c = reversed-past _ _ _ c.if-i-n.false
