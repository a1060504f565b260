-- `products::entry` meets its contract: inside the part the entry is read, and past it it is zero. Assumes nothing.
use mathlib.Core.Path.{sym}
use Rattle.numbers.specs.Regions.{part-entry, part-past}
use Rattle.products.proofs.entry.Goals as goal

pub returns-then-i-n : goal.returns-then-i-n
returns-then-i-n c = sym (part-entry _ _ _ _ c.if-i-n.true)

pub returns-else-i-n : goal.returns-else-i-n
returns-else-i-n c = sym (part-past _ _ _ _ c.if-i-n.false)
