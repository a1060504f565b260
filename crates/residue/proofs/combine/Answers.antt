-- `combine` meets its contract: it is what the remainder promises. Stated, so that a wrong promise is told from a search that gives up.
-- Assumes nothing.
use Rattle.residue.proofs.combine.Goals as goal

pub returns : goal.returns
returns c = c.remainder.ensures
