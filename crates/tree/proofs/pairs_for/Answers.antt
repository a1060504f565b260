-- `tree::pairs_for` meets its contract: the shift is a power of two below 2^64. Assumes nothing.
use Rattle.tree.specs.Root.{pairs-level}
use Rattle.tree.proofs.pairs_for.Goals as goal

pub returns : goal.returns
returns c = pairs-level _ c.requires
