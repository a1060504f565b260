-- `tree::level_for` meets its contract: the leading zeros of n - 1 say which level covers n (`leading-level`). Assumes nothing.
use Rattle.tree.specs.Root.{leading-level}
use Rattle.tree.proofs.level_for.Goals as goal

pub overflow_sub-result : goal.overflow_sub-result
overflow_sub-result c = (leading-level _ c.requires.0 c.requires.1).zeros

pub returns : goal.returns
returns c = (leading-level _ c.requires.0 c.requires.1).level
