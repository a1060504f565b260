-- `tree::root_coefficient` meets its contract: what each slice lends is the part, and F_0 is 1. Assumes nothing.
use Rattle.tree.specs.Root.{root-input, root_is}
use Rattle.tree.proofs.root_coefficient.Goals as goal

pub products_at-requires : goal.products_at-requires
products_at-requires c = root-input c.requires

pub returns : goal.returns
returns c = root_is c.requires c.products_at.ensures
