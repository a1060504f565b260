-- `zahupnik_prepared_tree_adjoint` returns the number of the answer of `prepared_tree::tree_adjoint`, and leaves what that call leaves.
-- Assumes nothing.
use Rattle.zahupnik.specs.Positive.{prepared-tree-positive}
use Rattle.zahupnik.proofs.Returning.{list-returned-in}
use Rattle.zahupnik.proofs.zahupnik_prepared_tree_adjoint.Goals as goal

pub returns : goal.returns
returns c = list-returned-in _ (prepared-tree-positive _ _ _ _) _ _ c.tree_adjoint.ensures c.number.ensures
