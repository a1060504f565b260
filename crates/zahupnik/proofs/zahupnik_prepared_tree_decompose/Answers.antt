-- `zahupnik_prepared_tree_decompose` returns the number of the answer of `prepared_tree::tree_decompose`, and leaves what that call leaves.
-- Assumes nothing.
use Rattle.zahupnik.specs.Positive.{prepared-tree-positive}
use Rattle.zahupnik.proofs.Returning.{list-returned-in}
use Rattle.zahupnik.proofs.zahupnik_prepared_tree_decompose.Goals as goal

pub returns : goal.returns
returns c = list-returned-in _ (prepared-tree-positive _ _ _ _) _ _ c.tree_decompose.ensures c.number.ensures
