-- `tree::expand_whole` meets its contract: with one entry there is no tree; otherwise the tree's answer stands, and the working list is cleared
-- behind it. Assumes nothing.
use Rattle.std.proofs.Common.{refl, ◌∙◌}
use Rattle.definitions.specs.Conversion.{expand}
use Rattle.lists.specs.Whole.{written-whole}
use Rattle.tree_model.specs.Tree.{tree_expand}
use Rattle.tree_model.proofs.TreeExpand.{tree-expand}
use Rattle.tree.specs.Core.{wiped-output}
use Rattle.tree.proofs.Core.{alone-expand}
use Rattle.tree.proofs.Taken.{taken, alone-made}
use Rattle.tree.proofs.expand_whole.Goals as goal

pub returns-then-curve-eq1-clause-written : goal.returns-then-curve-eq1-clause-written
returns-then-curve-eq1-clause-written c =
    let curve = rw (← c.family.view_is) at c.requires.curve in
    let input = taken _ _ c.family.invariant curve c.requires.few c.requires.room c.requires.work in
    rw (← c.family.view_is) (alone-made _ _ c.family.invariant curve c.requires.few c.requires.room c.requires.work tree_expand expand tree-expand
    (alone-expand input c.if-curve-eq1.true refl c.clear.ensures))

pub returns-clause-written : goal.returns-clause-written
returns-clause-written c = c.expand_tree.ensures.written ∙ written-whole _ _ _ c.requires.room

pub returns-clause-wiped : goal.returns-clause-wiped
returns-clause-wiped c = (wiped-output c.expand_tree.ensures c.clear-2.ensures).wiped
