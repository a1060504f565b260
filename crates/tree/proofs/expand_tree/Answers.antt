-- `tree::expand_tree` meets its contract: each step is handed what it requires, and the last leaves the model's list (`core-expand`).
-- Assumes nothing.
use Rattle.definitions.specs.Conversion.{expand}
use Rattle.lists.specs.Lending.{lending-rows, lending-family}
use Rattle.tree_model.specs.Tree.{tree_expand}
use Rattle.tree_model.proofs.TreeExpand.{tree-expand}
use Rattle.tree.proofs.Taken.{taken, tree-made}
use Rattle.tree.proofs.Core.{core-build, core-climb, core-root, core-expand}
use Rattle.tree.proofs.expand_tree.Goals as goal

pub build-requires : goal.build-requires
build-requires c = rw (← c.family.view_is)
    (core-build (taken _ _ c.family.invariant (rw (← c.family.view_is) at c.requires.curve) c.requires.few c.requires.room c.requires.work) c.requires.many c.level_for-level.ensures c.pairs_for-pairs.ensures (lending-rows c.family.invariant (rw (← c.family.view_is) at c.requires.curve)))

pub climb-requires : goal.climb-requires
climb-requires c =
    core-climb (taken _ _ c.family.invariant (rw (← c.family.view_is) at c.requires.curve) c.requires.few c.requires.room c.requires.work) c.requires.many c.level_for-level.ensures c.pairs_for-pairs.ensures (lending-family c.family.invariant (rw (← c.family.view_is) at c.requires.curve)) (rw (← c.family.view_is) at c.build.ensures)

pub expand_root-requires : goal.expand_root-requires
expand_root-requires c =
    core-root (taken _ _ c.family.invariant (rw (← c.family.view_is) at c.requires.curve) c.requires.few c.requires.room c.requires.work) c.requires.many c.level_for-level.ensures c.pairs_for-pairs.ensures
    (lending-family c.family.invariant (rw (← c.family.view_is) at c.requires.curve)) (rw (← c.family.view_is) at c.build.ensures) c.climb.ensures c.requires.room

pub returns : goal.returns
returns c =
    let curve = rw (← c.family.view_is) at c.requires.curve in
    let input = taken _ _ c.family.invariant curve c.requires.few c.requires.room c.requires.work in
    rw (← c.family.view_is) (tree-made _ _ c.family.invariant curve c.requires.few c.requires.room c.requires.work tree_expand expand tree-expand
    (core-expand input c.requires.many c.level_for-level.ensures c.pairs_for-pairs.ensures
    (lending-family c.family.invariant curve) (rw (← c.family.view_is) at c.build.ensures) c.climb.ensures c.requires.room c.expand_root.ensures))
