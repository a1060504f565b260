-- `tree::adjoint_tree` meets its contract: each step is handed what it requires, and the last leaves the model's list (`core-adjoint`).
-- Assumes nothing.
use Rattle.definitions.specs.Conversion.{adjoint}
use Rattle.lists.specs.Lending.{lending-rows, lending-family}
use Rattle.tree_model.specs.Tree.{tree_adjoint}
use Rattle.tree_model.proofs.TreeAdjoint.{tree-adjoint}
use Rattle.tree.proofs.Taken.{taken, tree-made, taken-pair}
use Rattle.tree.proofs.Core.{core-build, core-pair, core-descend, core-room, core-copy, core-adjoint}
use native.Mathlib.Omega.{arith}
use Rattle.tree.proofs.adjoint_tree.Goals as goal

pub build-requires : goal.build-requires
build-requires c = rw (← c.family.view_is)
    (core-build (taken _ _ c.family.invariant (rw (← c.family.view_is) at c.requires.curve) c.requires.few c.requires.room c.requires.work) c.requires.many c.level_for-level.ensures c.pairs_for-pairs.ensures (lending-rows c.family.invariant (rw (← c.family.view_is) at c.requires.curve)))

pub root_pair-requires : goal.root_pair-requires
root_pair-requires c =
    core-pair (taken _ _ c.family.invariant (rw (← c.family.view_is) at c.requires.curve) c.requires.few c.requires.room c.requires.work) c.requires.many c.level_for-level.ensures c.pairs_for-pairs.ensures (lending-family c.family.invariant (rw (← c.family.view_is) at c.requires.curve)) (rw (← c.family.view_is) at c.build.ensures)

pub descend-requires : goal.descend-requires
descend-requires c =
    core-descend (taken _ _ c.family.invariant (rw (← c.family.view_is) at c.requires.curve) c.requires.few c.requires.room c.requires.work) c.requires.many c.level_for-level.ensures c.pairs_for-pairs.ensures
    (lending-family c.family.invariant (rw (← c.family.view_is) at c.requires.curve)) (rw (← c.family.view_is) at c.build.ensures) (taken-pair c.root_pair.ensures)

pub slice_bounds-copy_out-count : goal.slice_bounds-copy_out-count
slice_bounds-copy_out-count c =
    omega (
      arith,
      core-room (taken _ _ c.family.invariant (rw (← c.family.view_is) at c.requires.curve) c.requires.few c.requires.room c.requires.work) c.requires.many c.level_for-level.ensures c.pairs_for-pairs.ensures
          (lending-family c.family.invariant (rw (← c.family.view_is) at c.requires.curve)) (rw (← c.family.view_is) at c.build.ensures) (taken-pair c.root_pair.ensures) c.descend.ensures,
    )

pub slice_bounds-copy_out-start : goal.slice_bounds-copy_out-start
slice_bounds-copy_out-start c =
    omega (
      arith,
      core-room (taken _ _ c.family.invariant (rw (← c.family.view_is) at c.requires.curve) c.requires.few c.requires.room c.requires.work) c.requires.many c.level_for-level.ensures c.pairs_for-pairs.ensures
          (lending-family c.family.invariant (rw (← c.family.view_is) at c.requires.curve)) (rw (← c.family.view_is) at c.build.ensures) (taken-pair c.root_pair.ensures) c.descend.ensures,
    )

pub copy_out-requires : goal.copy_out-requires
copy_out-requires c =
    core-copy (taken _ _ c.family.invariant (rw (← c.family.view_is) at c.requires.curve) c.requires.few c.requires.room c.requires.work) c.requires.many c.level_for-level.ensures c.pairs_for-pairs.ensures
    (lending-family c.family.invariant (rw (← c.family.view_is) at c.requires.curve)) (rw (← c.family.view_is) at c.build.ensures) (taken-pair c.root_pair.ensures) c.descend.ensures

pub returns : goal.returns
returns c =
    let curve = rw (← c.family.view_is) at c.requires.curve in
    let input = taken _ _ c.family.invariant curve c.requires.few c.requires.room c.requires.work in
    rw (← c.family.view_is) (tree-made _ _ c.family.invariant curve c.requires.few c.requires.room c.requires.work tree_adjoint adjoint tree-adjoint
    (core-adjoint input c.requires.many c.level_for-level.ensures c.pairs_for-pairs.ensures
    (lending-family c.family.invariant curve) (rw (← c.family.view_is) at c.build.ensures) (taken-pair c.root_pair.ensures) c.descend.ensures c.copy_out.ensures))
