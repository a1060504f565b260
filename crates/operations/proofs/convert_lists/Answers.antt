-- `convert_lists` meets its promise: with the sizes in order, the verdict of each call is that of the tests that are left. Assumes nothing.
use mathlib.Core.Path.{refl}
use Rattle.acceptance.proofs.HandedOn.{handed-on}
use Rattle.operations.specs.Lists.{expand-promised, adjoint-promised, decompose-promised, moments-promised, norms-promised}
use Rattle.operations.proofs.convert_lists.Goals as goal

pub returns-in_err-norms-in-Norms : goal.returns-in_err-norms-in-Norms
returns-in_err-norms-in-Norms c =
    let refused = handed-on _ _ c.from_residual.ensures.1 in
    norms-promised _ _ _ _ _ c.requires _ _ _ c.in-Norms.is (rw refused (rw c.in_err-norms-in-Norms.was at c.norms.ensures)) (rw refused refl)

pub clear-requires : goal.clear-requires
clear-requires c =
    c.requires.room

pub returns-in-Expand : goal.returns-in-Expand
returns-in-Expand c =
    expand-promised _ _ _ _ _ c.requires _ _ _
    c.in-Expand.is c.tree_expand.ensures

pub returns-in-Adjoint : goal.returns-in-Adjoint
returns-in-Adjoint c =
    adjoint-promised _ _ _ _ _ c.requires _ _ _
    c.in-Adjoint.is c.tree_adjoint.ensures

pub returns-in-Decompose : goal.returns-in-Decompose
returns-in-Decompose c =
    decompose-promised _ _ _ _ _ c.requires _ _ _
    c.in-Decompose.is c.tree_decompose.ensures

pub returns-in-Moments : goal.returns-in-Moments
returns-in-Moments c =
    moments-promised _ _ _ _ _ c.requires _ _ _
    c.in-Moments.is c.moments.ensures

pub returns-in_ok-norms-in-Norms : goal.returns-in_ok-norms-in-Norms
returns-in_ok-norms-in-Norms c =
    norms-promised _ _ _ _ _ c.requires _ _ _
    c.in-Norms.is
    (rw c.in_ok-norms-in-Norms.was at c.norms.ensures) c.clear.ensures
