-- `sizes` answers the verdict of 4, 5, 6 and 7. Assumes nothing.
use native.Mathlib.Numerals.{add-one}
use native.Mathlib.Omega.{arith}
use Rattle.acceptance.specs.Stages.{all-remain, stage-refuses, stage-passes, stages-end}
use Rattle.checks.specs.Shape.{shaped}
use Rattle.joining.specs.Calls.{size_tests}
use Rattle.expand_join.specs.Stages.{shape-lengths}
use Rattle.expand_join.proofs.sizes.Goals as goal

pub returns-in_default : goal.returns-in_default
unfolding size_tests
returns-in_default c =
    stage-refuses _ _ all-remain _ (shape-lengths _ _ _ _ c.requires c.family_shape-shape.result c.family_shape-shape.ensures) _ c.in_default.is

pub overflow_add-a : goal.overflow_add-a
overflow_add-a c = omega (arith, (shaped _ _ _ _ _ c.family_shape-shape.ensures c.in-Ok.is).few)

pub returns-in_default-entries : goal.returns-in_default-entries
unfolding size_tests
returns-in_default-entries c =
    let after_shape = stage-passes _ _ all-remain _ (shape-lengths _ _ _ _ c.requires c.family_shape-shape.result c.family_shape-shape.ensures)
    c.in-Ok.is in
    stage-refuses _ _ after_shape _ (rw add-one at c.curve_length-entries.ensures) _ c.in_default-entries.is

pub overflow_add-a-2 : goal.overflow_add-a-2
overflow_add-a-2 c =
    omega (arith, (shaped _ _ _ _ _ c.family_shape-shape.ensures c.in-Ok.is).few)

pub returns : goal.returns
unfolding size_tests
returns c =
    let after_shape = stage-passes _ _ all-remain _ (shape-lengths _ _ _ _ c.requires c.family_shape-shape.result c.family_shape-shape.ensures)
    c.in-Ok.is in
    let after_curve = stage-passes _ _ after_shape _ (rw add-one at c.curve_length-entries.ensures) c.in-Ok-entries.is in
    stages-end _ after_curve c.output_length.result (rw add-one at c.output_length.ensures)
