-- `subproduct::build` meets its contract: the halves are stored side by side, and what is joined of them behind (`build-stored`). Assumes
-- nothing.
use mathlib.Core.Path.{◌∙◌}
use native.Mathlib.Omega.{arith}
use Rattle.subproduct.specs.Build.{build-one, build-one-stored, build-left, build-right, build-join, build-stored}
use Rattle.subproduct.proofs.Lent.{tree-first}
use Rattle.subproduct.proofs.+build.Goals as goal

pub build_leaf-requires : goal.build_leaf-requires
build_leaf-requires t c = build-one c.requires c.if-pairs-eq1.true

pub returns-then-pairs-eq1 : goal.returns-then-pairs-eq1
returns-then-pairs-eq1 t c = rw (← c.family.view_is, ← tree-first c.family.invariant)
    (build-one-stored (rw (← c.family.view_is) at c.requires) c.if-pairs-eq1.true
    (rw (← c.family.view_is, ← tree-first c.family.invariant) at c.build_leaf.ensures))

pub build-requires : goal.build-requires
build-requires t c =
    (omega arith, build-left c.requires c.half_size-size.ensures)

pub build-requires-2 : goal.build-requires-2
build-requires-2 t c = rw (← c.family.view_is) (
  omega arith,
  build-right (rw (← c.family.view_is) at c.requires) c.half_size-size.ensures
      (rw (← c.family.view_is, ← tree-first c.family.invariant) at c.build.ensures),
)

pub join-requires : goal.join-requires
join-requires t c =
    build-join (rw (← c.family.view_is) at c.requires) c.half_size-size.ensures (rw (← c.family.view_is, ← tree-first c.family.invariant) at c.build.ensures)
    (rw (← c.family.view_is, ← tree-first c.family.invariant) at c.build-2.ensures)

pub shape_of-w : goal.shape_of-w
shape_of-w t c =
    c.join.auto.w ∙ c.build-2.auto.w ∙ c.build.auto.w

pub returns : goal.returns
returns t c = rw (← c.family.view_is, ← tree-first c.family.invariant)
    (build-stored (rw (← c.family.view_is) at c.requires) c.half_size-size.ensures (rw (← c.family.view_is, ← tree-first c.family.invariant) at c.build.ensures)
    (rw (← c.family.view_is, ← tree-first c.family.invariant) at c.build-2.ensures) c.join.ensures)
