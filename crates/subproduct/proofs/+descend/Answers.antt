-- `subproduct::descend` meets its contract: the halves' entries stand side by side, and nothing else changes but scratch
-- (`descend-output`). Assumes nothing.
use mathlib.Core.Path.{◌∙◌}
use native.Mathlib.Omega.{arith}
use Rattle.subproduct.specs.Descend.{descend-one, descend-one-output, descend-left, descend-pair, descend-right, descend-output}
use Rattle.subproduct.proofs.+descend.Goals as goal

pub bounds-w-first : goal.bounds-w-first
bounds-w-first t c = (descend-one c.requires c.if-pairs-eq1.true).first_inside

pub bounds-w-second : goal.bounds-w-second
bounds-w-second t c = (descend-one c.requires c.if-pairs-eq1.true).second_inside

pub store-requires : goal.store-requires
store-requires t c = (omega arith, (descend-one c.requires c.if-pairs-eq1.true).inside)

pub returns-then-pairs-eq1 : goal.returns-then-pairs-eq1
returns-then-pairs-eq1 t c =
    descend-one-output c.requires c.if-pairs-eq1.true c.store.ensures

pub descend-requires : goal.descend-requires
descend-requires t c =
    (omega arith, descend-left c.requires c.half_size-size.ensures)

pub adjoint_pair-requires : goal.adjoint_pair-requires
adjoint_pair-requires t c =
    descend-pair c.requires c.half_size-size.ensures c.descend.ensures

pub descend-requires-2 : goal.descend-requires-2
descend-requires-2 t c =
    (omega arith, descend-right c.requires c.half_size-size.ensures c.descend.ensures c.adjoint_pair.ensures)

pub shape_of-w : goal.shape_of-w
shape_of-w t c =
    c.descend-2.auto.w ∙ c.adjoint_pair.auto.w ∙ c.descend.auto.w

pub returns : goal.returns
returns t c =
    descend-output c.requires c.half_size-size.ensures c.descend.ensures c.adjoint_pair.ensures
    c.descend-2.ensures
