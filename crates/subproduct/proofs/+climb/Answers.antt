-- `subproduct::climb` meets its contract: the halves' pairs stand behind the node's, and nothing else changes but scratch (`climb-output`).
-- Assumes nothing.
use mathlib.Core.Path.{◌∙◌}
use native.Mathlib.Omega.{arith}
use Rattle.subproduct.specs.Climb.{climb-one, climb-left, climb-right, climb-pair, climb-output}
use Rattle.subproduct.proofs.+climb.Goals as goal

pub returns-then-pairs-eq1 : goal.returns-then-pairs-eq1
returns-then-pairs-eq1 t c =
    climb-one c.requires c.if-pairs-eq1.true
    c.row_entry-x.ensures c.row_entry-y.ensures c.store.ensures

pub climb-requires : goal.climb-requires
climb-requires t c =
    (omega arith, climb-left c.requires c.half_size-size.ensures)

pub climb-requires-2 : goal.climb-requires-2
climb-requires-2 t c =
    (omega arith, climb-right c.requires c.half_size-size.ensures c.climb.ensures)

pub expand_pair-requires : goal.expand_pair-requires
expand_pair-requires t c =
    climb-pair c.requires c.half_size-size.ensures
    c.climb.ensures c.climb-2.ensures

pub shape_of-w : goal.shape_of-w
shape_of-w t c =
    c.expand_pair.auto.w ∙ c.climb-2.auto.w ∙ c.climb.auto.w

pub returns : goal.returns
returns t c =
    climb-output c.requires c.half_size-size.ensures
    c.climb.ensures c.climb-2.ensures c.expand_pair.ensures
