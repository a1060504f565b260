-- `last_polynomial` meets its contract: the tree is handed the list 0 .. 0 1. Assumes nothing.
use Rattle.std.proofs.Common.{◌∙◌, ap}
use Rattle.definitions.specs.Conversion.{expand}
use Rattle.definitions.specs.Family.{rows}
use Rattle.tree_model.specs.Extended.{last_unit}
use Rattle.moment_way.proofs.Taken.{unit, unit-curve}
use Rattle.moment_way.proofs.last_polynomial.Goals as goal

pub expand_whole-requires-clause-curve : goal.expand_whole-requires-clause-curve
expand_whole-requires-clause-curve c =
    let few = rw (← c.family.view_is) at c.requires.few in
    let room = rw (← c.family.view_is) at c.requires.room in
    rw (← c.family.view_is) (unit-curve c.zeros-curve.ensures c.family.invariant few _ _ room c.requires.work)

pub returns-clause-written : goal.returns-clause-written
returns-clause-written c =
    let few = rw (← c.family.view_is) at c.requires.few in
    let room = rw (← c.family.view_is) at c.requires.room in
    c.expand_whole.ensures.written ∙ ap (expand c.args.family.now) (unit c.zeros-curve.ensures c.family.invariant few _ _ room c.requires.work)
    ∙ ap (λ f. expand c.args.family.now (last_unit (rows f))) c.family.view_is
