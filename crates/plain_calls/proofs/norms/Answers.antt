-- `norms` meets its promise: it answers the verdict of its tests, and its core, lent the inverses of the a, writes the definition's
-- list. Assumes nothing.
use mathlib.Core.Path.{◌∙◌}
use Rattle.acceptance.specs.Promises.{tests-finish}
use Rattle.plain_calls.specs.PlainCall.{norms-input}
use Rattle.inverses.specs.InverseArray.{a-room, array-is, whole-inverts}
use Rattle.plain_calls.specs.PlainCore.{norms-core, norms-written}
use Rattle.plain_calls.proofs.norms.Goals as goal

pub of_list-requires : goal.of_list-requires
of_list-requires c =
    let input = norms-input _ c.norms.ensures c.in_ok-norms.was in
    a-room input.accepted c.zeros-a_inverses.ensures

pub norms-requires-2 : goal.norms-requires-2
norms-requires-2 c =
    let input = norms-input _ c.norms.ensures c.in_ok-norms.was in
    norms-core _ input (array-is input.accepted c.zeros-a_inverses.ensures c.of_list.ensures)

pub returns : goal.returns
returns c =
    let input = norms-input _ c.norms.ensures c.in_ok-norms.was in
    let inverted = array-is input.accepted c.zeros-a_inverses.ensures c.of_list.ensures in
    tests-finish _ _ c.norms.ensures c.in_ok-norms.was
    (c.norms-2.ensures c.args.a.now c.args.b.now 1 1 (whole-inverts input.accepted inverted)
    ∙ norms-written c.args.output.now input)
