-- `plain_decompose` meets its promise: it answers the verdict of its tests, and its core, lent the inverses of the a, writes the
-- definition's list. Assumes nothing.
use Rattle.std.proofs.Common.{◌∙◌, sym, length-take-le}
use Rattle.definitions.specs.Conversion.{decompose}
use Rattle.acceptance.specs.Promises.{tests-finish}
use Rattle.plain_calls.specs.PlainCall.{plain-input}
use Rattle.inverses.specs.InverseArray.{a-room, array-is, whole-inverts}
use Rattle.plain.proofs.Taken.{written-decomposed}
use Rattle.plain.specs.Input.{convert-lent, convert-asked}
use Rattle.plain_calls.specs.PlainCore.{decompose-core, by-inverses, plain-written}
use Rattle.plain_calls.proofs.plain_decompose.Goals as goal

pub of_list-requires : goal.of_list-requires
of_list-requires c =
    let input = plain-input _ c.plain.ensures c.in_ok-plain.was in
    a-room input.accepted c.zeros-a_inverses.ensures

pub slice_bounds-a_inverses-end : goal.slice_bounds-a_inverses-end
slice_bounds-a_inverses-end c =
    let input = plain-input _ c.plain.ensures c.in_ok-plain.was in
    (array-is input.accepted c.zeros-a_inverses.ensures c.of_list.ensures).holds.long

pub slice_bounds-inverted-end : goal.slice_bounds-inverted-end
slice_bounds-inverted-end c =
    let input = plain-input _ c.plain.ensures c.in_ok-plain.was in
    sym (length-take-le _ _ (array-is input.accepted c.zeros-a_inverses.ensures c.of_list.ensures).holds.long)

pub invariant_of-inverted : goal.invariant_of-inverted
invariant_of-inverted c =
    let input = plain-input _ c.plain.ensures c.in_ok-plain.was in
    let inverted = array-is input.accepted c.zeros-a_inverses.ensures c.of_list.ensures in
    convert-lent (decompose-core c.args.output.now input inverted) (by-inverses input.accepted _)

pub decompose-requires : goal.decompose-requires
decompose-requires c =
    let input = plain-input _ c.plain.ensures c.in_ok-plain.was in
    let inverted = array-is input.accepted c.zeros-a_inverses.ensures c.of_list.ensures in
    convert-asked (decompose-core _ input inverted) (by-inverses input.accepted _)

pub returns : goal.returns
returns c =
    let input = plain-input _ c.plain.ensures c.in_ok-plain.was in
    let inverted = array-is input.accepted c.zeros-a_inverses.ensures c.of_list.ensures in
    tests-finish _ _ c.plain.ensures c.in_ok-plain.was
    (written-decomposed (decompose-core _ input inverted) (by-inverses input.accepted _) c.decompose.ensures
    c.args.a.now (whole-inverts input.accepted inverted)
    ∙ plain-written c.args.output.now input decompose)
