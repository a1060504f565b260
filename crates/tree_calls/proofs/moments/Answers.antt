-- `moments` meets its promise: it answers the verdict of its tests, and its core, lent the inverses of the a, writes the definition's
-- list and leaves the working list clear. Assumes nothing.
use Rattle.std.proofs.Common.{arith}
use Rattle.inverses.specs.InverseArray.{a-room, array-is}
use Rattle.tree_calls.specs.MomentCore.{moments-accepted, moments-input, moments-lending, moments-beside, moments-left, moments-made}
use Rattle.tree_calls.proofs.moments.Goals as goal

pub of_list-requires : goal.of_list-requires
of_list-requires c =
    let input = moments-accepted c.moments.ensures c.in_ok-moments.was in
    a-room input.accepted c.zeros-a_inverses.ensures

pub invariant_of-family : goal.invariant_of-family
invariant_of-family c =
    let input = moments-accepted c.moments.ensures c.in_ok-moments.was in
    let core = moments-input input.accepted (array-is input.accepted c.zeros-a_inverses.ensures c.of_list.ensures) input in
    moments-lending input.accepted core

pub by_ones-inverted-requires : goal.by_ones-inverted-requires
by_ones-inverted-requires c =
    let input = moments-accepted c.moments.ensures c.in_ok-moments.was in
    let core = moments-input input.accepted (array-is input.accepted c.zeros-a_inverses.ensures c.of_list.ensures) input in
    moments-beside input.accepted core

pub moments-requires-2-clause-few : goal.moments-requires-2-clause-few
moments-requires-2-clause-few c =
    let input = moments-accepted c.moments.ensures c.in_ok-moments.was in
    let core = moments-input input.accepted (array-is input.accepted c.zeros-a_inverses.ensures c.of_list.ensures) input in
    rw c.by_ones-inverted.ensures (omega (arith, core.closed.most))

pub moments-requires-2-clause-room : goal.moments-requires-2-clause-room
moments-requires-2-clause-room c =
    let input = moments-accepted c.moments.ensures c.in_ok-moments.was in
    let core = moments-input input.accepted (array-is input.accepted c.zeros-a_inverses.ensures c.of_list.ensures) input in
    rw c.by_ones-inverted.ensures (omega (arith, core.output_long))

pub moments-requires-2-clause-work : goal.moments-requires-2-clause-work
moments-requires-2-clause-work c =
    let input = moments-accepted c.moments.ensures c.in_ok-moments.was in
    (moments-input input.accepted (array-is input.accepted c.zeros-a_inverses.ensures c.of_list.ensures) input).work_long

pub returns : goal.returns
returns c =
    let input = moments-accepted c.moments.ensures c.in_ok-moments.was in
    moments-made input c.moments.ensures c.in_ok-moments.was
    (moments-left input.accepted (rw c.by_ones-inverted.ensures at c.moments-2.ensures))
