-- `tree_decompose` meets its promise: it answers the verdict of its tests, and its core, lent the inverses of the a and of the c, writes
-- the definition's list and leaves the working list clear. Assumes nothing.
use Rattle.std.proofs.Common.{arith, subst, take}
use Rattle.definitions.specs.Conversion.{decompose}
use Rattle.definitions.specs.Family.{size}
use Rattle.inverses.specs.InverseArray.{a-room, c-room, array-is}
use Rattle.lists.specs.Held.{Output}
use Rattle.tree_calls.specs.MomentCore.{decompose-input, decompose-lending, decompose-beside, decompose-beside-c, decompose-curve}
use Rattle.tree_calls.specs.TreeCore.{tree-input, core-made}
use Rattle.tree_calls.proofs.tree_decompose.Goals as goal

pub of_list-requires : goal.of_list-requires
of_list-requires c =
    let input = tree-input c.tree.ensures c.in_ok-tree.was in
    a-room input.plain.accepted c.zeros-a_inverses.ensures

pub of_list-requires-2 : goal.of_list-requires-2
of_list-requires-2 c =
    let input = tree-input c.tree.ensures c.in_ok-tree.was in
    c-room input.plain.accepted c.zeros-c_inverses.ensures

pub invariant_of-family : goal.invariant_of-family
invariant_of-family c =
    let input = tree-input c.tree.ensures c.in_ok-tree.was in
    let accepted = input.plain.accepted in
    let core = decompose-input accepted (array-is accepted c.zeros-a_inverses.ensures c.of_list.ensures)
    (array-is accepted c.zeros-c_inverses.ensures c.of_list-2.ensures) input in
    decompose-lending accepted core

pub by_ones-inverted-requires : goal.by_ones-inverted-requires
by_ones-inverted-requires c =
    let input = tree-input c.tree.ensures c.in_ok-tree.was in
    let accepted = input.plain.accepted in
    let core = decompose-input accepted (array-is accepted c.zeros-a_inverses.ensures c.of_list.ensures)
    (array-is accepted c.zeros-c_inverses.ensures c.of_list-2.ensures) input in
    decompose-beside accepted core

pub decompose-requires-clause-inverses : goal.decompose-requires-clause-inverses
decompose-requires-clause-inverses c =
    let input = tree-input c.tree.ensures c.in_ok-tree.was in
    let accepted = input.plain.accepted in
    let core = decompose-input accepted (array-is accepted c.zeros-a_inverses.ensures c.of_list.ensures)
    (array-is accepted c.zeros-c_inverses.ensures c.of_list-2.ensures) input in
    rw c.by_ones-inverted.ensures (decompose-beside-c accepted core)

pub decompose-requires-clause-curve : goal.decompose-requires-clause-curve
decompose-requires-clause-curve c =
    let input = tree-input c.tree.ensures c.in_ok-tree.was in
    let accepted = input.plain.accepted in
    let core = decompose-input accepted (array-is accepted c.zeros-a_inverses.ensures c.of_list.ensures)
    (array-is accepted c.zeros-c_inverses.ensures c.of_list-2.ensures) input in
    rw c.by_ones-inverted.ensures (decompose-curve accepted core)

pub decompose-requires-clause-few : goal.decompose-requires-clause-few
decompose-requires-clause-few c =
    let input = tree-input c.tree.ensures c.in_ok-tree.was in
    let accepted = input.plain.accepted in
    let core = decompose-input accepted (array-is accepted c.zeros-a_inverses.ensures c.of_list.ensures)
    (array-is accepted c.zeros-c_inverses.ensures c.of_list-2.ensures) input in
    rw c.by_ones-inverted.ensures (omega (arith, core.closed.most))

pub decompose-requires-clause-room : goal.decompose-requires-clause-room
decompose-requires-clause-room c =
    let input = tree-input c.tree.ensures c.in_ok-tree.was in
    let accepted = input.plain.accepted in
    let core = decompose-input accepted (array-is accepted c.zeros-a_inverses.ensures c.of_list.ensures)
    (array-is accepted c.zeros-c_inverses.ensures c.of_list-2.ensures) input in
    rw c.by_ones-inverted.ensures (omega (arith, core.output_long))

pub decompose-requires-clause-work : goal.decompose-requires-clause-work
decompose-requires-clause-work c =
    let input = tree-input c.tree.ensures c.in_ok-tree.was in
    let accepted = input.plain.accepted in
    let core = decompose-input accepted (array-is accepted c.zeros-a_inverses.ensures c.of_list.ensures)
    (array-is accepted c.zeros-c_inverses.ensures c.of_list-2.ensures) input in
    core.work_long

pub returns : goal.returns
returns c =
    core-made (tree-input c.tree.ensures c.in_ok-tree.was) decompose c.tree.ensures c.in_ok-tree.was
    (subst (λ f. Output (decompose f (take (size f) c.args.coefficients.now)) (size f)
    c.args.output.now c.decompose.new.output c.args.work.now c.decompose.new.work) c.by_ones-inverted.ensures c.decompose.ensures)
