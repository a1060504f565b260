-- `tree_decompose` meets its promise: it answers the verdict of its tests, and its core, lent the stored inverses, writes the definition's
-- list and leaves the working list clear. Assumes nothing.
use Rattle.std.proofs.Common.{arith, subst, take}
use Rattle.definitions.specs.Conversion.{decompose}
use Rattle.definitions.specs.Family.{size}
use Rattle.lists.specs.Held.{Output}
use Rattle.prepared_model.specs.Lending.{right-size}
use Rattle.prepared_model.specs.Rightness.{right-few}
use Rattle.prepared_tree.specs.RecordTree.{record-right, core-lending, core-left, decompose-made, decompose-core}
use Rattle.prepared_tree.specs.RecordTree.{decompose-beside, decompose-beside-c, decompose-curve}
use Rattle.prepared_tree.proofs.tree_decompose.Goals as goal

pub shared_ref_as_front-lent : goal.shared_ref_as_front-lent
shared_ref_as_front-lent c = right-few (record-right _ _ _ _ c.tree_verdict.ensures c.in_ok-tree_verdict.was)

pub invariant_of-lent : goal.invariant_of-lent
invariant_of-lent c = core-lending _ _ _ _ c.tree_verdict.ensures c.in_ok-tree_verdict.was

pub by_ones-inverted-requires : goal.by_ones-inverted-requires
by_ones-inverted-requires c = decompose-beside _ _ _ _ c.tree_verdict.ensures c.in_ok-tree_verdict.was

pub decompose-requires-clause-inverses : goal.decompose-requires-clause-inverses
decompose-requires-clause-inverses c = rw c.by_ones-inverted.ensures (decompose-beside-c _ _ _ _ c.tree_verdict.ensures c.in_ok-tree_verdict.was)

pub decompose-requires-clause-curve : goal.decompose-requires-clause-curve
decompose-requires-clause-curve c = rw c.by_ones-inverted.ensures (decompose-curve _ _ _ _ c.tree_verdict.ensures c.in_ok-tree_verdict.was)

pub decompose-requires-clause-few : goal.decompose-requires-clause-few
decompose-requires-clause-few c =
    let right = record-right _ _ _ _ c.tree_verdict.ensures c.in_ok-tree_verdict.was in
    let core = decompose-core _ _ _ _ c.tree_verdict.ensures c.in_ok-tree_verdict.was in
    rw c.by_ones-inverted.ensures (omega (arith, right-size right, core.closed.most))

pub decompose-requires-clause-room : goal.decompose-requires-clause-room
decompose-requires-clause-room c =
    let right = record-right _ _ _ _ c.tree_verdict.ensures c.in_ok-tree_verdict.was in
    let core = decompose-core _ _ _ _ c.tree_verdict.ensures c.in_ok-tree_verdict.was in
    rw c.by_ones-inverted.ensures (omega (arith, right-size right, core.output_long))

pub decompose-requires-clause-work : goal.decompose-requires-clause-work
decompose-requires-clause-work c = (decompose-core _ _ _ _ c.tree_verdict.ensures c.in_ok-tree_verdict.was).work_long

pub returns : goal.returns
returns c =
    decompose-made _ _ _ _ c.tree_verdict.ensures c.in_ok-tree_verdict.was
    (core-left _ _ _ _ c.tree_verdict.ensures c.in_ok-tree_verdict.was decompose
    (subst (λ f. Output (decompose f (take (size f) c.args.coefficients.now)) (size f)
    c.args.output.now c.decompose.new.output c.args.work.now c.decompose.new.work) c.by_ones-inverted.ensures c.decompose.ensures))
