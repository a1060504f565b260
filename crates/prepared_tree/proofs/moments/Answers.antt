-- `moments` meets its promise: it answers the verdict of its tests, and its core, lent the stored inverses of the a, writes the definition's
-- list and leaves the working list clear. Assumes nothing.
use Rattle.std.proofs.Common.{arith}
use Rattle.prepared_model.specs.Lending.{right-size}
use Rattle.prepared_model.specs.Rightness.{right-few}
use Rattle.prepared_tree.specs.RecordTree.{moments-right, moments-core, moments-lending, moments-beside, moments-left, moments-made}
use Rattle.prepared_tree.proofs.moments.Goals as goal

pub shared_ref_as_front-lent : goal.shared_ref_as_front-lent
shared_ref_as_front-lent c = right-few (moments-right _ _ _ c.moments_verdict.ensures c.in_ok-moments_verdict.was)

pub invariant_of-lent : goal.invariant_of-lent
invariant_of-lent c = moments-lending _ _ _ c.moments_verdict.ensures c.in_ok-moments_verdict.was

pub by_ones-inverted-requires : goal.by_ones-inverted-requires
by_ones-inverted-requires c = moments-beside _ _ _ c.moments_verdict.ensures c.in_ok-moments_verdict.was

pub moments-requires-clause-few : goal.moments-requires-clause-few
moments-requires-clause-few c =
    let right = moments-right _ _ _ c.moments_verdict.ensures c.in_ok-moments_verdict.was in
    let core = moments-core _ _ _ c.moments_verdict.ensures c.in_ok-moments_verdict.was in
    rw c.by_ones-inverted.ensures (omega (arith, right-size right, core.closed.most))

pub moments-requires-clause-room : goal.moments-requires-clause-room
moments-requires-clause-room c =
    let right = moments-right _ _ _ c.moments_verdict.ensures c.in_ok-moments_verdict.was in
    let core = moments-core _ _ _ c.moments_verdict.ensures c.in_ok-moments_verdict.was in
    rw c.by_ones-inverted.ensures (omega (arith, right-size right, core.output_long))

pub moments-requires-clause-work : goal.moments-requires-clause-work
moments-requires-clause-work c = (moments-core _ _ _ c.moments_verdict.ensures c.in_ok-moments_verdict.was).work_long

pub returns : goal.returns
returns c =
    moments-made _ _ _ c.moments_verdict.ensures c.in_ok-moments_verdict.was
    (moments-left _ _ _ c.moments_verdict.ensures c.in_ok-moments_verdict.was (rw c.by_ones-inverted.ensures at c.moments.ensures))
