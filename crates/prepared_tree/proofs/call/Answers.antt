-- `call` keeps the promise of a conversion on a record: the rows that its core is lent are those of an accepted family. Assumes nothing.
use Rattle.prepared_model.specs.Rightness.{right-few}
use Rattle.prepared_tree.specs.RecordTree.{record-right, core-lending, core-asked, core-made}
use Rattle.prepared_tree.proofs.call.Goals as goal

pub shared_ref_as_front-lent : goal.shared_ref_as_front-lent
shared_ref_as_front-lent g c = right-few (record-right _ _ _ _ c.tree_verdict.ensures c.in_ok-tree_verdict.was)

pub invariant_of-lent : goal.invariant_of-lent
invariant_of-lent g c = core-lending _ _ _ _ c.tree_verdict.ensures c.in_ok-tree_verdict.was

pub convert_front-requires : goal.convert_front-requires
convert_front-requires g c = core-asked _ _ _ _ c.tree_verdict.ensures c.in_ok-tree_verdict.was

pub returns : goal.returns
returns g c = core-made _ _ _ _ c.tree_verdict.ensures c.in_ok-tree_verdict.was g.C.Conversion.converted c.convert_front.ensures
