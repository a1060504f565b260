-- `call` meets its promise: it answers the verdict of its tests, and the core, lent the accepted family, writes the definition's list and
-- leaves the working list clear. Assumes nothing.
use Rattle.tree_calls.specs.TreeCore.{tree-input, core-lending, core-asked, core-made}
use Rattle.tree_calls.proofs.call.Goals as goal

pub invariant_of-family : goal.invariant_of-family
invariant_of-family g c = core-lending (tree-input c.tree.ensures c.in_ok-tree.was)

pub convert_front-requires : goal.convert_front-requires
convert_front-requires g c = core-asked (tree-input c.tree.ensures c.in_ok-tree.was)

pub returns : goal.returns
returns g c =
    core-made (tree-input c.tree.ensures c.in_ok-tree.was) g.C.Conversion.converted c.tree.ensures c.in_ok-tree.was c.convert_front.ensures
