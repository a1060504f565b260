-- `by_way` meets its promise: the call of each way keeps it. Assumes nothing.
use Rattle.laws.specs.ByWay.{by-plain, by-tree}
use Rattle.laws.proofs.by_way.Goals as goal

pub returns-in-Plain : goal.returns-in-Plain
returns-in-Plain g c =
    rw c.in-Plain.is (by-plain _ _ _ _ _ _ _ c.plain.ensures)

pub returns-in-Tree : goal.returns-in-Tree
returns-in-Tree g c =
    rw c.in-Tree.is
    (by-tree _ _ _ _ _ _ _ _ c.tree.ensures)
