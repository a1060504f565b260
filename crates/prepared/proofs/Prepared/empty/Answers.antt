-- `empty` keeps its promise: the record of no rows, or all zeros. Assumes nothing.
use Rattle.prepared.specs.ChangeCalls.{empty-refused, empty-preparable, empty-made}
use Rattle.prepared.proofs.Prepared.empty.Goals as goal

pub returns-in_default : goal.returns-in_default
returns-in_default c =
    empty-refused _ _ c.modulus-tested.ensures _ c.in_default.is _ _
    c.zeros-none.ensures c.zeros-norms.ensures

pub prepare-requires : goal.prepare-requires
prepare-requires c =
    empty-preparable _ _ c.modulus-tested.ensures c.in-Ok.is _ c.zeros-none.ensures

pub returns : goal.returns
returns c =
    empty-made _ _ c.modulus-tested.ensures c.in-Ok.is _ c.zeros-none.ensures
    _ c.prepare.ensures
