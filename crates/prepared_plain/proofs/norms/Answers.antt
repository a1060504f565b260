-- `norms` meets its promise: it answers the verdict of its tests, and copies the stored norms, which are the definition's list.
-- Assumes nothing.
use Rattle.prepared_plain.specs.RecordCore.{norms-room, norms-made}
use Rattle.prepared_plain.proofs.norms.Goals as goal

pub copy-requires : goal.copy-requires
copy-requires c =
    norms-room _ c.in_ok-norms_verdict.was _ c.norms_verdict.ensures

pub returns : goal.returns
returns c =
    norms-made _ c.in_ok-norms_verdict.was _ c.norms_verdict.ensures c.copy.ensures
