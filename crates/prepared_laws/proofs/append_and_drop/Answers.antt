-- `append_and_drop` keeps its promise: the old record comes back. Assumes nothing.
use Rattle.prepared_laws.specs.Growing.{append-kept, append-back}
use Rattle.prepared_laws.proofs.append_and_drop.Goals as goal

pub returns-in_default : goal.returns-in_default
returns-in_default c = append-kept _ _ _ _ c.append-first.ensures _ c.in_default.is

pub returns : goal.returns
returns c =
    append-back _ _ _ _ c.append-first.ensures c.in-Ok.is _ _ c.drop_last.ensures
