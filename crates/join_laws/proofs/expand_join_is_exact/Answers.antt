-- `expand_join_is_exact` meets its law: what Expand and join hands out leaves both channels' lists, and is exact in its range. Assumes nothing.
use Rattle.join_laws.specs.Holding.{expand-join-law}
use Rattle.join_laws.proofs.expand_join_is_exact.Goals as goal

pub returns : goal.returns
returns c = expand-join-law _ _ _ _ _ _ _ c.expand_join.ensures
