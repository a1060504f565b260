-- `join_leaves_both` meets its law: what Join hands out leaves both lists. Assumes nothing.
use Rattle.join_laws.specs.Holding.{join-law}
use Rattle.join_laws.proofs.join_leaves_both.Goals as goal

pub returns : goal.returns
returns c = join-law _ _ _ _ _ _ _ c.join.ensures
