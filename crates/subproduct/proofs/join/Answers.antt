-- `subproduct::join` meets its contract: each row of the right half's matrix times the left half's is a pair, and the two pairs are
-- the node's lists. Assumes nothing.
use Rattle.subproduct.specs.Join.{join_first, join-second, join_written}
use Rattle.subproduct.proofs.join.Goals as goal

pub expand_pair-requires : goal.expand_pair-requires
expand_pair-requires c = join_first c.requires

pub expand_pair-requires-2 : goal.expand_pair-requires-2
expand_pair-requires-2 c =
    join-second c.requires c.expand_pair.ensures

pub returns : goal.returns
returns c =
    join_written c.requires c.expand_pair.ensures c.expand_pair-2.ensures
