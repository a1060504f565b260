-- `subproduct::adjoint_pair` meets its contract: the two lists side by side are those of the pair, and what the second is made of is
-- there still. Assumes nothing.
use Rattle.subproduct.specs.AdjointPair.{adjoint_pair-first, adjoint_pair-second, adjoint_pair-written}
use Rattle.subproduct.proofs.adjoint_pair.Goals as goal

pub transposed-requires : goal.transposed-requires
transposed-requires c = adjoint_pair-first c.requires

pub transposed-requires-2 : goal.transposed-requires-2
transposed-requires-2 c =
    adjoint_pair-second c.requires c.transposed.ensures

pub returns : goal.returns
returns c =
    adjoint_pair-written c.requires c.transposed.ensures c.transposed-2.ensures
