-- `decompose_after_expand` meets its law, as Decompose undoes Expand. Assumes nothing.
use Rattle.laws.specs.RoundTrips.{decompose-undoes-expand}
use Rattle.laws.proofs.decompose_after_expand.Goals as goal

pub there_and_back-requires : goal.there_and_back-requires
there_and_back-requires c = decompose-undoes-expand
