-- `expand_after_decompose` meets its law, as Expand undoes Decompose. Assumes nothing.
use Rattle.laws.specs.RoundTrips.{expand-undoes-decompose}
use Rattle.laws.proofs.expand_after_decompose.Goals as goal

pub there_and_back-requires : goal.there_and_back-requires
there_and_back-requires c = expand-undoes-decompose
