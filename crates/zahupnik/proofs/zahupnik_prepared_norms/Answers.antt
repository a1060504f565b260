-- `zahupnik_prepared_norms` returns the number of the answer of `prepared_plain::norms`, and leaves what that call leaves. Assumes nothing.
use Rattle.zahupnik.specs.Positive.{prepared-norms-positive}
use Rattle.zahupnik.proofs.Returning.{list-returned}
use Rattle.zahupnik.proofs.zahupnik_prepared_norms.Goals as goal

pub returns : goal.returns
returns c = list-returned _ (prepared-norms-positive _ _) _ _ c.norms.ensures c.number.ensures
