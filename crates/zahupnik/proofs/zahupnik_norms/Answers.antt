-- `zahupnik_norms` returns the number of the answer of `plain_calls::norms`, and leaves what that call leaves. Assumes nothing.
use Rattle.zahupnik.specs.Positive.{norms-positive}
use Rattle.zahupnik.proofs.Returning.{list-returned}
use Rattle.zahupnik.proofs.zahupnik_norms.Goals as goal

pub returns : goal.returns
returns c = list-returned _ (norms-positive _ _) _ _ c.norms.ensures c.number.ensures
