-- `zahupnik_prepared_plain_expand` returns the number of the answer of `prepared_plain::plain_expand`, and leaves what that call leaves.
-- Assumes nothing.
use Rattle.zahupnik.specs.Positive.{prepared-plain-positive}
use Rattle.zahupnik.proofs.Returning.{list-returned}
use Rattle.zahupnik.proofs.zahupnik_prepared_plain_expand.Goals as goal

pub returns : goal.returns
returns c = list-returned _ (prepared-plain-positive _ _ _) _ _ c.plain_expand.ensures c.number.ensures
