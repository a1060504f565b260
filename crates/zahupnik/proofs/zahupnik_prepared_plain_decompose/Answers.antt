-- `zahupnik_prepared_plain_decompose` returns the number of the answer of `prepared_plain::plain_decompose`, and leaves what that call
-- leaves. Assumes nothing.
use Rattle.zahupnik.specs.Positive.{prepared-plain-positive}
use Rattle.zahupnik.proofs.Returning.{list-returned}
use Rattle.zahupnik.proofs.zahupnik_prepared_plain_decompose.Goals as goal

pub returns : goal.returns
returns c = list-returned _ (prepared-plain-positive _ _ _) _ _ c.plain_decompose.ensures c.number.ensures
