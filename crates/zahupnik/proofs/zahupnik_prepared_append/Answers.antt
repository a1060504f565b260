-- `zahupnik_prepared_append` returns the number of the answer of `Prepared::append`, and the record that it hands out. Assumes nothing.
use Rattle.zahupnik.specs.Positive.{append-positive}
use Rattle.zahupnik.proofs.Returning.{change-returned}
use Rattle.zahupnik.proofs.zahupnik_prepared_append.Goals as goal

pub returns : goal.returns
returns c =
    change-returned _ (append-positive _ _) _ _ c.append.ensures c.numbered.ensures.0 c.numbered.ensures.1
