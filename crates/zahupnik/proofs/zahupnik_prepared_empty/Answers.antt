-- `zahupnik_prepared_empty` returns the number of the answer of `Prepared::empty`, and the record that it hands out. Assumes nothing.
use Rattle.zahupnik.specs.Positive.{empty-positive}
use Rattle.zahupnik.proofs.Returning.{change-returned}
use Rattle.zahupnik.proofs.zahupnik_prepared_empty.Goals as goal

pub returns : goal.returns
returns c =
    change-returned _ (empty-positive _) _ _ c.empty.ensures c.numbered.ensures.0 c.numbered.ensures.1
