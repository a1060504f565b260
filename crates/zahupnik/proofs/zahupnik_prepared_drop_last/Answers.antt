-- `zahupnik_prepared_drop_last` returns the number of the answer of `Prepared::drop_last`, and the record that it hands out. Assumes nothing.
use Rattle.zahupnik.specs.Positive.{drop-positive}
use Rattle.zahupnik.proofs.Returning.{change-returned}
use Rattle.zahupnik.proofs.zahupnik_prepared_drop_last.Goals as goal

pub returns : goal.returns
returns c =
    change-returned _ (drop-positive _) _ _ c.drop_last.ensures c.numbered.ensures.0 c.numbered.ensures.1
