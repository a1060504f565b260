-- `zahupnik_prepared_replace` returns the number of the answer of `Prepared::replace`, and the record that it hands out. Assumes nothing.
use Rattle.zahupnik.specs.Positive.{replace-positive}
use Rattle.zahupnik.proofs.Returning.{change-returned}
use Rattle.zahupnik.proofs.zahupnik_prepared_replace.Goals as goal

pub returns : goal.returns
returns c =
    change-returned _ (replace-positive _ _ _) _ _ c.replace.ensures c.numbered.ensures.0 c.numbered.ensures.1
