-- `zahupnik_prepared_moments` returns the number of the answer of `prepared_tree::moments`, and leaves what that call leaves. Assumes nothing.
use Rattle.zahupnik.specs.Positive.{prepared-moments-positive}
use Rattle.zahupnik.proofs.Returning.{list-returned-in}
use Rattle.zahupnik.proofs.zahupnik_prepared_moments.Goals as goal

pub returns : goal.returns
returns c = list-returned-in _ (prepared-moments-positive _ _ _) _ _ c.moments.ensures c.number.ensures
