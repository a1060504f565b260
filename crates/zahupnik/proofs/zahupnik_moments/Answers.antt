-- `zahupnik_moments` returns the number of the answer of `tree_calls::moments`, and leaves what that call leaves. Assumes nothing.
use Rattle.zahupnik.specs.Positive.{moments-positive}
use Rattle.zahupnik.proofs.Returning.{list-returned-in}
use Rattle.zahupnik.proofs.zahupnik_moments.Goals as goal

pub returns : goal.returns
returns c = list-returned-in _ (moments-positive _ _ _) _ _ c.moments.ensures c.number.ensures
