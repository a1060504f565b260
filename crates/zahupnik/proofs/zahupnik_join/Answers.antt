-- `zahupnik_join` returns the number of the answer of `join_calls::join`, and leaves what that call leaves. Assumes nothing.
use Rattle.zahupnik.specs.Positive.{join-positive}
use Rattle.zahupnik.proofs.Returning.{wholes-returned}
use Rattle.zahupnik.proofs.zahupnik_join.Goals as goal

pub returns : goal.returns
returns c = wholes-returned _ (join-positive _ _ _ _ _) _ _ c.join.ensures c.number.ensures
