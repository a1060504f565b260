-- `zahupnik_expand_join` returns the number of the answer of `expand_join::expand_join`, and leaves what that call leaves. Assumes nothing.
use Rattle.zahupnik.specs.Positive.{expand-join-positive}
use Rattle.zahupnik.proofs.Returning.{wholes-returned}
use Rattle.zahupnik.proofs.zahupnik_expand_join.Goals as goal

pub returns : goal.returns
returns c = wholes-returned _ (expand-join-positive _ _ _ _ _) _ _ c.expand_join.ensures c.number.ensures
