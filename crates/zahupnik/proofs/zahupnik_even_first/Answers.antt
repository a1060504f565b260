-- `zahupnik_even_first` returns the number of the answer of `order_calls::even_first`, and leaves what that call leaves. Assumes nothing.
use Rattle.zahupnik.specs.Positive.{order-positive}
use Rattle.zahupnik.proofs.Returning.{list-returned}
use Rattle.zahupnik.proofs.zahupnik_even_first.Goals as goal

pub returns : goal.returns
returns c = list-returned _ (order-positive _ _) _ _ c.even_first.ensures c.number.ensures
