-- `of_list` meets its contract: the zeros stand before the place where the inverses begin, and those are written behind them. Assumes
-- nothing.
use native.Mathlib.Omega.{arith}
use Rattle.inverses.specs.Range.{range-filled}
use Rattle.lists.proofs.Fills.{filled_end}
use Rattle.inverses.proofs.of_list.Goals as goal

pub returns : goal.returns
returns c =
    range-filled _ _ _ _ c.saturating_sub-count.ensures _ _ c.requires.1 _ _ (filled_end _ _ _ _ _ c.loop-i.invariant (omega arith) (omega arith))
    c.all_inverses.ensures
