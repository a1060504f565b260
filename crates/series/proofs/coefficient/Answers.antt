-- `coefficient` meets its contract: the laws of one coefficient in `Division`.
-- Assumes nothing.
use native.Mathlib.Omega.{arith}
use Rattle.series.proofs.Division.{coefficient-fits, coefficient-is}
use Rattle.series.proofs.coefficient.Goals as goal

pub overflow_add-top : goal.overflow_add-top
overflow_add-top c =
    omega (arith, coefficient-fits _ _ _ _ _ _ _ c.requires _ _ _ c.reversed_entry-top.ensures c.negative-less.ensures)

pub returns : goal.returns
returns c =
    coefficient-is _ _ _ _ _ _ _ c.requires _ _ _ _ _ _ c.saturating_sub-first.ensures
    c.saturating_sub-at.ensures c.sum_at-sum.ensures
    c.reversed_entry-top.ensures c.negative-less.ensures c.product.ensures
