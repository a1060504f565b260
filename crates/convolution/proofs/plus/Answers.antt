-- `convolution::plus` meets its contract: a sum and its count of wraps go on together (`plus-added`). Assumes nothing.
use Rattle.convolution.specs.Totals.{plus-added}
use Rattle.convolution.proofs.plus.Goals as goal

pub returns : goal.returns
returns c = plus-added c.requires c.wrapping_add_u64-low.ensures.value c.wraps_after-wraps.ensures
