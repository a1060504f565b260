-- `Modulus::remainder_of_sum` meets its contract: what the wraps come to fits 64 bits (`more-fits`), and the sum that is unwrapped leaves
-- the remainder of the whole (`settled`). Assumes nothing.
use Rattle.reduction.specs.Wrapping.{settled}
use Rattle.reduction.proofs.Modulus.remainder_of_sum.Goals as goal

pub returns : goal.returns
returns c =
    settled _ _ (record { most = c.requires; reciprocal = c.args.self.is }) _ _ c.shortened.ensures _ _ _ _ c.ranges.low.fits
    c.wrapping_add_u64-sum.ensures.value c.unwrapped.ensures c.remainder.ensures
