-- `Modulus::remainder` meets its contract: the quotient is short by one at most (`quotient-bounds`), and the lesser of what is left and
-- of that less m is the remainder (`lesser-is`). Assumes nothing.
use Rattle.std.proofs.Common.{arith}
use Rattle.reduction.specs.Reciprocal.{quotient-bounds, lesser-is, remainder-fits}
use Rattle.reduction.proofs.Modulus.remainder.Goals as goal

pub overflow_sub-rest : goal.overflow_sub-rest
overflow_sub-rest c = (quotient-bounds _ _ _ _ c.args.self.is c.ranges.x.fits c.high_product-quotient.ensures).most

pub returns : goal.returns
returns c =
    lesser-is _ _ _ _ _ c.args.self.is.positive (omega arith) c.ranges.x.fits
    (quotient-bounds _ _ _ _ c.args.self.is c.ranges.x.fits c.high_product-quotient.ensures)
    c.wrapping_sub_u64-less.ensures.value c.wrapping_sub_u64-less.type_inv
    (record { first = λ l. omega arith; second = λ l. omega arith })

pub overflow_cast-result : goal.overflow_cast-result
overflow_cast-result c =
    record { fits = remainder-fits _ _ _ c.args.self.is.positive (omega arith) (returns c) }
