-- `subproduct::half_size` meets its contract: the closed value of a half's size. Assumes nothing.
use native.Mathlib.Omega.{arith}
use Rattle.subproduct.specs.Layout.{half-value, halves}
use Rattle.subproduct.proofs.half_size.Goals as goal

pub overflow_mul-result : goal.overflow_mul-result
overflow_mul-result c = omega (arith, half-value _ c.requires.0 c.requires.1)

pub overflow_mul-result-2 : goal.overflow_mul-result-2
overflow_mul-result-2 c = omega (arith, half-value _ c.requires.0 c.requires.1)

pub overflow_sub-result : goal.overflow_sub-result
overflow_sub-result c = omega (arith, half-value _ c.requires.0 c.requires.1)

pub returns : goal.returns
returns c = halves _ c.requires.0 c.requires.1 (omega (arith, half-value _ c.requires.0 c.requires.1))
