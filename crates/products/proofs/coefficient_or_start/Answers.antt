-- `products::coefficient_or_start` meets its contract: past the end of both products the coefficient is the start. Assumes nothing.
use native.Mathlib.Omega.{arith}
use Rattle.products.specs.Places.{coefficient-past}
use Rattle.products.proofs.coefficient_or_start.Goals as goal

pub returns : goal.returns
returns c = coefficient-past _ _ _ _ _ _ _ _ _ _ c.requires (omega arith)
