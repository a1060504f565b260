-- `reduction::high_product` meets its contract: each of the four products of halves leaves room for what is carried (`half-products`),
-- and the carries come to the upper half (`high_half`). Assumes nothing.
use Rattle.std.proofs.Common.{refl}
use Rattle.reduction.specs.Reciprocal.{high_half}
use Rattle.reduction.proofs.high_product.Goals as goal

pub returns : goal.returns
returns c = high_half _ _ _ _ _ refl refl refl
