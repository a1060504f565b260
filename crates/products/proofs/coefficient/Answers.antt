-- `products::coefficient` meets its contract: what each slice lends is the part. Assumes nothing.
use Rattle.products.specs.Places.{coefficient-is}
use Rattle.products.proofs.coefficient.Goals as goal

pub returns : goal.returns
returns c = coefficient-is _ _ _ _ _ _ _ _ _ _ c.requires _ c.products_at.ensures
