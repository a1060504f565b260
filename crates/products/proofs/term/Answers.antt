-- `products::term` meets its contract: what each slice lends is the part. Assumes nothing.
use Rattle.products.specs.Places.{term_is}
use Rattle.products.proofs.term.Goals as goal

pub returns : goal.returns
returns c = term_is _ _ _ _ _ _ _ _ _ c.requires _ c.transposed_at.ensures
