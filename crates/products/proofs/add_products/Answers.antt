-- `products::add_products` meets its contract: zeros that end both lists of a pair change none of the coefficients, and each is written at
-- its place. Assumes nothing.
use Rattle.numbers.specs.Regions.{writing-starts}
use Rattle.products.specs.Places.{product-sources, product-next, product-ends}
use Rattle.products.proofs.add_products.Goals as goal

pub loop-k-init : goal.loop-k-init
loop-k-init c = writing-starts _ _ _ _ c.requires.room

pub coefficient_or_start-v-requires : goal.coefficient_or_start-v-requires
coefficient_or_start-v-requires c =
    rw c.new-modulus.ensures (product-sources _ _ _ _ _ _ _ _ _ _ _ _ c.requires _ _ c.loop-k-test.true
    c.loop-k.invariant c.used_length-used.ensures.used c.used_length-held.ensures.used _ c.entry-start.ensures)

pub loop-k-preserved : goal.loop-k-preserved
loop-k-preserved c =
    product-next _ _ _ _ _ _ _ _ _ _ _ _ c.requires _ _
    c.loop-k-test.true c.loop-k.invariant c.used_length-used.ensures.used
    c.used_length-held.ensures.used _ _ c.entry-start.ensures (rw c.new-modulus.ensures at c.coefficient_or_start-v.ensures)

pub returns : goal.returns
returns c = product-ends _ _ _ _ _ _ _ _ _ _ _ _ _ _ c.loop-k-test.false c.loop-k.invariant
