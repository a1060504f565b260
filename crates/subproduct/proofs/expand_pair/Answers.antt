-- `subproduct::expand_pair` meets its contract: the two lists side by side are those of the pair, and what the second is made of is
-- there still. Assumes nothing.
use Rattle.subproduct.specs.Join.{expand_pair-first, expand_pair-second, expand_pair-written}
use Rattle.subproduct.proofs.expand_pair.Goals as goal

pub add_products-requires : goal.add_products-requires
add_products-requires c = expand_pair-first c.requires

pub add_products-requires-2 : goal.add_products-requires-2
add_products-requires-2 c =
    expand_pair-second c.requires c.add_products.ensures

pub returns : goal.returns
returns c = expand_pair-written c.requires
    c.add_products.ensures c.add_products-2.ensures
