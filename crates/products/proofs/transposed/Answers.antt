-- `products::transposed` meets its contract: zeros that end both multipliers or both lists change none of the terms, and each is written at
-- its place. Assumes nothing.
use Rattle.numbers.specs.Regions.{writing-starts}
use Rattle.products.specs.Places.{transposed-term, transposed-next, transposed-ends}
use Rattle.products.proofs.transposed.Goals as goal

pub loop-i-init : goal.loop-i-init
loop-i-init c = writing-starts _ _ _ _ c.requires.room

pub term-x-requires : goal.term-x-requires
term-x-requires c =
    rw c.new-modulus.ensures (transposed-term _ _ _ _ _ _ _ _ _ _ c.requires _ _ c.loop-i-test.true c.loop-i.invariant
    c.used_length-used.ensures.used c.used_length-held.ensures.used)

pub loop-i-preserved : goal.loop-i-preserved
loop-i-preserved c =
    transposed-next _ _ _ _ _ _ _ _ _ _ c.requires _ _ c.loop-i-test.true c.loop-i.invariant
    c.used_length-used.ensures.used c.used_length-held.ensures.used _ (rw c.new-modulus.ensures at c.term-x.ensures)

pub returns : goal.returns
returns c = transposed-ends _ _ _ _ _ _ _ _ _ _ _ _ c.loop-i-test.false c.loop-i.invariant
