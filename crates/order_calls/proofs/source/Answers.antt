-- `source` computes the index whose entry comes to a place. Assumes nothing.
use Rattle.order_calls.specs.Arranging.{even-from, odd-from, even-home, odd-home}
use Rattle.order_calls.proofs.source.Goals as goal

pub returns-then-k-half : goal.returns-then-k-half
returns-then-k-half c = even-from _ _ _ c.requires.0 c.in-EvenFirst.is c.if-k-half.true

pub returns-else-k-half : goal.returns-else-k-half
returns-else-k-half c = odd-from _ _ _ c.requires.0 c.in-EvenFirst.is c.if-k-half.false

pub returns-then-k-eq0 : goal.returns-then-k-eq0
returns-then-k-eq0 c = even-home _ _ _ c.requires.0 c.in-EvenBack.is c.if-k-eq0.true

pub returns-else-k-eq0 : goal.returns-else-k-eq0
returns-else-k-eq0 c = odd-home _ _ _ c.requires.0 c.in-EvenBack.is c.if-k-eq0.false
