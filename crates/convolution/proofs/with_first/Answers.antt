-- `convolution::with_first` meets its contract: with an even count nothing is added (`first-left`), with an odd one the first pair
-- (`first-added`). Assumes nothing.
use Rattle.std.proofs.Common.{arith}
use Rattle.convolution.specs.Steps.{first-left, first-added}
use Rattle.convolution.proofs.with_first.Goals as goal

pub returns-then-odd-eq0 : goal.returns-then-odd-eq0
returns-then-odd-eq0 c = first-left c.requires.0 c.if-odd-eq0.true

pub returns : goal.returns
returns c = first-added c.requires.0 c.pair-x.ensures (omega arith) c.plus.ensures
