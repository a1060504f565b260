-- `write_arranged` writes the list in its order: the laws of `Arranging` at the loop. Assumes nothing.
use native.Mathlib.Omega.{arith}
use Rattle.numbers.specs.Lists.{filling-start}
use Rattle.order_calls.specs.Arranging.{arranging-next, arranging-done}
use Rattle.order_calls.proofs.write_arranged.Goals as goal

pub loop-k-init : goal.loop-k-init
loop-k-init c = filling-start

pub loop-k-preserved : goal.loop-k-preserved
loop-k-preserved c =
    arranging-next c.args.direction c.args.list.now _ _ _ _ c.loop-k.invariant (omega arith) c.source.ensures.0

pub returns : goal.returns
returns c = arranging-done _ _ _ _ _ c.loop-k.invariant (omega arith) (omega arith)
