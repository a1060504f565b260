-- `arrange` keeps its promise: it answers the verdict of its tests, and writes the list in its order. Assumes nothing.
use Rattle.order_calls.specs.Arranging.{order-lent, order-made}
use Rattle.order_calls.proofs.arrange.Goals as goal

pub write_arranged-requires : goal.write_arranged-requires
write_arranged-requires c =
    order-lent _ _ _ c.lengths.ensures c.in_ok-lengths.was

pub returns : goal.returns
returns c =
    order-made _ _ _ _ c.lengths.ensures c.in_ok-lengths.was _ c.write_arranged.ensures
