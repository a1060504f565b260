-- `put_arranged` puts the line of the list that the call hands out. Assumes nothing.
use native.Mathlib.Omega.{arith}
use Rattle.order_calls.specs.Accepting.{order-hands}
use Rattle.store_lines.specs.Printed.{put-list}
use Rattle.store_lines.proofs.put_arranged.Goals as goal

pub returns : goal.returns
returns c =
    put-list _ _ _ _ _ _ _ c.put_line.ensures
    (order-hands c.args.direction _ _ _ _ c.arrange.ensures (record { few = c.requires.0; output_length = c.requires.1 }))
    (omega arith)
