-- The loop of `write_arranged`: it fills the output from the front (`Arranging`). Assumes nothing.
use Rattle.order_calls.specs.Arranging.{Arranging}
use Rattle.order_calls.proofs.write_arranged.Given as goal

abbrev pub invariant-loop-k : goal.invariant-loop-k
invariant-loop-k l = Arranging l.direction l.list l.k l.initial.output l.output
