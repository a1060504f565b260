-- The loop of `joint_product`: the four products settle the entries that were passed (`Shared`). Assumes nothing.
use Rattle.inverses.specs.Joint.{Shared}
use Rattle.inverses.proofs.joint_product.Given as goal

abbrev pub invariant-loop-k : goal.invariant-loop-k
invariant-loop-k l = Shared l.m l.a l.x l.k l.p l.q × Shared l.m l.c l.y l.k l.s l.t
