-- The loop of `divide_by_norms`: i entries are divided by their norms (`Dividing`). Assumes nothing.
use Rattle.std.proofs.Common.{length}
use Rattle.moment_way.specs.Decompose.{Dividing}
use Rattle.moment_way.proofs.divide_by_norms.Given as goal

abbrev pub invariant-loop-i : goal.invariant-loop-i
invariant-loop-i l =
    Dividing l.m l.a l.c_inverses l.close_a l.close_c_inverse (length l.initial.output) l.initial.output l.output l.signed l.i
