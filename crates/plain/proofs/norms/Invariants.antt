-- The loop of `norms`: i norms are written (`Norming`). Assumes nothing.
use Rattle.plain.specs.Norming.{Norming}
use Rattle.plain.proofs.norms.Given as goal

abbrev pub invariant-loop-i : goal.invariant-loop-i
invariant-loop-i l =
    Norming l.m l.n l.a_inverses l.c l.close_a_inverse l.close_c l.initial.output l.output l.signed l.i
