-- The loop of `leading_inverse`: the inverses of i rows are multiplied (`Multiplied`). Assumes nothing.
use Rattle.std.specs.Prelude.{◌+◌, length}
use Rattle.moment_way.specs.Moments.{Multiplied}
use Rattle.moment_way.proofs.leading_inverse.Given as goal

abbrev pub invariant-loop-i : goal.invariant-loop-i
invariant-loop-i l = Multiplied l.m l.a_inverses l.close_a_inverse (length l.a_inverses + 1) l.result l.i
