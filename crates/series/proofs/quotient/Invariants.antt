-- The loop of `quotient`: k coefficients stand (`Dividing`). Assumes nothing.
use Rattle.series.specs.Division.{Dividing}
use Rattle.series.proofs.quotient.Given as goal

abbrev pub invariant-loop-k : goal.invariant-loop-k
invariant-loop-k l = Dividing l.m l.numerator l.divisor l.n l.count l.initial.output l.output l.k
