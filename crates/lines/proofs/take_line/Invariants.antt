-- The loop of `take_line`: going on from where it is gives what going on from the start does (`Taking`). Assumes nothing.
use Rattle.lines.specs.Taking.{Taking}
use Rattle.lines.proofs.take_line.Given as goal

abbrev pub invariant-loop-i : goal.invariant-loop-i
invariant-loop-i l = Taking l.piece l.from l.initial.line l.count l.line l.n l.i
