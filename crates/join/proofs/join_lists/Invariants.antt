-- The loop of `join_lists`: the places passed are joined (`Joined`). Assumes nothing.
use Rattle.join.specs.Joining.{Joined}
use Rattle.join.proofs.join_lists.Given as goal

abbrev pub invariant-loop-i : goal.invariant-loop-i
invariant-loop-i l = Joined l.m1 l.m2 l.first l.second l.initial.output l.output l.i
