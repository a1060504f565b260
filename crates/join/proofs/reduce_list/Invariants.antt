-- The loop of `reduce_list`: the places passed are reduced, the others as they were (`Reducing`). Assumes nothing.
use Rattle.join.specs.Reducing.{Reducing}
use Rattle.join.proofs.reduce_list.Given as goal

abbrev pub invariant-loop-i : goal.invariant-loop-i
invariant-loop-i l = Reducing l.m l.list l.initial.out l.out l.i
