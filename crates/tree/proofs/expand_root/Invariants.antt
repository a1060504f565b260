-- The loop of `tree::expand_root`: it fills the output from the front. Assumes nothing.
use Rattle.numbers.specs.Lists.{Filling}
use Rattle.tree.specs.Root.{root_entry}
use Rattle.tree.proofs.expand_root.Given as goal

abbrev pub invariant-loop-k : goal.invariant-loop-k
invariant-loop-k l = Filling (root_entry l.m l.w l.at l.span l.first) l.k l.initial.output l.output
