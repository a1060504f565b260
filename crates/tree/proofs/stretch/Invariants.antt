-- The loop of `tree::stretch`: i entries stand from place at on, and the rest is as it was (`Writing`). Assumes
-- nothing.
use Prim.Native.Nat.{◌+◌}
use lib.ListN.{get_or}
use Rattle.numbers.specs.Regions.{Writing}
use Rattle.tree.proofs.stretch.Given as goal

abbrev pub invariant-loop-i : goal.invariant-loop-i
invariant-loop-i l = Writing l.initial.w l.at l.span (λ k. get_or l.curve (l.first + k) 0) l.w l.i
