-- The loop of `share_inverse`: it goes from the last entry down (`Sharing`). Assumes nothing.
use Rattle.std.proofs.Common.{get_or}
use Rattle.inverses.specs.Sharing.{Sharing}
use Rattle.inverses.proofs.share_inverse.Given as goal

abbrev pub invariant-loop-i : goal.invariant-loop-i
invariant-loop-i l = Sharing l.m (λ k. get_or l.list k 0) l.n l.initial.output l.output l.i l.shared
