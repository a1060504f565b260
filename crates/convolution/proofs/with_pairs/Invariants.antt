-- The loop of `convolution::with_pairs`: the pairs of the steps before t are in, after the first where their count is odd (`Pairs`).
-- Assumes nothing.
use Rattle.std.proofs.Common.{◌+◌, ◌*◌}
use Rattle.convolution.specs.Steps.{Pairs}
use Rattle.convolution.proofs.with_pairs.Given as goal

abbrev pub invariant-loop-t : goal.invariant-loop-t
invariant-loop-t l =
    Pairs l.initial.sum.low l.initial.sum.wraps l.p l.v l.q l.u l.i l.odd l.end (l.odd + 2 * l.t) l.sum.low l.sum.wraps
