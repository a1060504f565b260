-- The loop of `convolution::with_singles`: the terms before j are in (`Totalling`). Assumes nothing.
use Rattle.std.specs.Prelude.{length}
use Rattle.convolution.specs.Totals.{Totalling, amount}
use Rattle.convolution.specs.Steps.{transposed_term}
use Rattle.convolution.proofs.with_singles.Given as goal

abbrev pub invariant-loop-j : goal.invariant-loop-j
invariant-loop-j l =
    Totalling l.initial.sum.wraps (amount l.initial.sum.low l.initial.sum.wraps) 0 (length l.p)
    (transposed_term l.p l.v l.i) l.j l.sum.low l.sum.wraps
