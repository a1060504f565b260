-- The loop of `convolution::products_at`: t terms are in (`Multiplying`). Assumes nothing.
use Rattle.convolution.specs.Coefficients.{Multiplying}
use Rattle.convolution.proofs.products_at.Given as goal

abbrev pub invariant-loop-t : goal.invariant-loop-t
invariant-loop-t l = Multiplying l.start l.p l.q l.r l.s l.k l.first l.end l.count l.t l.total.low l.total.wraps
