-- The loop of `products::used_length`: what it has passed over is zero (`Used`). Assumes nothing.
use Rattle.products.specs.Places.{Used}
use Rattle.products.proofs.used_length.Given as goal

abbrev pub invariant-loop-last : goal.invariant-loop-last
invariant-loop-last l = Used l.w l.p l.r l.pn l.last
