-- The loop of `products::add_products`: k coefficients stand from place target on, and the rest is as it was (`Writing`). Assumes
-- nothing.
use Rattle.numbers.specs.Regions.{Writing}
use Rattle.products.specs.Places.{product_entry}
use Rattle.products.proofs.add_products.Given as goal

abbrev pub invariant-loop-k : goal.invariant-loop-k
invariant-loop-k l = Writing l.initial.w l.target l.n (product_entry l.m l.initial.w l.t l.tn l.p l.r l.pn l.q l.s l.qn) l.w l.k
