-- The loop of `products::transposed`: i terms stand from place target on, and the rest is as it was (`Writing`). Assumes nothing.
use Rattle.numbers.specs.Regions.{Writing}
use Rattle.products.specs.Places.{transposed_entry}
use Rattle.products.proofs.transposed.Given as goal

abbrev pub invariant-loop-i : goal.invariant-loop-i
invariant-loop-i l = Writing l.initial.w l.target l.n (transposed_entry l.m l.initial.w l.p l.q l.pn l.v l.u l.vn) l.w l.i
