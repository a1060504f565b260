-- `polynomials` meets its contract: the last polynomials of the rows with the closing row, and of these from the second on.
-- Assumes nothing.
use Rattle.std.proofs.Common.{refl, add-one, arith}
use Rattle.moment_way.proofs.Taken.{all-lending, others-lending, polynomials-made}
use Rattle.moment_way.proofs.polynomials.Goals as goal

pub invariant_of-all : goal.invariant_of-all
invariant_of-all c =
    let input = rw (← c.inverted-inside.view_is) at (rw (← c.inverted.view_is) at c.requires) in
    all-lending c.inverted-inside.invariant input.closed.closing refl (omega (arith, input.closed.most)) c.extend-xs.ensures c.extend-ys.ensures c.extend-zs.ensures

pub invariant_of-others : goal.invariant_of-others
invariant_of-others c =
    let input = rw (← c.inverted-inside.view_is) at (rw (← c.inverted.view_is) at c.requires) in
    others-lending c.inverted-inside.invariant input.closed.closing refl (omega (arith, input.closed.most)) c.extend-xs.ensures c.extend-ys.ensures c.extend-zs.ensures

pub returns : goal.returns
returns c =
    let asked = rw (← c.inverted-inside.view_is) at (rw (← c.inverted.view_is) at c.requires) in
    let input = rw (← add-one _) at asked in
    rw (← c.inverted.view_is) (rw (← c.inverted-inside.view_is)
    (polynomials-made c.inverted-inside.invariant asked.closed.closing refl (omega (arith, asked.closed.most))
    c.extend-xs.ensures c.extend-ys.ensures c.extend-zs.ensures input
    c.last_polynomial.ensures.written c.last_polynomial.ensures.wiped c.last_polynomial-2.ensures.written c.last_polynomial-2.ensures.wiped))
