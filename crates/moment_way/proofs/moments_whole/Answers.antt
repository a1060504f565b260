-- `moments_whole` meets its contract: F_n and G_{n-1}, the inverse of the leading coefficient, and the quotient.
-- Assumes nothing.
use Rattle.std.proofs.Common.{refl, ◌∙◌, ap, add-one, arith}
use Rattle.definitions.specs.Orthogonality.{moments}
use Rattle.lists.specs.Whole.{written-whole}
use Rattle.moment_way.specs.Moments.{leading-lent, moments-quotient, moments-are}
use Rattle.moment_way.proofs.Taken.{closed-lent, polynomials-lent, moments-input}
use Rattle.moment_way.proofs.moments_whole.Goals as goal

pub quotient-requires : goal.quotient-requires
quotient-requires c =
    let few = rw (← c.inverted-inside.view_is) at (rw (← c.inverted.view_is) at c.requires.few) in
    let room = rw (← c.inverted-inside.view_is) at (rw (← c.inverted.view_is) at c.requires.room) in
    let beside = rw (← c.inverted-inside.view_is) at c.inverted.invariant in
    let made = rw (← c.inverted-inside.view_is) at (rw (← c.inverted.view_is) at c.polynomials.ensures) in
    moments-quotient
    (moments-input c.inverted-inside.invariant beside.closing refl (omega (arith, few)) beside.a_inverts (rw add-one room) c.requires.work)
    c.zeros-divisor.ensures c.zeros-numerator.ensures
    (polynomials-lent c.inverted-inside.invariant beside.closing refl (omega (arith, few)) made)
    (leading-lent _ _ _ beside.a_inverts.long refl c.leading_inverse-top.ensures)

pub returns-clause-written : goal.returns-clause-written
returns-clause-written c =
    let few = rw (← c.inverted-inside.view_is) at (rw (← c.inverted.view_is) at c.requires.few) in
    let room = rw (← c.inverted-inside.view_is) at (rw (← c.inverted.view_is) at c.requires.room) in
    let beside = rw (← c.inverted-inside.view_is) at c.inverted.invariant in
    let made = rw (← c.inverted-inside.view_is) at (rw (← c.inverted.view_is) at c.polynomials.ensures) in
    let closed = closed-lent c.inverted-inside.invariant beside.closing refl (omega (arith, few)) in
    let input = moments-input c.inverted-inside.invariant beside.closing refl (omega (arith, few)) beside.a_inverts (room ∙ rw add-one refl)
    c.requires.work in
    let left = moments-are input c.zeros-divisor.ensures c.zeros-numerator.ensures
    (polynomials-lent c.inverted-inside.invariant beside.closing refl (omega (arith, few)) made) c.quotient.ensures in
    rw (← c.inverted.view_is) (rw (← c.inverted-inside.view_is)
    (left.written ∙ written-whole _ c.args.output.now _ (room ∙ rw add-one refl) ∙ ap moments closed))
