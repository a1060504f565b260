-- `decompose_whole` meets its contract: with one coefficient there is no tree; otherwise the answer by the moments stands. Assumes nothing.
use Rattle.std.proofs.Common.{refl, arith}
use Rattle.moment_way.proofs.DecomposeByMoments.{decompose-one}
use Rattle.moment_way.proofs.Taken.{decompose-asked, decompose-whole}
use Rattle.moment_way.proofs.decompose_whole.Goals as goal

pub returns-then-coefficients-eq1-clause-written : goal.returns-then-coefficients-eq1-clause-written
returns-then-coefficients-eq1-clause-written c =
    let lending = c.inverted-inside.invariant in
    let beside = rw (← c.inverted-inside.view_is) at c.inverted.invariant in
    let inverses = rw (← c.inverted-inside.view_is) at (rw (← c.inverted.view_is) at c.requires.inverses) in
    let curve = rw (← c.inverted-inside.view_is) at (rw (← c.inverted.view_is) at c.requires.curve) in
    let input = decompose-asked lending beside inverses curve c.requires.few c.requires.room c.requires.work in
    rw (← c.inverted.view_is) (rw (← c.inverted-inside.view_is)
    (decompose-whole lending beside.closing (omega (arith, curve.long)) c.requires.few _ refl c.requires.room
    (decompose-one input c.if-coefficients-eq1.true refl c.clear.ensures)))
