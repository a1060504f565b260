-- `decompose_tree` meets its contract: the moments and the coefficients in one list, the product of both, Adjoint, and the norms.
-- Assumes nothing.
use Rattle.std.proofs.Common.{◌∙◌, refl, sym, ap, arith}
use Rattle.definitions.specs.Answers.{cleared}
use Rattle.definitions.specs.Orthogonality.{moments}
use Rattle.lists.specs.Entries.{cleared-twice}
use Rattle.moment_way.proofs.Steps.{second-length, used-room, places, adjoint-curve, divided-is}
use Rattle.moment_way.proofs.Taken.{closed-lent, decompose-asked, decompose-whole}
use Rattle.moment_way.proofs.decompose_tree.Goals as goal

pub slice_bounds-used_length-end : goal.slice_bounds-used_length-end
slice_bounds-used_length-end c =
    let lending = c.inverted-inside.invariant in
    let beside = rw (← c.inverted-inside.view_is) at c.inverted.invariant in
    let inverses = rw (← c.inverted-inside.view_is) at (rw (← c.inverted.view_is) at c.requires.inverses) in
    let curve = rw (← c.inverted-inside.view_is) at (rw (← c.inverted.view_is) at c.requires.curve) in
    let input = decompose-asked lending beside inverses curve c.requires.few c.requires.room c.requires.work in
    let written = rw (← c.inverted-inside.view_is) at (rw (← c.inverted.view_is) at c.moments_whole.ensures.written) in
    let made = written ∙ ap moments (sym (closed-lent lending beside.closing (omega (arith, curve.long)) c.requires.few)) in
    sym (second-length input c.requires.many c.zeros-lists.ensures made c.copy.ensures)

pub used_length-used-requires : goal.used_length-used-requires
used_length-used-requires c =
    let lending = c.inverted-inside.invariant in
    let beside = rw (← c.inverted-inside.view_is) at c.inverted.invariant in
    let inverses = rw (← c.inverted-inside.view_is) at (rw (← c.inverted.view_is) at c.requires.inverses) in
    let curve = rw (← c.inverted-inside.view_is) at (rw (← c.inverted.view_is) at c.requires.curve) in
    let input = decompose-asked lending beside inverses curve c.requires.few c.requires.room c.requires.work in
    let written = rw (← c.inverted-inside.view_is) at (rw (← c.inverted.view_is) at c.moments_whole.ensures.written) in
    let made = written ∙ ap moments (sym (closed-lent lending beside.closing (omega (arith, curve.long)) c.requires.few)) in
    used-room input c.requires.many c.zeros-lists.ensures made c.copy.ensures

pub slice_bounds-transposed-end : goal.slice_bounds-transposed-end
slice_bounds-transposed-end c =
    let lending = c.inverted-inside.invariant in
    let beside = rw (← c.inverted-inside.view_is) at c.inverted.invariant in
    let inverses = rw (← c.inverted-inside.view_is) at (rw (← c.inverted.view_is) at c.requires.inverses) in
    let curve = rw (← c.inverted-inside.view_is) at (rw (← c.inverted.view_is) at c.requires.curve) in
    let input = decompose-asked lending beside inverses curve c.requires.few c.requires.room c.requires.work in
    let written = rw (← c.inverted-inside.view_is) at (rw (← c.inverted.view_is) at c.moments_whole.ensures.written) in
    let made = written ∙ ap moments (sym (closed-lent lending beside.closing (omega (arith, curve.long)) c.requires.few)) in
    sym (second-length input c.requires.many c.zeros-lists.ensures made c.copy.ensures)

pub transposed-requires : goal.transposed-requires
transposed-requires c =
    let lending = c.inverted-inside.invariant in
    let beside = rw (← c.inverted-inside.view_is) at c.inverted.invariant in
    let inverses = rw (← c.inverted-inside.view_is) at (rw (← c.inverted.view_is) at c.requires.inverses) in
    let curve = rw (← c.inverted-inside.view_is) at (rw (← c.inverted.view_is) at c.requires.curve) in
    let input = decompose-asked lending beside inverses curve c.requires.few c.requires.room c.requires.work in
    let written = rw (← c.inverted-inside.view_is) at (rw (← c.inverted.view_is) at c.moments_whole.ensures.written) in
    let made = written ∙ ap moments (sym (closed-lent lending beside.closing (omega (arith, curve.long)) c.requires.few)) in
    places input c.requires.many c.zeros-lists.ensures made c.copy.ensures c.used_length-used.ensures.used

pub adjoint_whole-requires-clause-curve : goal.adjoint_whole-requires-clause-curve
adjoint_whole-requires-clause-curve c =
    let lending = c.inverted-inside.invariant in
    let beside = rw (← c.inverted-inside.view_is) at c.inverted.invariant in
    let inverses = rw (← c.inverted-inside.view_is) at (rw (← c.inverted.view_is) at c.requires.inverses) in
    let curve = rw (← c.inverted-inside.view_is) at (rw (← c.inverted.view_is) at c.requires.curve) in
    let input = decompose-asked lending beside inverses curve c.requires.few c.requires.room c.requires.work in
    let written = rw (← c.inverted-inside.view_is) at (rw (← c.inverted.view_is) at c.moments_whole.ensures.written) in
    let made = written ∙ ap moments (sym (closed-lent lending beside.closing (omega (arith, curve.long)) c.requires.few)) in
    rw (← c.inverted-inside.view_is) (adjoint-curve input c.requires.many c.zeros-lists.ensures made c.copy.ensures c.used_length-used.ensures.used
    lending (omega (arith, curve.long)) c.requires.room c.moments_whole.ensures.wiped c.transposed.ensures)

pub returns-clause-written : goal.returns-clause-written
returns-clause-written c =
    let lending = c.inverted-inside.invariant in
    let beside = rw (← c.inverted-inside.view_is) at c.inverted.invariant in
    let inverses = rw (← c.inverted-inside.view_is) at (rw (← c.inverted.view_is) at c.requires.inverses) in
    let curve = rw (← c.inverted-inside.view_is) at (rw (← c.inverted.view_is) at c.requires.curve) in
    let input = decompose-asked lending beside inverses curve c.requires.few c.requires.room c.requires.work in
    let written = rw (← c.inverted-inside.view_is) at (rw (← c.inverted.view_is) at c.moments_whole.ensures.written) in
    let made = written ∙ ap moments (sym (closed-lent lending beside.closing (omega (arith, curve.long)) c.requires.few)) in
    let adjoined = rw (← c.inverted-inside.view_is) at c.adjoint_whole.ensures.written in
    rw (← c.inverted.view_is) (rw (← c.inverted-inside.view_is)
    (decompose-whole lending beside.closing (omega (arith, curve.long)) c.requires.few _ refl c.requires.room
    (divided-is input c.requires.many c.zeros-lists.ensures made c.copy.ensures c.used_length-used.ensures.used
    lending (omega (arith, curve.long)) c.requires.room c.moments_whole.ensures.wiped c.transposed.ensures
    adjoined c.adjoint_whole.ensures.wiped (c.adjoint_whole.auto.output ∙ c.requires.room) c.divide_by_norms.ensures)))

pub returns-clause-wiped : goal.returns-clause-wiped
returns-clause-wiped c = c.adjoint_whole.ensures.wiped ∙ ap cleared c.moments_whole.ensures.wiped ∙ cleared-twice c.args.work.now
