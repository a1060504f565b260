-- `hand_out` meets its promise: each call keeps its own, whichever refuses. Assumes nothing.
use mathlib.Core.Path.{sym, ◌∙◌}
use Rattle.acceptance.proofs.HandedOn.{handed-on}
use Rattle.laws.specs.HandedOut.{first-refused, second-refused, third-refused, all-handed-out}
use Rattle.laws.proofs.hand_out.Goals as goal

pub returns-in_err-by_way : goal.returns-in_err-by_way
returns-in_err-by_way c =
    rw (handed-on _ _ c.from_residual.ensures.1 ∙ sym c.in_err-by_way.was)
    (first-refused _ _ _ _ _ _ _ _ _ c.by_way.ensures _ c.in_err-by_way.was)

pub returns-in_err-by_way-2 : goal.returns-in_err-by_way-2
returns-in_err-by_way-2 c =
    rw (handed-on _ _ c.from_residual-in_err-by_way-2.ensures.1 ∙ sym c.in_err-by_way-2.was)
    (second-refused _ _ _ _ _ _ _ _ _ c.by_way.ensures c.in_ok-by_way.was _ _ _ c.by_way-2.ensures _ c.in_err-by_way-2.was)

pub returns-in_err-moments : goal.returns-in_err-moments
returns-in_err-moments c =
    rw (handed-on _ _ c.from_residual-in_err-moments.ensures.1 ∙ sym c.in_err-moments.was)
    (third-refused _ _ _ _ _ _ _ _ _ c.by_way.ensures c.in_ok-by_way.was _ _ _ c.by_way-2.ensures c.in_ok-by_way-2.was _ _ _ c.moments.ensures _ c.in_err-moments.was)

pub returns : goal.returns
returns c =
    all-handed-out _ _ _ _ _ _ _ _ _
    c.by_way.ensures
    c.in_ok-by_way.was _ _ _
    c.by_way-2.ensures
    c.in_ok-by_way-2.was _ _ _
    c.moments.ensures
    c.in_ok-moments.was _ _
    c.norms.ensures
