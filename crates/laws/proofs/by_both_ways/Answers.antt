-- `by_both_ways` meets its law: both calls keep their promise, and the lists that they hand out are the same. Assumes nothing.
use mathlib.Core.Path.{sym, ◌∙◌}
use Rattle.acceptance.proofs.HandedOn.{handed-on}
use Rattle.laws.specs.Ways.{plain-refused, ways-agree}
use Rattle.laws.proofs.by_both_ways.Goals as goal

pub returns-in_err-plain : goal.returns-in_err-plain
returns-in_err-plain g c =
    rw (handed-on _ _ c.from_residual.ensures.1 ∙ sym c.in_err-plain.was)
    (plain-refused _ _ _ _ _ _ _ _ c.plain.ensures _ c.in_err-plain.was)

pub returns : goal.returns
returns g c =
    ways-agree _ _ _ _ _ _ _ _
    c.plain.ensures
    c.in_ok-plain.was _ _ _
    c.tree.ensures
