-- `there_and_back` meets its law: the second conversion undoes the first on the lists that the calls hand out. Assumes nothing.
use mathlib.Core.Path.{sym, ◌∙◌}
use Rattle.acceptance.proofs.HandedOn.{handed-on}
use Rattle.laws.proofs.RoundTrips.{first-refused, both-made}
use Rattle.laws.proofs.there_and_back.Goals as goal

pub returns-in_err-by_way : goal.returns-in_err-by_way
returns-in_err-by_way g c =
    rw (handed-on _ _ c.from_residual.ensures.1 ∙ sym c.in_err-by_way.was)
    (first-refused c.requires _ _ _ _ _ _ _ _ _ _ c.by_way.ensures _ c.in_err-by_way.was)

pub returns : goal.returns
returns g c =
    both-made c.requires _ _ _ _ _ _ _ _ _ _
    c.by_way.ensures
    c.in_ok-by_way.was _ _ _
    c.by_way-2.ensures
