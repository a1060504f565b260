-- `back_after_first` meets its law: Even back of what Even first hands out returns the list. Assumes nothing.
use mathlib.Core.Path.{sym, ◌∙◌}
use Rattle.acceptance.proofs.HandedOn.{handed-on}
use Rattle.order_laws.proofs.Holding.{trip-refused, trip-made}
use Rattle.order_laws.proofs.back_after_first.Goals as goal

pub returns-in_err-even_first : goal.returns-in_err-even_first
returns-in_err-even_first c =
    rw (handed-on _ _ c.from_residual.ensures.1 ∙ sym c.in_err-even_first.was)
    (trip-refused _ _ _ _ _ _ c.even_first.ensures _ c.in_err-even_first.was)

pub returns : goal.returns
returns c =
    trip-made _ _ _ _ _ _ c.even_first.ensures c.in_ok-even_first.was c.even_back.result _
    c.even_back.ensures
