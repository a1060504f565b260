-- `first_after_back` meets its law: Even first of what Even back hands out returns the list. Assumes nothing.
use mathlib.Core.Path.{sym, ◌∙◌}
use Rattle.acceptance.proofs.HandedOn.{handed-on}
use Rattle.order_laws.proofs.Holding.{trip-refused, trip-made}
use Rattle.order_laws.proofs.first_after_back.Goals as goal

pub returns-in_err-even_back : goal.returns-in_err-even_back
returns-in_err-even_back c =
    rw (handed-on _ _ c.from_residual.ensures.1 ∙ sym c.in_err-even_back.was)
    (trip-refused _ _ _ _ _ _ c.even_back.ensures _ c.in_err-even_back.was)

pub returns : goal.returns
returns c =
    trip-made _ _ _ _ _ _ c.even_back.ensures c.in_ok-even_back.was c.even_first.result _
    c.even_first.ensures
