-- `expanded_even_first` meets its law of zeros. Assumes nothing.
use mathlib.Core.Path.{sym, ◌∙◌}
use Rattle.acceptance.proofs.HandedOn.{handed-on}
use Rattle.order_laws.proofs.Holding.{expand-refused, expand-made}
use Rattle.order_laws.proofs.expanded_even_first.Goals as goal

pub returns-in_err-by_way : goal.returns-in_err-by_way
returns-in_err-by_way c =
    rw (handed-on _ _ c.from_residual.ensures.1 ∙ sym c.in_err-by_way.was)
    (expand-refused _ _ _ _ _ _ _ _ _ c.by_way.ensures _ c.in_err-by_way.was)

pub returns : goal.returns
returns c =
    expand-made _ _ _ _ _ _ _ _ _ c.by_way.ensures c.in_ok-by_way.was c.even_first.result _
    c.even_first.ensures
