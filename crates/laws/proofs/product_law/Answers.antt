-- `product_law` meets its law: the totals of what the calls handed out, or the refusal of the call that refused. Assumes nothing.
use native.Mathlib.Omega.{arith}
use Rattle.acceptance.proofs.HandedOn.{handed-on}
use Rattle.laws.proofs.Totalled.{rows_few, refused-weighed, moment-total-input, norm-total-input, totals-weighed}
use Rattle.laws.proofs.product_law.Goals as goal

pub returns-in_err-hand_out : goal.returns-in_err-hand_out
returns-in_err-hand_out c =
    let handed = handed-on _ _ c.from_residual.ensures.1 in
    rw handed (refused-weighed _ _ _ _ _ _ _ _ c.hand_out.ensures _ c.in_err-hand_out.was)

pub overflow_add-n : goal.overflow_add-n
overflow_add-n c = omega (
  arith,
  rows_few _ _ _ _ _ _ _ _
      c.hand_out.ensures
      c.in_ok-hand_out.was,
)

pub moment_total-by_moments-requires : goal.moment_total-by_moments-requires
moment_total-by_moments-requires c =
    moment-total-input _ _ _ _ _ _ _ _
    c.hand_out.ensures
    c.in_ok-hand_out.was

pub norm_total-by_norms-requires : goal.norm_total-by_norms-requires
norm_total-by_norms-requires c =
    norm-total-input _ _ _ _ _ _ _ _
    c.hand_out.ensures
    c.in_ok-hand_out.was

pub returns : goal.returns
returns c =
    totals-weighed _ _ _ _ _ _ _ _
    c.hand_out.ensures
    c.in_ok-hand_out.was _ _
    c.moment_total-by_moments.ensures
    c.norm_total-by_norms.ensures
