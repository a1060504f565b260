-- The loop of `moment_total`: it adds one row's total a turn (`Totalling`). Assumes nothing.
use Prim.Native.Nat.{◌*◌}
use lib.ListN.{get_or}
use Rattle.totals.specs.Totals.{row_total, Totalling}
use Rattle.totals.proofs.moment_total.Given as goal

abbrev pub invariant-loop-i : goal.invariant-loop-i
invariant-loop-i l = Totalling l.m l.n (λ k. get_or l.s k 0 * row_total l.m l.n l.t l.moment k) l.total l.i
