-- The loop of `norm_total`: it adds one term a turn (`Totalling`). Assumes nothing.
use Prim.Native.Nat.{◌*◌}
use lib.ListN.{get_or}
use Rattle.totals.specs.Totals.{Totalling}
use Rattle.totals.proofs.norm_total.Given as goal

abbrev pub invariant-loop-i : goal.invariant-loop-i
invariant-loop-i l = Totalling l.m l.n (λ k. get_or l.u k 0 * get_or l.v k 0 * get_or l.norm k 0) l.total l.i
