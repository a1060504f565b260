-- The loop of `row_total`: it adds one term a turn (`Totalling`). Assumes nothing.
use Prim.Native.Nat.{◌+◌, ◌*◌}
use lib.ListN.{get_or}
use Rattle.totals.specs.Totals.{Totalling}
use Rattle.totals.proofs.row_total.Given as goal

abbrev pub invariant-loop-j : goal.invariant-loop-j
invariant-loop-j l = Totalling l.m l.n (λ k. get_or l.t k 0 * get_or l.moment (l.i + k) 0) l.total l.j
