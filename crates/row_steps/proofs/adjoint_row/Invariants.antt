-- The loop of `adjoint_row`: the lists after i entries (`AdjoiningRow`). Assumes nothing.
use Rattle.row_steps.specs.AdjointRow.{AdjoiningRow}
use Rattle.row_steps.proofs.adjoint_row.Given as goal

abbrev pub invariant-loop-i : goal.invariant-loop-i
invariant-loop-i l = AdjoiningRow l.m l.a l.b l.c l.initial.current l.initial.older l.count l.current l.older l.i
