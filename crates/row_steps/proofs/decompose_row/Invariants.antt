-- The loop of `decompose_row`: the lists after i entries (`Multiplying`). Assumes nothing.
use Rattle.row_steps.specs.DecomposeRow.{Multiplying}
use Rattle.row_steps.proofs.decompose_row.Given as goal

abbrev pub invariant-loop-i : goal.invariant-loop-i
invariant-loop-i l =
    Multiplying l.m l.p l.rise l.stay l.fall l.initial.current l.count l.current l.constant l.lead l.previous l.i
