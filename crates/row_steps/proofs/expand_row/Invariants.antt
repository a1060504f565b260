-- The loop of `expand_row`: the lists after i entries (`ExpandingRow`). Assumes nothing.
use Rattle.row_steps.specs.ExpandRow.{ExpandingRow}
use Rattle.row_steps.proofs.expand_row.Given as goal

abbrev pub invariant-loop-i : goal.invariant-loop-i
invariant-loop-i l =
    ExpandingRow l.m l.x l.a l.b l.c l.initial.current l.initial.older l.count l.current l.older l.constant l.previous l.i
