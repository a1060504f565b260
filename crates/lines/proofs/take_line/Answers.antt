-- `take_line` takes one line: the laws of `Taking` at the loop. Assumes nothing.
use native.Mathlib.Omega.{arith}
use borrow.Author.Tests.{eq-eqb, ne_eqb}
use Rattle.lines.specs.Taking.{taking-open, taking-ends, taking-on}
use Rattle.lines.proofs.take_line.Goals as goal

pub returns-then-is_end : goal.returns-then-is_end
returns-then-is_end c =
    taking-ends _ _ _ _ _ _ _ c.loop-i.invariant (omega arith) _ _ c.keep_byte-n.ensures
    (eq-eqb _ _ c.if-is_end.true)

pub loop-i-preserved : goal.loop-i-preserved
loop-i-preserved c =
    taking-on _ _ _ _ _ _ _ c.loop-i.invariant (omega arith) _ _ c.keep_byte-n.ensures
    (ne_eqb _ _ c.if-is_end.false) (omega arith)

pub returns : goal.returns
returns c = taking-open _ _ _ _ _ _ _ c.loop-i.invariant (omega arith)
