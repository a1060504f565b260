-- `answer_lines` puts what is printed for the lines that end in a piece, one after the other: the laws of `Printing` at the loop. Assumes
-- nothing.
use Rattle.std.proofs.Common.{refl}
use native.Mathlib.Omega.{arith}
use Rattle.store_lines.specs.Answering.{printing-starts, printing-past, printing-line}
use Rattle.store_lines.proofs.answer_lines.Goals as goal

pub loop-at-init : goal.loop-at-init
loop-at-init c = printing-starts _ _ _ _ _ (omega arith) (omega arith)

pub loop-at-preserved : goal.loop-at-preserved
loop-at-preserved c =
    printing-line _ _ _ _ _ (omega arith) _ _ _ _ _ c.loop-at.invariant _ _ _ _ c.in-Ended.ensures
    (omega (arith, c.loop-at.invariant.walking.size))
    (omega arith) refl c.requires.2 _ _ c.put_printed-n.ensures

pub returns : goal.returns
returns c = printing-past _ _ _ _ _ (omega arith) _ _ _ _ _ c.loop-at.invariant c.loop-at-test.false
