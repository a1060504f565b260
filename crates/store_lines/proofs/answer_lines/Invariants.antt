-- The loop of `answer_lines`: what is printed for the lines that were taken is put (`Printing`). The measure is what is left of the piece.
-- Assumes nothing.
use Prim.Native.Nat.{◌-◌}
use lib.ListN.{length}
use Rattle.store_lines.specs.Answering.{Printing}
use Rattle.store_lines.proofs.answer_lines.Given as goal

abbrev pub invariant-loop-at : goal.invariant-loop-at
invariant-loop-at l = Printing l.piece l.initial.line l.count l.initial.out l.from l.line l.kept l.at l.out l.n

abbrev pub decreases-loop-at : goal.decreases-loop-at
decreases-loop-at l = length l.piece - l.at
