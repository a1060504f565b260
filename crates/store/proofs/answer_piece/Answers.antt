-- `answer_piece` writes what is printed for the lines that end in the piece, and keeps what it leaves open. Assumes nothing.
use native.Mathlib.Omega.{arith}
use Rattle.store.specs.Keeping.{lines-printed, copied-back}
use Rattle.store.proofs.answer_piece.Goals as goal

-- found by the check too, but only this says what is wrong where other lines are written
pub print_lines-requires : goal.print_lines-requires
print_lines-requires g c =
    (omega arith, omega arith, c.requires.5, lines-printed _ _ _ _ _ _ _ _ c.answer_piece-progress.ensures (omega arith))

pub returns : goal.returns
returns g c =
    copied-back _ _ _ _ _ _ _ _ c.answer_piece-progress.ensures _ c.copy_bytes.ensures
    (omega (arith, c.answer_piece-progress.ensures.left.within, c.requires.1, c.requires.3)) c.requires.5
