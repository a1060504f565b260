-- What is kept of the line that a piece leaves open.
--   LeftOpen piece before count before' r   r: how many bytes at the front of before' these are, where the first count of before are kept of the line
--                                           that the piece goes on with, and that they have no byte 10; nothing where an answer could not be written
-- Proved: they are what the pieces' law says, after they were copied back; how many they are. Assumes nothing.
use Rattle.std.specs.Prelude.{List, ◌≡◌, ℕ, ◌≤◌, length, take, Result, Ok, Err}
use Rattle.std.proofs.Common.{sym, ◌∙◌, ap, subst}
use Rattle.lines.specs.Walking.{Open}
use Rattle.store_lines.specs.Answering.{printed_lines, PieceAnswered}
use Rattle.lines.specs.Determining.{Unbroken}
use Rattle.lines.specs.Pieces.{ended, unended-unbroken}
use Rattle.std.specs.declared.io.Error.{Error}

abbrev pub LeftOpen : List ℕ → List ℕ → ℕ → List ℕ → Result ℕ Error → Type 0
LeftOpen piece before count before' (Ok k) = Open (length before) (take count before) piece before' k × Unbroken (take k before')
LeftOpen piece before count before' (Err error) = Unit {0}

pub left-within : (piece before : List ℕ) (count : ℕ) (before' : List ℕ) (r : Result ℕ Error) (k : ℕ) → LeftOpen piece before count before' r
    → r ≡ Ok k → k ≤ length before'
left-within piece before count before' r k left is = (subst (LeftOpen piece before count before') is left).0.within

pub left-unbroken : (piece before : List ℕ) (count : ℕ) (before' : List ℕ) (r : Result ℕ Error) (k : ℕ) → LeftOpen piece before count before' r
    → r ≡ Ok k → Unbroken (take k before')
left-unbroken piece before count before' r k left is = (subst (LeftOpen piece before count before') is left).1

module _ (piece before : List ℕ) (count : ℕ) (out line' : List ℕ) (kept : ℕ) (out' : List ℕ) (n : ℕ)
    (p : PieceAnswered piece before count out 0 line' kept out' n) where
  pub lines-printed : length before ≡ 8193 → take n out' ≡ printed_lines (ended 8193 (take count before) piece)
  lines-printed size = p.bytes ∙ ap (λ room. printed_lines (ended room (take count before) piece)) size

  pub copied-back : (before' : List ℕ) → take kept before' ≡ take kept line' → kept ≤ length before' → Unbroken (take count before)
      → Open (length before) (take count before) piece before' kept × Unbroken (take kept before')
  copied-back before' same within unbroken = (
    record { bytes = same ∙ p.left.bytes; within = within },
    subst Unbroken (sym (same ∙ p.left.bytes)) (unended-unbroken (length before) (take count before) piece unbroken),
  )
