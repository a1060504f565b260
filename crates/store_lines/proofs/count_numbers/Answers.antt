-- `count_numbers` reads a line with a key, and then the text is to end. Assumes nothing.
use Rattle.store_lines.specs.Requests.{counted-more, counted-whole}
use native.Mathlib.Omega.{arith}
use Rattle.store_lines.proofs.count_numbers.Goals as goal

pub returns-then-numbers-text : goal.returns-then-numbers-text
returns-then-numbers-text c = counted-more _ _ _ _ _ _ c.in_ok-numbers.ensures c.if-numbers-text.true

pub returns : goal.returns
returns c = counted-whole _ _ _ _ _ _ c.in_ok-numbers.ensures c.if-numbers-text.false (omega arith)
