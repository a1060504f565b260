-- What the law of zeros speaks of.
--   NoB f         every b of the rows is zero; the closing row, whose b is 1 and which Expand does not use, is not asked
--   OnlyEven u    the curve has only even entries: those at odd indices are zero;  OnlyOdd u  only odd ones
--   even_part ys  of a list put even powers first, the entries of even powers;  odd_part ys  those of odd powers
-- Item 7 of the change requests. Assumes nothing.
use Rattle.std.specs.Prelude.{List, ◌≡◌, ℕ, ◌%◌, ◌<◌, length, get_or, take, drop}
use Rattle.definitions.specs.Family.{Family, rows}
use Rattle.storing.specs.Order.{half}

abbrev pub NoB : Family → Type 0
NoB f = (i : ℕ) → i < rows f → get_or f.b i 0 ≡ 0

abbrev pub OnlyEven : List ℕ → Type 0
OnlyEven u = (i : ℕ) → i < length u → i % 2 ≡ 1 → get_or u i 0 ≡ 0

abbrev pub OnlyOdd : List ℕ → Type 0
OnlyOdd u = (i : ℕ) → i < length u → i % 2 ≡ 0 → get_or u i 0 ≡ 0

unfoldable pub even_part : List ℕ → List ℕ
even_part ys = take (half (length ys)) ys

unfoldable pub odd_part : List ℕ → List ℕ
odd_part ys = drop (half (length ys)) ys
