-- F_n and G_{n-1} read off from Expand, as Figure 3 has it.
--   extended f     f with its closing row as one row more: r + 1 rows
--   from_second f  the family that begins with row 2 of f
--   last_unit r    the list 0 .. 0 1 of r + 1 numbers
-- Expand of 0 .. 0 1 gives F_n (n + 1 coefficients) on `extended f` and G_{n-1} (n coefficients) on `from_second (extended f)`, and so does
-- the tree: Extended of proofs/ proves it. The report, Figure 3. Assumes nothing.
use Rattle.std.specs.Prelude.{List, [], ◌∷◌, ◌++◌, ℕ, drop, replicate}
use Rattle.definitions.specs.Family.{Family}

unfoldable pub extended : Family → Family
extended f = record { m = f.m; a = f.a ++ f.close.a ∷ []; b = f.b ++ f.close.b ∷ []; c = f.c ++ f.close.c ∷ []; close = f.close }

unfoldable pub from_second : Family → Family
from_second f = record { m = f.m; a = drop 1 f.a; b = drop 1 f.b; c = drop 1 f.c; close = f.close }

unfoldable pub last_unit : ℕ → List ℕ
last_unit r = replicate r 0 ++ 1 ∷ []
