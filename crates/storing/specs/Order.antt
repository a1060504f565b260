-- Even powers first: a list put as its even indices rising, then its odd indices rising, and the way back.
--   half n          how many of the indices 0 to n - 1 are even
--   place n i       where entry i of n goes: the even indices from place 0 on, the odd ones from place half n on
--   even_first xs   the list in which entry i of xs stands at its place
--   even_back ys    the list whose entry i is the one at the place of i in ys
--   arranged d xs   by the direction: either of them;  opposite d  the other direction
-- Item 7 of the change requests. Assumes nothing.
use Rattle.std.specs.Prelude.{List, [], ◌∷◌, ℕ, suc, ◌+◌, ◌/◌, ◌%◌, eqb, length, get_or, set, replicate}
use Rattle.definitions.specs.Number.{table}
use Rattle.definitions.specs.Reading.{pick}
use Rattle.storing.specs.declared.Direction.{Direction}

unfoldable pub half : ℕ → ℕ
half n = (n + 1) / 2

unfoldable pub place : ℕ → ℕ → ℕ
place n i = pick (eqb (i % 2) 0) (i / 2) (half n + i / 2)

-- the entries xs, the first of which has index i, each put at its place in ys
unfoldable pub placed : ℕ → ℕ → List ℕ → List ℕ → List ℕ
placed n i [] ys = ys
placed n i (x ∷ xs) ys = placed n (suc i) xs (set ys (place n i) x)

unfoldable pub even_first : List ℕ → List ℕ
even_first xs = placed (length xs) 0 xs (replicate (length xs) 0)

unfoldable pub even_back : List ℕ → List ℕ
even_back ys = table (length ys) (λ i. get_or ys (place (length ys) i) 0)

unfoldable pub arranged : Direction → List ℕ → List ℕ
arranged Direction.EvenFirst xs = even_first xs
arranged Direction.EvenBack xs = even_back xs

abbrev pub opposite : Direction → Direction
opposite Direction.EvenFirst = Direction.EvenBack
opposite Direction.EvenBack = Direction.EvenFirst
