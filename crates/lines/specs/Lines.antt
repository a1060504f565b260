-- The lines of a text. A line is counted with its byte 10; the bytes after the last byte 10, if there are any, are a line too.
--   lines_of t  the lines of t
--   joined ls   lists one after the other
-- Item 7 of the change requests. Assumes nothing.
use Rattle.std.specs.Prelude.{List, [], ◌∷◌, ◌++◌, ℕ, eqb}
use Rattle.definitions.specs.Reading.{pick}
use Rattle.definitions.specs.Text.{newline}

-- the byte b before the first line, or alone where there is none
abbrev pub begun : ℕ → List (List ℕ) → List (List ℕ)
begun b [] = (b ∷ []) ∷ []
begun b (l ∷ ls) = (b ∷ l) ∷ ls

unfoldable pub lines_of : List ℕ → List (List ℕ)
lines_of [] = []
lines_of (b ∷ t) = pick (eqb b newline) ((b ∷ []) ∷ lines_of t) (begun b (lines_of t))

unfoldable pub joined : List (List ℕ) → List ℕ
joined [] = []
joined (l ∷ ls) = l ++ joined ls
