-- What determines the lines of a text.
-- Proved: bytes without a byte 10, and then one, are the first line of what they begin (line_first). In Determining of proofs/: the lines
-- one after the other are the text (joined-lines); bytes without a byte 10 are one line, or none (line-open). Assumes nothing.
use Rattle.std.specs.Prelude.{false, List, [], ◌∷◌, ◌++◌, ◌≡◌, refl, ℕ, eqb}
use Rattle.definitions.specs.Text.{newline}
use Rattle.lines.specs.Lines.{begun, lines_of}

-- no byte is 10
abbrev pub Unbroken : List ℕ → Type 0
Unbroken [] = Unit {0}
Unbroken (b ∷ l) = (eqb b newline ≡ false) × Unbroken l

pub line_first : (l t : List ℕ) → Unbroken l → lines_of (l ++ newline ∷ t) ≡ (l ++ newline ∷ []) ∷ lines_of t
unfolding lines_of
line_first [] t u = refl
line_first (b ∷ l) t u = rw (u.0, line_first l t u.1)

-- bytes as one line, or as none
abbrev pub alone : List ℕ → List (List ℕ)
alone [] = []
alone (b ∷ l) = (b ∷ l) ∷ []

pub begun-alone : (b : ℕ) (l : List ℕ) → begun b (alone l) ≡ (b ∷ l) ∷ []
begun-alone b [] = refl
begun-alone b (c ∷ l) = refl
