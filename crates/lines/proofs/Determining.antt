-- The lines of a text, one after the other, are the text (joined-lines). Bytes without a byte 10 are one line, or none (line-open).
-- Both rest on lines_of and begun, which edits of specs/ change.
-- Assumes nothing.
use Rattle.std.specs.Prelude.{Bool, true, false, List, [], ◌∷◌, ◌≡◌, refl, ℕ, eqb}
use Rattle.std.proofs.Common.{◌∙◌, ap}
use Rattle.definitions.specs.Reading.{pick}
use Rattle.definitions.specs.Text.{newline}
use Rattle.lines.specs.Lines.{begun, lines_of, joined}
use Rattle.lines.specs.Determining.{Unbroken, alone, begun-alone}

joined-begun : (b : ℕ) (ls : List (List ℕ)) → joined (begun b ls) ≡ b ∷ joined ls
unfolding joined
joined-begun b [] = refl
joined-begun b (l ∷ ls) = refl

pub joined-lines : (t : List ℕ) → joined (lines_of t) ≡ t
unfolding joined lines_of
joined-lines [] = refl
joined-lines (b ∷ t) = split (joined-lines t) (eqb b newline)
  where
    split : joined (lines_of t) ≡ t → (e : Bool) → joined (pick e ((b ∷ []) ∷ lines_of t) (begun b (lines_of t))) ≡ b ∷ t
    split rest true = ap (λ s. b ∷ s) rest
    split rest false = joined-begun b (lines_of t) ∙ ap (λ s. b ∷ s) rest

pub line-open : (l : List ℕ) → Unbroken l → lines_of l ≡ alone l
unfolding lines_of
line-open [] u = refl
line-open (b ∷ l) u = rw u.0 (ap (begun b) (line-open l u.1) ∙ begun-alone b l)
