-- How the lines of a text are had from its pieces, where there is room for so many bytes of a line and the rest of it is passed over. With
-- room for one byte more than the longest line that is wanted, a list that is full tells that its line was too long.
--   kept room l        what is kept of the bytes l of a line
--   ended room h t     what is kept of each line that ends in the piece t, which goes on with a line of which h is kept
--   unended room h t   what is kept of the line that t leaves open
--   handed room h ps   what is kept of every line of the pieces ps, of the one that the last leaves open too
-- Proved: each over two pieces, one after the other (ended-append, unended-append); what is open of a line has no byte 10 (unended-unbroken).
-- That the same is kept of a text however it is cut (handed-lines) stands in Pieces of proofs/. Assumes nothing.
use Rattle.std.specs.Prelude.{Bool, true, false, List, [], ◌∷◌, ◌++◌, ◌≡◌, ℕ, zero, suc, eqb, take}
use Rattle.std.proofs.Common.{ap}
use Rattle.std.proofs.Math.Path.{refl}
use Rattle.definitions.specs.Reading.{pick}
use Rattle.definitions.specs.Text.{newline}
use Rattle.lines.specs.Determining.{Unbroken, alone}

abbrev pub kept : ℕ → List ℕ → List ℕ
kept room l = take room l

unfoldable pub ended : ℕ → List ℕ → List ℕ → List (List ℕ)
ended room h [] = []
ended room h (b ∷ t) =
    pick (eqb b newline) (kept room (h ++ b ∷ []) ∷ ended room [] t) (ended room (kept room (h ++ b ∷ [])) t)

unfoldable pub unended : ℕ → List ℕ → List ℕ → List ℕ
unended room h [] = h
unended room h (b ∷ t) = pick (eqb b newline) (unended room [] t) (unended room (kept room (h ++ b ∷ [])) t)

unfoldable pub handed : ℕ → List ℕ → List (List ℕ) → List (List ℕ)
handed room h [] = alone h
handed room h (p ∷ ps) = ended room h p ++ handed room (unended room h p) ps

-- ---- byte by byte
module _ (room : ℕ) (h : List ℕ) where
  pub ended-none : ended room h [] ≡ []
  unfolding ended
  ended-none = refl

  pub unended-none : unended room h [] ≡ h
  unfolding unended
  unended-none = refl

  module _ (b : ℕ) (t : List ℕ) where
    pub ended-break : eqb b newline ≡ true → ended room h (b ∷ t) ≡ kept room (h ++ b ∷ []) ∷ ended room [] t
    unfolding ended
    ended-break e = rw e

    pub ended-on : eqb b newline ≡ false → ended room h (b ∷ t) ≡ ended room (kept room (h ++ b ∷ [])) t
    unfolding ended
    ended-on e = rw e

    pub unended-break : eqb b newline ≡ true → unended room h (b ∷ t) ≡ unended room [] t
    unfolding unended
    unended-break e = rw e

    pub unended-on : eqb b newline ≡ false → unended room h (b ∷ t) ≡ unended room (kept room (h ++ b ∷ [])) t
    unfolding unended
    unended-on e = rw e

-- ---- piece by piece
pub unended-append : (room : ℕ) (h s t : List ℕ) → unended room h (s ++ t) ≡ unended room (unended room h s) t
unfolding unended
unended-append room h [] t = refl
unended-append room h (b ∷ s) t = split (unended-append room [] s t) (unended-append room (kept room (h ++ b ∷ [])) s t) (eqb b newline)
  where
    split : unended room [] (s ++ t) ≡ unended room (unended room [] s) t
        → unended room (kept room (h ++ b ∷ [])) (s ++ t) ≡ unended room (unended room (kept room (h ++ b ∷ [])) s) t
        → (e : Bool) → pick e (unended room [] (s ++ t)) (unended room (kept room (h ++ b ∷ [])) (s ++ t))
        ≡ unended room (pick e (unended room [] s) (unended room (kept room (h ++ b ∷ [])) s)) t
    split broken on true = broken
    split broken on false = on

pub ended-append : (room : ℕ) (h s t : List ℕ) → ended room h (s ++ t) ≡ ended room h s ++ ended room (unended room h s) t
unfolding ended unended
ended-append room h [] t = refl
ended-append room h (b ∷ s) t = split (ended-append room [] s t) (ended-append room (kept room (h ++ b ∷ [])) s t) (eqb b newline)
  where
    split : ended room [] (s ++ t) ≡ ended room [] s ++ ended room (unended room [] s) t
        → ended room (kept room (h ++ b ∷ [])) (s ++ t)
        ≡ ended room (kept room (h ++ b ∷ [])) s ++ ended room (unended room (kept room (h ++ b ∷ [])) s) t
        → (e : Bool)
        → pick e (kept room (h ++ b ∷ []) ∷ ended room [] (s ++ t)) (ended room (kept room (h ++ b ∷ [])) (s ++ t))
        ≡ pick e (kept room (h ++ b ∷ []) ∷ ended room [] s) (ended room (kept room (h ++ b ∷ [])) s)
        ++ ended room (pick e (unended room [] s) (unended room (kept room (h ++ b ∷ [])) s)) t
    split broken on true = ap (λ ls. kept room (h ++ b ∷ []) ∷ ls) broken
    split broken on false = on

-- ---- what is open of a line has no byte 10
unbroken-take : (room : ℕ) (l : List ℕ) → Unbroken l → Unbroken (take room l)
unbroken-take zero l u = tt
unbroken-take (suc room) [] u = tt
unbroken-take (suc room) (b ∷ l) u = (u.0, unbroken-take room l u.1)

unbroken-more : (h : List ℕ) (b : ℕ) → Unbroken h → eqb b newline ≡ false → Unbroken (h ++ b ∷ [])
unbroken-more [] b u e = (e, tt)
unbroken-more (c ∷ h) b u e = (u.0, unbroken-more h b u.1 e)

pub unended-unbroken : (room : ℕ) (h t : List ℕ) → Unbroken h → Unbroken (unended room h t)
unfolding unended
unended-unbroken room h [] u = u
unended-unbroken room h (b ∷ t) u =
    split (unended-unbroken room [] t tt) (λ v. unended-unbroken room (kept room (h ++ b ∷ [])) t v) (eqb b newline) refl
  where
    split : Unbroken (unended room [] t) → (Unbroken (kept room (h ++ b ∷ [])) → Unbroken (unended room (kept room (h ++ b ∷ [])) t))
        → (e : Bool) → eqb b newline ≡ e → Unbroken (pick e (unended room [] t) (unended room (kept room (h ++ b ∷ [])) t))
    split broken on true e = broken
    split broken on false e = on (unbroken-take room (h ++ b ∷ []) (unbroken-more h b u e))
