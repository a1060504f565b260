-- However a text is cut into pieces, the same is kept of its lines.
-- Proved: what is kept of the lines that end in a text, and of the one that it leaves open, is what is kept of its lines (ended-text); pieces
-- keep the same as they do joined, and so the same as the lines of the whole text (handed-lines). These rest on lines_of, which edits of
-- specs/ change. Assumes nothing.
use Rattle.std.specs.Prelude.{Bool, true, false, List, [], ◌∷◌, ◌++◌, map, ◌≡◌, ℕ, zero, suc, ◌<◌, eqb, take}
use Rattle.std.proofs.Common.{append_assoc, sym, ◌∙◌, ap, ap₂, arith}
use Rattle.std.proofs.Math.Path.{refl}
use Rattle.std.proofs.Math.Seq.{take-nil}
use Rattle.definitions.specs.Reading.{pick}
use Rattle.definitions.specs.Text.{newline}
use Rattle.lines.specs.Lines.{begun, lines_of, joined}
use Rattle.lines.specs.Determining.{alone}
use Rattle.lines.specs.Pieces.{kept, ended, unended, handed, unended-append, ended-append}

-- what the pieces hand over is what they do as one
handed-joined : (room : ℕ) (h : List ℕ) (ps : List (List ℕ))
    → handed room h ps ≡ ended room h (joined ps) ++ alone (unended room h (joined ps))
unfolding handed joined ended unended
handed-joined room h [] = refl
handed-joined room h (p ∷ ps) =
    ap (λ ls. ended room h p ++ ls) (handed-joined room (unended room h p) ps)
    ∙ sym (append_assoc (ended room h p) (ended room (unended room h p) (joined ps)) (alone (unended room (unended room h p) (joined ps))))
    ∙ sym (ap₂ (λ ls l. ls ++ alone l) (ended-append room h p (joined ps)) (unended-append room h p (joined ps)))

-- ---- one piece, and the lines of a text
-- the lines ls of which the first goes on with h
abbrev glued : List ℕ → List (List ℕ) → List (List ℕ)
glued [] ls = ls
glued (b ∷ h) ls = begun b (glued h ls)

glued-one : (h : List ℕ) (b : ℕ) (ls : List (List ℕ)) → glued (h ++ b ∷ []) ls ≡ glued h (begun b ls)
glued-one [] b ls = refl
glued-one (c ∷ h) b ls = ap (begun c) (glued-one h b ls)

glued-none : (h : List ℕ) → glued h [] ≡ alone h
glued-none [] = refl
glued-none (b ∷ []) = refl
glued-none (b ∷ c ∷ h) = ap (begun b) (glued-none (c ∷ h))

glued-some : (h l : List ℕ) (ls : List (List ℕ)) → glued h (l ∷ ls) ≡ (h ++ l) ∷ ls
glued-some [] l ls = refl
glued-some (b ∷ h) l ls = ap (begun b) (glued-some h l ls)

kept-alone : (room : ℕ) (h : List ℕ) → 0 < room → alone (kept room h) ≡ map (kept room) (alone h)
kept-alone zero h some = absurd (omega arith)
kept-alone (suc room) [] some = refl
kept-alone (suc room) (b ∷ h) some = refl

-- what was kept once may be kept before more comes after it
kept_again : (n : ℕ) (h s : List ℕ) → take n (take n h ++ s) ≡ take n (h ++ s)
kept_again zero h s = refl
kept_again (suc n) [] s = refl
kept_again (suc n) (b ∷ h) s = ap (λ l. b ∷ l) (kept_again n h s)

-- h: the bytes of an open line, of which kept room h is kept
ended-lines : (room : ℕ) → 0 < room → (h t : List ℕ)
    → ended room (kept room h) t ++ alone (unended room (kept room h) t) ≡ map (kept room) (glued h (lines_of t))
unfolding ended unended lines_of
ended-lines room some h [] = kept-alone room h some ∙ ap (map (kept room)) (sym (glued-none h))
ended-lines room some h (b ∷ t) = split (ended-lines room some [] t) (ended-lines room some (h ++ b ∷ []) t) (eqb b newline)
  where
    again : kept room (kept room h ++ b ∷ []) ≡ kept room (h ++ b ∷ [])
    again = kept_again room h (b ∷ [])

    split : ended room (kept room []) t ++ alone (unended room (kept room []) t) ≡ map (kept room) (lines_of t)
        → ended room (kept room (h ++ b ∷ [])) t ++ alone (unended room (kept room (h ++ b ∷ [])) t)
        ≡ map (kept room) (glued (h ++ b ∷ []) (lines_of t))
        → (e : Bool)
        → pick e (kept room (kept room h ++ b ∷ []) ∷ ended room [] t) (ended room (kept room (kept room h ++ b ∷ [])) t)
        ++ alone (pick e (unended room [] t) (unended room (kept room (kept room h ++ b ∷ [])) t))
        ≡ map (kept room) (glued h (pick e ((b ∷ []) ∷ lines_of t) (begun b (lines_of t))))
    split broken on true =
        ap₂ ◌∷◌ again (ap (λ l. ended room l t ++ alone (unended room l t)) (sym (take-nil room)) ∙ broken)
        ∙ sym (ap (map (kept room)) (glued-some h (b ∷ []) (lines_of t)))
    split broken on false =
        ap (λ l. ended room l t ++ alone (unended room l t)) again ∙ on ∙ ap (map (kept room)) (glued-one h b (lines_of t))

pub ended-text : (room : ℕ) → 0 < room → (t : List ℕ) → ended room [] t ++ alone (unended room [] t) ≡ map (kept room) (lines_of t)
ended-text room some t = ap (λ l. ended room l t ++ alone (unended room l t)) (sym (take-nil room)) ∙ ended-lines room some [] t

pub handed-lines : (room : ℕ) → 0 < room → (ps : List (List ℕ)) → handed room [] ps ≡ map (kept room) (lines_of (joined ps))
handed-lines room some ps = handed-joined room [] ps ∙ ended-text room some (joined ps)
