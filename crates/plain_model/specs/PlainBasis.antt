-- Multiplication by x in the basis F, as three lists: x F_i = rise_i F_{i+1} + stay_i F_i + fall_i F_{i-1}, where rise_i is
-- 1 / a_{i+1}, stay_i is - b_{i+1} / a_{i+1} and fall_i is - c_{i+1} / a_{i+1}. A step of Decompose is then one sum of products, with
-- one remainder for each entry.
--   basis_entry m y rise stay fall w i  entry i of the curve of y and x times the curve w
--   Basis f d rise stay fall            the three lists are those of the family f, at every place; d holds the inverses of the a
-- Proved: a step by these lists is a step of the plain model, which divides by the a first.
-- Assumes nothing.
use Rattle.std.specs.Prelude.{◌≡◌, List, [], ◌∷◌, get_or}
use Rattle.std.proofs.Math.Path.{sym}
use Rattle.std.proofs.Common.{◌∙◌, mod-lt, arith}
use Rattle.std.proofs.Math.Logic.{by_cases}
use Prim.Native.Nat.{ℕ, zero, suc, ◌+◌, ◌*◌, ◌%◌, ◌<◌}
use Rattle.std.proofs.Math.Decide.{dec_lt}
use Rattle.std.proofs.Math.Nat.{zero-mul, zero-mod}
use Rattle.std.proofs.Math.ListN.{length, get_or-eq_default}
use Rattle.algebra.specs.Residues.{Zmod, res, res-add, res-mul, res-mod, res-zero, res-injective}
use Rattle.algebra.specs.Ring.{CommRing}
use Rattle.algebra.specs.Solver.{ring, reify}
use Rattle.definitions.specs.Family.{Family, Curve, size, row_at, times_x}
use Rattle.definitions.specs.Number.{negative}
use Rattle.numbers.specs.Lists.{table-entry, table-past}
use Rattle.plain_model.specs.PlainModels.{constant, divide, decompose_entry}

unfoldable pub basis_entry : ℕ → ℕ → List ℕ → List ℕ → List ℕ → List ℕ → ℕ → ℕ
basis_entry m y rise stay fall w i =
    (constant y i + times_x (λ j. get_or rise j 0 * get_or w j 0) i + get_or stay i 0 * get_or w i 0 + get_or fall (suc i) 0 * get_or w (suc i) 0) % m

pub record Basis (f : Family) (d rise stay fall : List ℕ) : Type 0 where
  pub rise_is : (i : ℕ) → get_or rise i 0 ≡ get_or d i 0
  pub stay_is : (i : ℕ) → get_or stay i 0 ≡ negative f.m (row_at f i).b * get_or d i 0 % f.m
  pub fall_is : (i : ℕ) → get_or fall i 0 ≡ negative f.m (row_at f i).c * get_or d i 0 % f.m

module _ (f : Family) (pos : 0 < f.m) (d rise stay fall : List ℕ) (basis : Basis f d rise stay fall) where
  abbrev m : ℕ
  m = f.m

  abbrev Q : CommRing
  Q = Zmod m pos

  abbrev ι : ℕ → Q.Car
  ι = res m pos

  abbrev E : List ℕ → ℕ → Q.Car
  E xs i = ι (get_or xs i 0)

  -- the residues of - b_{i+1} and - c_{i+1}
  abbrev less_b : ℕ → Q.Car
  less_b i = ι (negative m (row_at f i).b)

  abbrev less_c : ℕ → Q.Car
  less_c i = ι (negative m (row_at f i).c)

  -- what the model divides
  divided : (w : List ℕ) → Curve f w → (i : ℕ) → get_or (divide f d w) i 0 ≡ get_or w i 0 * get_or d i 0 % m
  unfolding divide
  divided w cw i =
      let long : length w ≡ size f = cw.long in
      by_cases (dec_lt i (size f)) (λ h. table-entry (size f) _ i 0 h)
      (λ h. table-past (size f) _ i 0 (omega arith)
      ∙ sym (rw (get_or-eq_default w 0 {n = i} (omega arith), zero-mul (get_or d i 0)) (zero-mod m)))

  residues-agree : (y : ℕ) (current w : List ℕ) → ((i : ℕ) → get_or current i 0 ≡ get_or w i 0) → Curve f w → (i : ℕ)
      → ι (basis_entry m y rise stay fall current i) ≡ ι (decompose_entry m y (row_at f i).b (row_at f (suc i)).c (divide f d w) i)
  unfolding basis_entry decompose_entry constant times_x
  residues-agree y current w e cw zero =
      simp (basis.stay_is, basis.fall_is, e, divided w cw, res-mod m pos, res-add m pos, res-mul m pos, res-zero m pos)
      (ring Q (ι y ∷ less_b 0 ∷ less_c 1 ∷ E d 0 ∷ E d 1 ∷ E w 0 ∷ E w 1 ∷ []) (search reify depth 20) tt)
  residues-agree y current w e cw (suc i) =
      simp (basis.rise_is, basis.stay_is, basis.fall_is, e, divided w cw, res-mod m pos, res-add m pos, res-mul m pos, res-zero m pos)
      (ring Q (less_b (suc i) ∷ less_c (suc (suc i)) ∷ E d i ∷ E d (suc i) ∷ E d (suc (suc i))
      ∷ E w i ∷ E w (suc i) ∷ E w (suc (suc i)) ∷ []) (search reify depth 20) tt)

  pub basis_entry-decomposes : (y : ℕ) (current w : List ℕ) → ((i : ℕ) → get_or current i 0 ≡ get_or w i 0) → Curve f w → (i : ℕ)
      → basis_entry m y rise stay fall current i ≡ decompose_entry m y (row_at f i).b (row_at f (suc i)).c (divide f d w) i
  unfolding basis_entry decompose_entry
  basis_entry-decomposes y current w e cw i = res-injective m pos _ _ (mod-lt _ pos) (mod-lt _ pos) (residues-agree y current w e cw i)
