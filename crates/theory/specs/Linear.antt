-- Expand, Adjoint and Decompose are linear.
--   combine m n x u y v   the n first entries of x u + y v, modulo m
-- Proves that each of the three takes a combination to the combination of its answers: Expand and Adjoint for all numbers and
-- lists, Decompose on curves of a family that it can divide in. Assumes nothing.
use Rattle.std.specs.Prelude.{◌≡◌, List, [], ◌∷◌, ℕ, suc, ◌+◌, ◌*◌, ◌%◌, ◌<◌, ◌≤◌, get_or}
use Rattle.std.proofs.Common.{sym, ◌∙◌, ap₂, arith}
use Rattle.std.proofs.Math.Path.{ap}
use Rattle.std.proofs.Math.Nat.{mod-lt}
use Rattle.algebra.specs.Residues.{Zmod, res, res-add, res-mul, res-mod}
use Rattle.algebra.specs.Ring.{CommRing}
use Rattle.algebra.specs.Solver.{ring, reify}
use Rattle.algebra.specs.Sum.{sum, sum-cong, sum-add, sum-mul-left}
use Rattle.definitions.specs.Conversion.{expand, adjoint, decompose}
use Rattle.definitions.specs.Family.{Family, Curve, size}
use Rattle.definitions.specs.Number.{table}
use Rattle.numbers.specs.Lists.{table-entry}
use Rattle.theory.specs.Bridge.{entries, rows_of, entries-expand, entries-adjoint, expand-curve, adjoint-curve}
use Rattle.theory.specs.Recurrence.{term}
use Rattle.theory.specs.RoundTrip.{Decomposable, expand-decompose, decompose-unique}
use Rattle.theory.specs.Curves.{table-curve, curves-equal-residues}

unfoldable pub combine : ℕ → ℕ → ℕ → List ℕ → ℕ → List ℕ → List ℕ
combine m n x u y v = table n (λ i. (x * get_or u i 0 + y * get_or v i 0) % m)

-- ---- over any ring
module _ (R : CommRing) where
  open R use {Car, add as ◌⊕◌, mul as ◌⊗◌}

  infixl 65 ◌⊕◌
  infixl 70 ◌⊗◌
  pub sum-combine : (n : ℕ) (x y : Car) (u v φ : ℕ → Car)
      → sum R n (λ j. (x ⊗ u j ⊕ y ⊗ v j) ⊗ φ j) ≡ x ⊗ sum R n (λ j. u j ⊗ φ j) ⊕ y ⊗ sum R n (λ j. v j ⊗ φ j)
  sum-combine n x y u v φ = sum-cong R n (λ j h. ring R (x ∷ y ∷ u j ∷ v j ∷ φ j ∷ []) (search reify depth 20) tt)
      ∙ sum-add R n (λ j. x ⊗ (u j ⊗ φ j)) (λ j. y ⊗ (v j ⊗ φ j))
      ∙ ap₂ ◌⊕◌ (sum-mul-left R n x (λ j. u j ⊗ φ j)) (sum-mul-left R n y (λ j. v j ⊗ φ j))

-- ---- over the definitions
module _ (f : Family) (pos : 0 < f.m) where
  abbrev m : ℕ
  m = f.m

  abbrev n : ℕ
  n = size f

  abbrev Q : CommRing
  Q = Zmod m pos

  open Q use {Car, add as ◌⊕◌, mul as ◌⊗◌}

  infixl 65 ◌⊕◌
  infixl 70 ◌⊗◌
  pub combine-curve : (x : ℕ) (u : List ℕ) (y : ℕ) (v : List ℕ) → Curve f (combine m n x u y v)
  unfolding combine
  combine-curve x u y v = table-curve f _ (λ i h. mod-lt _ pos)

  pub entries-combine : (x : ℕ) (u : List ℕ) (y : ℕ) (v : List ℕ) (i : ℕ) → i < n
      → entries m pos (combine m n x u y v) i ≡ res m pos x ⊗ entries m pos u i ⊕ res m pos y ⊗ entries m pos v i
  unfolding combine
  entries-combine x u y v i h = ap (res m pos) (table-entry n _ i 0 h) ∙ simp (res-mod m pos, res-add m pos, res-mul m pos)

  -- what multiplies a list by a matrix is linear
  module _ (φ : ℕ → ℕ → Car) (convert : List ℕ → List ℕ) (curve : (u : List ℕ) → Curve f (convert u))
      (multiplies : (u : List ℕ) (i : ℕ) → i < n → entries m pos (convert u) i ≡ sum Q n (λ j. entries m pos u j ⊗ φ j i)) where
    matrix-linear : (x : ℕ) (u : List ℕ) (y : ℕ) (v : List ℕ) → convert (combine m n x u y v) ≡ combine m n x (convert u) y (convert v)
    matrix-linear x u y v = curves-equal-residues f _ _ (curve (combine m n x u y v)) (combine-curve x (convert u) y (convert v)) pos
        (λ i h. multiplies (combine m n x u y v) i h ∙ sum-cong Q n (λ j l. ap (λ t. t ⊗ φ j i) (entries-combine x u y v j l))
        ∙ sum-combine Q n (res m pos x) (res m pos y) (entries m pos u) (entries m pos v) (λ j. φ j i)
        ∙ sym (entries-combine x (convert u) y (convert v) i h ∙ simp (multiplies u i h, multiplies v i h)))

  pub expand-linear : (x : ℕ) (u : List ℕ) (y : ℕ) (v : List ℕ) → expand f (combine m n x u y v) ≡ combine m n x (expand f u) y (expand f v)
  expand-linear = matrix-linear (λ j i. term Q (rows_of f pos) (suc j) i) (expand f) (expand-curve f pos) (entries-expand f pos)

  pub adjoint-linear : (x : ℕ) (u : List ℕ) (y : ℕ) (v : List ℕ)
      → adjoint f (combine m n x u y v) ≡ combine m n x (adjoint f u) y (adjoint f v)
  adjoint-linear = matrix-linear (λ i j. term Q (rows_of f pos) (suc j) i) (adjoint f) (adjoint-curve f pos) (entries-adjoint f pos)

pub decompose-linear : (f : Family) → Decomposable f → (x : ℕ) (p : List ℕ) (y : ℕ) (q : List ℕ) → Curve f p → Curve f q
    → decompose f (combine f.m (size f) x p y q) ≡ combine f.m (size f) x (decompose f p) y (decompose f q)
decompose-linear f d x p y q cp cq =
    let two : 2 ≤ f.m = d.modulus in
    let pos : 0 < f.m = omega arith in
    let back = expand-linear f pos x (decompose f p) y (decompose f q) in
    sym (decompose-unique f d _ _ (combine-curve f pos x p y q) (combine-curve f pos x (decompose f p) y (decompose f q))
    (back ∙ rw (expand-decompose f d p cp, expand-decompose f d q cq)))
