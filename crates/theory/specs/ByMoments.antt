-- Decompose by the moments, as the tree way works it.
--   hankel_product f p     p times the matrix whose entry (i, k) is moment i + k
--   moments_decompose f p  Adjoint of that, each entry divided by its norm
-- Proves that this is Decompose, for every convertible family and every curve: F^t H F = D read as F^{-1} = D^{-1} F^t H.
-- The report, Figure 3. Assumes nothing.
use Rattle.std.specs.Prelude.{◌≡◌, refl, List, ℕ, suc, ◌+◌, ◌*◌, ◌%◌, ◌<◌, ◌≤◌}
use Rattle.std.proofs.Common.{sym, ◌∙◌, mod-lt, le_of_suc-le-suc, arith}
use Rattle.std.proofs.Math.Path.{ap}
use Rattle.std.proofs.Math.ListN.{get_or}
use Rattle.algebra.specs.Residues.{Zmod, res, res-mul, res-mod}
use Rattle.algebra.specs.Ring.{CommRing}
use Rattle.algebra.specs.Sum as Sum
use Rattle.definitions.specs.Conversion.{expand, adjoint, decompose}
use Rattle.definitions.specs.Family.{Family, Convertible, Curve, size}
use Rattle.definitions.specs.Number.{sum, table, inverse}
use Rattle.definitions.specs.Orthogonality.{moments, norm, norms}
use Rattle.numbers.specs.Lists.{table-entry}
use Rattle.numbers.specs.Residue.{residue-sum, residue-inverse}
use Rattle.theory.specs.Bridge.{entries, rows_of, entries-expand, entries-adjoint}
use Rattle.theory.specs.Curves.{table-curve, curves-equal-residues}
use Rattle.theory.specs.BilinearForm.{form, form-rows, form-cong}
use Rattle.theory.specs.Moments.{norms-entry, convertible-moments, convertible-norms, norms-have-inverses}
use Rattle.theory.specs.Orthogonal.{form-row}
use Rattle.theory.specs.Recurrence.{Rows, term}
use Rattle.theory.specs.RoundTrip.{convertible-decomposable, decompose-curve, expand-decompose}

unfoldable pub hankel_product : Family → List ℕ → List ℕ
hankel_product f p = table (size f) (λ i. sum (size f) (λ k. get_or (moments f) (i + k) 0 * get_or p k 0) % f.m)

unfoldable pub moments_decompose : Family → List ℕ → List ℕ
moments_decompose f p = table (size f) (λ j. get_or (adjoint f (hankel_product f p)) j 0 * inverse f.m (norm f j) % f.m)

pub hankel_product-curve : (f : Family) → 0 < f.m → (p : List ℕ) → Curve f (hankel_product f p)
unfolding hankel_product
hankel_product-curve f pos p = table-curve f _ (λ i h. mod-lt _ pos)

pub moments_decompose-curve : (f : Family) → 0 < f.m → (p : List ℕ) → Curve f (moments_decompose f p)
unfolding moments_decompose
moments_decompose-curve f pos p = table-curve f _ (λ i h. mod-lt _ pos)

module _ (f : Family) (pos : 0 < f.m) where
  abbrev m : ℕ
  m = f.m

  abbrev Q : CommRing
  Q = Zmod m pos

  open Q use {mul as ◌⊗◌}

  infixl 70 ◌⊗◌
  abbrev ρ : Rows Q
  ρ = rows_of f pos

  abbrev ι : ℕ → Q.Car
  ι = res m pos

  abbrev E : List ℕ → ℕ → Q.Car
  E = entries m pos

  entries-hankel_product : (p : List ℕ) (i : ℕ) → i < size f
      → E (hankel_product f p) i ≡ Sum.sum Q (size f) (λ k. E (moments f) (i + k) ⊗ E p k)
  unfolding hankel_product
  entries-hankel_product p i h = ap ι (table-entry (size f) (λ i. sum (size f) (λ k. get_or (moments f) (i + k) 0 * get_or p k 0) % m) i 0 h)
      ∙ simp (res-mod m pos, residue-sum m pos, res-mul m pos)

  -- entry j is F_j against p
  entries-hankel : (p : List ℕ) (j : ℕ) → j < size f → E (adjoint f (hankel_product f p)) j
      ≡ form Q (size f) (E (moments f)) (term Q ρ (suc j)) (E p)
  entries-hankel p j h = entries-adjoint f pos (hankel_product f p) j h
      ∙ Sum.sum-cong Q (size f) (λ i g. Q.mul_comm (E (hankel_product f p) i) (term Q ρ (suc j) i)
      ∙ ap (λ t. term Q ρ (suc j) i ⊗ t)
      (entries-hankel_product p i g ∙ Sum.sum-cong Q (size f) (λ k l. Q.mul_comm (E (moments f) (i + k)) (E p k))))
      ∙ sym (form-rows Q (size f) (E (moments f)) (term Q ρ (suc j)) (E p))

  module _ (c : Convertible f) where
    -- so it is entry j of the curve that expands to p, times norm j
    entries-hankel-expand : (u : List ℕ) (j : ℕ) → j < size f → E (adjoint f (hankel_product f (expand f u))) j ≡ E u j ⊗ E (norms f) j
    entries-hankel-expand u j h = entries-hankel (expand f u) j h ∙ form-cong Q (size f) (E (moments f)) (λ i l. refl) (entries-expand f pos u)
        ∙ form-row (convertible-moments f pos c) (convertible-norms f pos c) j (E u) (le_of_suc-le-suc h)

    entries-moments_decompose : (u : List ℕ) (j : ℕ) → j < size f → E (moments_decompose f (expand f u)) j ≡ E u j
    unfolding moments_decompose
    entries-moments_decompose u j h =
        ap ι (table-entry (size f) (λ j. get_or (adjoint f (hankel_product f (expand f u))) j 0 * inverse m (norm f j) % m) j 0 h)
        ∙ simp (res-mod m pos, res-mul m pos) (ap (λ t. t ⊗ ι (inverse m (norm f j))) (entries-hankel-expand u j h)
        ∙ Q.mul_assoc (E u j) (E (norms f) j) (ι (inverse m (norm f j))) ∙ ap (λ t. E u j ⊗ t) norm-inverse ∙ Q.mul-one (E u j))
      where
        norm-inverse : E (norms f) j ⊗ ι (inverse m (norm f j)) ≡ Q.one
        norm-inverse = rw (norms-entry f j h) (residue-inverse m pos (norm f j) (rw (norms-entry f j h) at (norms-have-inverses f c j h)))

    pub moments-expand : (u : List ℕ) → Curve f u → moments_decompose f (expand f u) ≡ u
    moments-expand u cu = curves-equal-residues f (moments_decompose f (expand f u)) u (moments_decompose-curve f pos (expand f u)) cu pos
        (entries-moments_decompose u)

pub moments-decompose : (f : Family) → Convertible f → (p : List ℕ) → Curve f p → moments_decompose f p ≡ decompose f p
moments-decompose f c p cp = let two : 2 ≤ f.m = c.modulus in let pos : 0 < f.m = omega arith in
    ap (moments_decompose f) (sym (expand-decompose f (convertible-decomposable f c) p cp))
    ∙ moments-expand f pos c (decompose f p) (decompose-curve f pos p)
