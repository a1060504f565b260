-- The polynomials F_0 .. F_r are orthogonal for the form of their moments, over any commutative ring.
--   Norms R r ρ d   d_i a_{i+1} = (-1)^i c_2 .. c_{i+1} for i ≤ r, which settles d_i where a_{i+1} is a unit
-- Proves for i, j ≤ r that F_i against F_j is 0 for i ≠ j and d_i for i = j, that each d_i is a unit, and the product law: the
-- combinations of u and of v against each other are the sum of u_i v_i d_i. `form-row` is one row of it, F_i against the
-- combination of v. The report, Section 3, equation (5) and F^t H F = D. Assumes nothing.
use Rattle.std.specs.Prelude.{◌≡◌, [], ◌∷◌}
use Rattle.std.proofs.Math.Path.{sym, ap, ap₂}
use Rattle.std.proofs.Common.{◌∙◌, subst, arith}
use Prim.Native.Nat.{ℕ, zero, suc, ◌<◌, ◌≤◌, ◌+◌ as ◌+ℕ◌}
use Rattle.std.proofs.Math.Decide.{dec_lt}
use Rattle.std.proofs.Math.Nat
use Rattle.algebra.specs.Product.{product, product-last}
use Rattle.algebra.specs.Ring
use Rattle.algebra.specs.Ring.{CommRing}
use Rattle.algebra.specs.Series.{Ser, gen, co, co-add, co-neg}
use Rattle.algebra.specs.Solver.{linear, scaled, both, reify}
use Rattle.algebra.specs.Sum.{sum, sum-cong, sum-cut, sum-single}
use Rattle.algebra.specs.Unit.{IsUnit, unit-cancel, unit-one, unit-neg, unit-mul, unit_left}
use Rattle.theory.specs.Combination.{combination}
use Rattle.theory.specs.Determinant.{signed_product}
use Rattle.theory.specs.Favard.{Regular, Moments, remainder, pivot, remainder-vanishes, pivot-is}
use Rattle.theory.specs.BilinearForm.{form, form-rows, form-sym, form-left, form-right}
use Rattle.theory.specs.Recurrence.{Rows, later, term, degree, leading}
use Rattle.theory.specs.Reversal.{reversed, co-reversed-mul, co-reversed-past}

module _ (R : CommRing) where
  open R use {Car, mul as ◌⊗◌}

  infixl 70 ◌⊗◌
  pub record Norms (r : ℕ) (ρ : Rows R) (d : ℕ → Car) : Type 0 where
    pub norm : (i : ℕ) → i ≤ r → d i ⊗ ρ.a i ≡ signed_product R ρ i

-- ---- the norms
module _ {R : CommRing} {r : ℕ} {ρ : Rows R} (reg : Regular R r ρ) where
  open R use {Car, mul as ◌⊗◌, neg as ⊖◌}

  infixl 70 ◌⊗◌
  infix 75 ⊖◌
  signed_product-unit : (i : ℕ) → i ≤ r → IsUnit R (signed_product R ρ i)
  unfolding signed_product
  signed_product-unit zero h = unit-one R
  signed_product-unit (suc i) h = unit-mul R (signed_product-unit i (omega arith)) (unit-neg R (reg.c_unit i h))

  pub norm-unit : {d : ℕ → Car} → Norms R r ρ d → (i : ℕ) → i ≤ r → IsUnit R (d i)
  norm-unit {d} o i h = unit_left R (d i) (ρ.a i) (subst (IsUnit R) (sym (o.norm i h)) (signed_product-unit i h))

-- ---- F_i against powers of x
module _ {R : CommRing} {r : ℕ} {ρ : Rows R} {s : ℕ → R.Car} (w : Moments R r ρ s) where
  open R use {Car, zero as 𝟘, one as 𝟙, add as ◌⊕◌, mul as ◌⊗◌, neg as ⊖◌}
  open Ser R use {mul as ◌*◌, neg as -◌}

  infixl 65 ◌⊕◌
  infixl 70 ◌⊗◌ ◌*◌
  infix 75 ⊖◌ -◌
  -- the coefficients of F_i, and the form of the moments
  abbrev F : ℕ → ℕ → Car
  F i = term R ρ (suc i)

  abbrev L : (ℕ → Car) → (ℕ → Car) → Car
  L = form R (suc r) s

  -- F_i against x^k
  against : ℕ → ℕ → Car
  against i k = sum R (suc r) (λ j. F i j ⊗ s (k +ℕ j))

  against-is : (i k : ℕ) → i ≤ r → against i k ≡ co R (remainder R ρ s i) (i +ℕ k)
  unfolding against remainder
  against-is i k h = sum-cut R (suc i) (suc r) (λ j. F i j ⊗ s (k +ℕ j)) (omega arith)
      (λ j g. ap (λ t. t ⊗ s (k +ℕ j)) (degree R ρ (suc i) j g) ∙ Ring.zero-mul R (s (k +ℕ j)))
      ∙ sym (co-add R (reversed R ρ (suc i) * gen R s) (- reversed R (later R ρ) i) (i +ℕ k)
      ∙ ap₂ ◌⊕◌ (co-reversed-mul R ρ s i k) (co-neg R (reversed R (later R ρ) i) (i +ℕ k)
      ∙ ap ⊖◌ (co-reversed-past R (later R ρ) i (i +ℕ k) (omega arith)) ∙ Ring.neg-zero R) ∙ R.add-zero _)

  against-below : (i k : ℕ) → i ≤ r → k < i → against i k ≡ 𝟘
  against-below i k h l = against-is i k h ∙ remainder-vanishes w i h (i +ℕ k) (omega arith)

  against-same : (i : ℕ) → i ≤ r → against i i ≡ pivot R ρ s i
  unfolding pivot
  against-same i h = against-is i i h

  -- the terms of F_j against F_i for j ≤ i vanish but for the one at x^i: below it F_i gives zero, and above it F_j ends
  term-against : (i j k : ℕ) → i ≤ r → j ≤ i → ¬ (k ≡ i) → F j k ⊗ against i k ≡ 𝟘
  term-against i j k h l z = elim (dec_lt k i) [
    | yes p ↦ ap (λ t. F j k ⊗ t) (against-below i k h p) ∙ Ring.mul-zero R (F j k)
    | no p ↦ ap (λ t. t ⊗ against i k) (degree R ρ (suc j) k (omega arith)) ∙ Ring.zero-mul R (against i k)
  ]

  form-against : (i j : ℕ) → i ≤ r → j ≤ i → L (F j) (F i) ≡ F j i ⊗ pivot R ρ s i
  unfolding against
  form-against i j h l = form-rows R (suc r) s (F j) (F i)
      ∙ sum-single R (suc r) i (λ k. F j k ⊗ against i k) (omega arith) (λ k p z. term-against i j k h l z)
      ∙ ap (λ t. F j i ⊗ t) (against-same i h)

  form-lower : (i j : ℕ) → i ≤ r → j < i → L (F j) (F i) ≡ 𝟘
  form-lower i j h l = form-against i j h (omega arith) ∙ ap (λ t. t ⊗ pivot R ρ s i) (degree R ρ (suc j) i l)
      ∙ Ring.zero-mul R (pivot R ρ s i)

  pub form-apart : (i j : ℕ) → i ≤ r → j ≤ r → ¬ (i ≡ j) → L (F i) (F j) ≡ 𝟘
  form-apart i j h g z = elim (dec_lt i j) [
    | yes p ↦ form-lower j i g p
    | no p ↦ form-sym R (suc r) s (F i) (F j) ∙ form-lower i j h (omega arith)
  ]

  -- ---- with the norms
  module _ {d : ℕ → Car} (o : Norms R r ρ d) where
    pub form-same : (i : ℕ) → i ≤ r → L (F i) (F i) ≡ d i
    form-same i h = form-against i i h (omega arith) ∙ ap (λ t. t ⊗ pivot R ρ s i) (leading R ρ i)
        ∙ unit-cancel R (product R i ρ.a ⊗ pivot R ρ s i) (d i) (w.regular.a_unit i h)
        (linear R (ρ.a i ∷ product R i ρ.a ∷ pivot R ρ s i ∷ d i ∷ signed_product R ρ i ∷ [])
        (both R (scaled R 𝟙 signed) (scaled R (⊖ 𝟙) (o.norm i h))) (search reify depth 20) tt)
      where
        signed : product R i ρ.a ⊗ ρ.a i ⊗ pivot R ρ s i ≡ signed_product R ρ i
        signed = ap (λ t. t ⊗ pivot R ρ s i) (sym (product-last R i ρ.a)) ∙ pivot-is w i h

    pub form-row : (i : ℕ) (v : ℕ → Car) → i ≤ r → L (F i) (combination R ρ (suc r) v) ≡ v i ⊗ d i
    form-row i v h = form-right R (suc r) s (suc r) (F i) v F
        ∙ sum-single R (suc r) i (λ j. v j ⊗ L (F i) (F j)) (omega arith)
        (λ j g z. ap (λ t. v j ⊗ t) (form-apart i j h (Nat.le_of_suc-le-suc g) (λ e. z (sym e))) ∙ Ring.mul-zero R (v j))
        ∙ ap (λ t. v i ⊗ t) (form-same i h)

    pub form-combination : (u v : ℕ → Car) → L (combination R ρ (suc r) u) (combination R ρ (suc r) v)
        ≡ sum R (suc r) (λ i. u i ⊗ v i ⊗ d i)
    form-combination u v = form-left R (suc r) s (suc r) u F (combination R ρ (suc r) v)
        ∙ sum-cong R (suc r) (λ i h. ap (λ t. u i ⊗ t) (form-row i v (Nat.le_of_suc-le-suc h)) ∙ sym (R.mul_assoc (u i) (v i) (d i)))
