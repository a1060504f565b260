-- Combinations of the polynomials of a recurrence, over any commutative ring.
--   combination R ρ n w i   the coefficient of x^i in w_0 P_0 + .. + w_{n-1} P_{n-1}
-- Proves that it has degree below n, its top coefficient, and that it settles w_0, .., w_{n-1} where a_1, .., a_{n-1} are
-- units. No c is asked for anything. The report, section 1. Assumes nothing.
use Rattle.std.specs.Prelude.{◌≡◌, ◌⊎◌, ℕ, zero, suc, ◌<◌, ◌≤◌}
use Rattle.std.proofs.Common.{sym, ◌∙◌, ap, ap₂, subst, inl, inr, le_of_suc-le-suc, eq-or-lt_of_le, arith}
use Rattle.algebra.specs.Product.{product, product-unit}
use Rattle.algebra.specs.Ring
use Rattle.algebra.specs.Ring.{CommRing}
use Rattle.algebra.specs.Sum.{sum, sum-last, sum-cong, sum-vanish}
use Rattle.algebra.specs.Unit.{IsUnit, unit-cancel}
use Rattle.theory.specs.Recurrence.{Rows, term, degree, leading}

module _ (R : CommRing) (ρ : Rows R) where
  open R use {Car, zero as 𝟘, add as ◌⊕◌, mul as ◌⊗◌}

  infixl 65 ◌⊕◌
  infixl 70 ◌⊗◌
  abbrev pub combination : ℕ → (ℕ → Car) → ℕ → Car
  combination n w i = sum R n (λ j. w j ⊗ term R ρ (suc j) i)

  pub combination-last : (n : ℕ) (w : ℕ → Car) (i : ℕ) → combination (suc n) w i ≡ combination n w i ⊕ w n ⊗ term R ρ (suc n) i
  combination-last n w i = sum-last R n (λ j. w j ⊗ term R ρ (suc j) i)

  pub combination-cong : (n : ℕ) {v w : ℕ → Car} (i : ℕ) → ((j : ℕ) → j < n → v j ≡ w j) → combination n v i ≡ combination n w i
  combination-cong n i e = sum-cong R n (λ j h. ap (λ t. t ⊗ term R ρ (suc j) i) (e j h))

  pub combination-degree : (n : ℕ) (w : ℕ → Car) (i : ℕ) → n ≤ i → combination n w i ≡ 𝟘
  combination-degree n w i h = sum-vanish R n (λ j l. ap (λ t. w j ⊗ t) (degree R ρ (suc j) i (omega arith)) ∙ Ring.mul-zero R (w j))

  pub combination-top : (n : ℕ) (w : ℕ → Car) → combination (suc n) w n ≡ product R n ρ.a ⊗ w n
  combination-top n w = combination-last n w n ∙ ap₂ ◌⊕◌ (combination-degree n w n (omega arith)) (ap (λ t. w n ⊗ t) (leading R ρ n))
      ∙ Ring.zero-add R (w n ⊗ product R n ρ.a) ∙ R.mul_comm (w n) (product R n ρ.a)

  -- the top coefficient settles the last entry, and what is left when it is taken off the others
  pub combination-injective : (n : ℕ) → ((j : ℕ) → suc j < n → IsUnit R (ρ.a j)) → (v w : ℕ → Car)
      → ((i : ℕ) → i < n → combination n v i ≡ combination n w i) → (j : ℕ) → j < n → v j ≡ w j
  combination-injective zero units v w e j h = absurd (omega arith)
  combination-injective (suc n) units v w e j h = at (eq-or-lt_of_le (le_of_suc-le-suc h))
      (combination-injective n (λ i l. units i (omega arith)) v w below j)
    where
      last : v n ≡ w n
      last = unit-cancel R (v n) (w n) (product-unit R n ρ.a (λ i l. units i (omega arith)))
          (sym (combination-top n v) ∙ e n (omega arith) ∙ combination-top n w)

      below : (i : ℕ) → i < n → combination n v i ≡ combination n w i
      below i l = Ring.add-cancel R (combination n v i) (combination n w i) (v n ⊗ term R ρ (suc n) i)
          (sym (combination-last n v i) ∙ e i (omega arith) ∙ combination-last n w i
          ∙ ap (λ t. combination n w i ⊕ t ⊗ term R ρ (suc n) i) (sym last))

      at : (j ≡ n) ⊎ (j < n) → (j < n → v j ≡ w j) → v j ≡ w j
      at (inl same) ih = subst (λ t. v t ≡ w t) (sym same) last
      at (inr l) ih = ih l
