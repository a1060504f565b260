-- The bilinear form of a sequence s on polynomials of n coefficients, over any commutative ring.
--   placed R i x k   x at k = i, and zero elsewhere
--   form R n s p q   the sum of p_i q_j s_{i+j} over all i and j below n
-- Proves that it is symmetric and linear, and that it is the uncut product of p and q weighed with s.
-- The report, Section 3: L(p q), where s holds the moments of L. Assumes nothing.
use Rattle.std.specs.Prelude.{◌≡◌, refl, true, false, eqb}
use Rattle.std.proofs.Math.Path.{sym, ap₂}
use Rattle.std.proofs.Common.{◌∙◌, ap, arith}
use Prim.Native.Nat.{ℕ, suc, ◌<◌, ◌≤◌, ◌+◌ as ◌+ℕ◌}
use Rattle.std.proofs.Math.Nat
use borrow.Author.Tests.{eq-eqb, ne_eqb}
use Rattle.algebra.specs.Ring
use Rattle.algebra.specs.Ring.{CommRing}
use Rattle.algebra.specs.Sum.{sum, sum-cong, sum-mul-left, sum-mul-right, sum-exchange, sum-linear, sum-single}

module _ (R : CommRing) where
  open R use {Car, zero as 𝟘}

  unfoldable pub placed : ℕ → Car → ℕ → Car
  placed i x k = elim (eqb i k) [ true ↦ x | false ↦ 𝟘 ]

  pub placed_same : (i : ℕ) (x : Car) → placed i x i ≡ x
  unfolding placed
  placed_same i x = rw (placed, eq-eqb i i refl)

  pub placed-other : (i : ℕ) (x : Car) (k : ℕ) → ¬ (i ≡ k) → placed i x k ≡ 𝟘
  unfolding placed
  placed-other i x k h = rw (placed, ne_eqb i k h)

module _ (R : CommRing) (n : ℕ) (s : ℕ → R.Car) where
  open R use {Car, mul as ◌⊗◌}

  infixl 70 ◌⊗◌
  unfoldable pub form : (ℕ → Car) → (ℕ → Car) → Car
  form p q = sum R n (λ i. sum R n (λ j. p i ⊗ q j ⊗ s (i +ℕ j)))

  pub form-rows : (p q : ℕ → Car) → form p q ≡ sum R n (λ i. p i ⊗ sum R n (λ j. q j ⊗ s (i +ℕ j)))
  unfolding form
  form-rows p q = sum-cong R n
      (λ i h. sum-cong R n (λ j g. R.mul_assoc (p i) (q j) (s (i +ℕ j))) ∙ sum-mul-left R n (p i) (λ j. q j ⊗ s (i +ℕ j)))

  pub form-cong : {p p' q q' : ℕ → Car} → ((i : ℕ) → i < n → p i ≡ p' i) → ((i : ℕ) → i < n → q i ≡ q' i) → form p q ≡ form p' q'
  unfolding form
  form-cong d e = sum-cong R n (λ i h. sum-cong R n (λ j g. ap₂ (λ x y. x ⊗ y ⊗ s (i +ℕ j)) (d i h) (e j g)))

  pub form-sym : (p q : ℕ → Car) → form p q ≡ form q p
  unfolding form
  form-sym p q = sum-exchange R n n (λ i j. p i ⊗ q j ⊗ s (i +ℕ j))
      ∙ sum-cong R n (λ j h. sum-cong R n (λ i g. ap₂ ◌⊗◌ (R.mul_comm (p i) (q j)) (ap s (Nat.add_comm i j))))

  -- ---- linear in each argument
  pub form-left : (k : ℕ) (u : ℕ → Car) (p : ℕ → ℕ → Car) (q : ℕ → Car)
      → form (λ i. sum R k (λ j. u j ⊗ p j i)) q ≡ sum R k (λ j. u j ⊗ form (p j) q)
  form-left k u p q = form-rows (λ i. sum R k (λ j. u j ⊗ p j i)) q ∙ sum-linear R k n u p (λ i. sum R n (λ j. q j ⊗ s (i +ℕ j)))
      ∙ sum-cong R k (λ j h. ap (λ t. u j ⊗ t) (sym (form-rows (p j) q)))

  pub form-right : (k : ℕ) (p : ℕ → Car) (v : ℕ → Car) (q : ℕ → ℕ → Car)
      → form p (λ i. sum R k (λ j. v j ⊗ q j i)) ≡ sum R k (λ j. v j ⊗ form p (q j))
  form-right k p v q = form-sym p (λ i. sum R k (λ j. v j ⊗ q j i)) ∙ form-left k v q p
      ∙ sum-cong R k (λ j h. ap (λ t. v j ⊗ t) (form-sym (q j) p))

  -- ---- the uncut product
  sum-placed : (m i : ℕ) (x : Car) → i < m → sum R m (λ k. placed R i x k ⊗ s k) ≡ x ⊗ s i
  sum-placed m i x h = sum-single R m i (λ k. placed R i x k ⊗ s k) h
      (λ k p z. ap (λ t. t ⊗ s k) (placed-other R i x k (λ e. z (sym e))) ∙ Ring.zero-mul R (s k))
      ∙ ap (λ t. t ⊗ s i) (placed_same R i x)

  pub form-product : (m : ℕ) (p q : ℕ → Car) → n +ℕ n ≤ suc m
      → sum R m (λ k. sum R n (λ i. sum R n (λ j. placed R (i +ℕ j) (p i ⊗ q j) k)) ⊗ s k) ≡ form p q
  unfolding form
  form-product m p q h = sum-cong R m
      (λ k l. sym (sum-mul-right R n (λ i. sum R n (λ j. entry i j k)) (s k))
      ∙ sum-cong R n (λ i g. sym (sum-mul-right R n (λ j. entry i j k) (s k))))
      ∙ sum-exchange R m n (λ k i. sum R n (λ j. entry i j k ⊗ s k))
      ∙ sum-cong R n
      (λ i g. sum-exchange R m n (λ k j. entry i j k ⊗ s k) ∙ sum-cong R n (λ j l. sum-placed m (i +ℕ j) (p i ⊗ q j) (omega arith)))
    where
      entry : ℕ → ℕ → ℕ → Car
      entry i j k = placed R (i +ℕ j) (p i ⊗ q j) k
