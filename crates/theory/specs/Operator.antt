-- The three-term recurrence once, over an operator, over any commutative ring. Sequences ℕ → R are the module.
--   Operator R        a linear map of sequences
--   Follows R X ρ y   y_{k+2} = a_{k+1} X(y_{k+1}) + b_{k+1} y_{k+1} + c_{k+1} y_k for every k, where each y_k is a sequence
--   forward, backward, readings z   the operators x·, the shift that drops the first entry, and times z_t at place t
--   against n κ       w to the sums over i < n of κ_t(i) w_i
--   pairing n u       the same with u_{t+i}: if u is zero from n on, the sums of u_i times the coefficient of x^i in x^t w
--   value ρ k x       the value of P_{k-1} at x
-- Proves that two terms settle what follows given rows, that images follow too, and the instances: the terms P_{k-1} follow with forward,
-- their values with readings, their pairings with backward. The last are the lists that Adjoint is worked with. Nothing cites the values
-- yet, nor that two terms settle the others: they are kept for the request that takes values at readings.
-- Assumes nothing.
use Rattle.std.specs.Prelude.{◌≡◌, refl, [], ◌∷◌, ℕ, zero, suc, ◌+◌, ◌<◌, ◌≤◌}
use Rattle.std.proofs.Common.{sym, ◌∙◌, add-zero, zero-add, arith}
use Rattle.std.proofs.Math.Path.{ap, ap₂, fun_ext}
use Rattle.algebra.specs.Product.{product, product-empty, product-last}
use Rattle.algebra.specs.Ring
use Rattle.algebra.specs.Ring.{CommRing}
use Rattle.algebra.specs.Solver.{ring, reify}
use Rattle.algebra.specs.Sum.{sum, sum-empty, sum-last, sum_first, sum-cong, sum-vanish, sum-add, sum-mul-left, sum-cut}
use Rattle.algebra.specs.Variable.{shift}
use Rattle.theory.specs.Recurrence.{Rows, term, term-step, degree}

module _ (R : CommRing) where
  open R use {Car, zero as 𝟘, one as 𝟙, add as ◌⊕◌, mul as ◌⊗◌}

  infixl 65 ◌⊕◌
  infixl 70 ◌⊗◌
  pub record Operator : Type 0 where
    pub to : (ℕ → Car) → ℕ → Car
    pub to-add : (v w : ℕ → Car) (t : ℕ) → to (λ s. v s ⊕ w s) t ≡ to v t ⊕ to w t
    pub to-mul : (x : Car) (w : ℕ → Car) (t : ℕ) → to (λ s. x ⊗ w s) t ≡ x ⊗ to w t

  abbrev pub Follows : Operator → Rows R → (ℕ → ℕ → Car) → Type 0
  Follows X ρ y = (k t : ℕ) → y (suc (suc k)) t ≡ ρ.a k ⊗ X.to (y (suc k)) t ⊕ ρ.b k ⊗ y (suc k) t ⊕ ρ.c k ⊗ y k t

  -- ---- whatever the operator
  pub follows-unique : (X : Operator) (ρ : Rows R) (y z : ℕ → ℕ → Car) → Follows X ρ y → Follows X ρ z
      → ((t : ℕ) → y 0 t ≡ z 0 t) → ((t : ℕ) → y 1 t ≡ z 1 t) → (k t : ℕ) → y k t ≡ z k t
  follows-unique X ρ y z fy fz e₀ e₁ zero t = e₀ t
  follows-unique X ρ y z fy fz e₀ e₁ (suc zero) t = e₁ t
  follows-unique X ρ y z fy fz e₀ e₁ (suc (suc k)) t =
      let same : y (suc k) ≡ z (suc k) = fun_ext (follows-unique X ρ y z fy fz e₀ e₁ (suc k)) in
      fy k t ∙ rw (same, follows-unique X ρ y z fy fz e₀ e₁ k t) (sym (fz k t))

  operator-combine : (X : Operator) (x y : Car) (v w : ℕ → Car) (t : ℕ) → X.to (λ s. x ⊗ v s ⊕ y ⊗ w s) t ≡ x ⊗ X.to v t ⊕ y ⊗ X.to w t
  operator-combine X x y v w t = X.to-add (λ s. x ⊗ v s) (λ s. y ⊗ w s) t ∙ ap₂ ◌⊕◌ (X.to-mul x v t) (X.to-mul y w t)

  -- the image of one step, where φ exchanges the operators at the term that X is applied to
  pub follows-image : (X Y φ : Operator) (ρ : Rows R) (y : ℕ → ℕ → Car) → Follows X ρ y → (k t : ℕ)
      → φ.to (X.to (y (suc k))) t ≡ Y.to (φ.to (y (suc k))) t
      → φ.to (y (suc (suc k))) t ≡ ρ.a k ⊗ Y.to (φ.to (y (suc k))) t ⊕ ρ.b k ⊗ φ.to (y (suc k)) t ⊕ ρ.c k ⊗ φ.to (y k) t
  follows-image X Y φ ρ y fy k t exchange = ap (λ w. φ.to w t) (fun_ext (fy k))
      ∙ φ.to-add (λ s. ρ.a k ⊗ X.to (y (suc k)) s ⊕ ρ.b k ⊗ y (suc k) s) (λ s. ρ.c k ⊗ y k s) t
      ∙ ap₂ ◌⊕◌ (operator-combine φ (ρ.a k) (ρ.b k) (X.to (y (suc k))) (y (suc k)) t ∙ rw exchange) (φ.to-mul (ρ.c k) (y k) t)

  pub follows-map : (X Y φ : Operator) (ρ : Rows R) (y : ℕ → ℕ → Car) → ((w : ℕ → Car) (t : ℕ) → φ.to (X.to w) t ≡ Y.to (φ.to w) t)
      → Follows X ρ y → Follows Y ρ (λ k. φ.to (y k))
  follows-map X Y φ ρ y exchange fy k t = follows-image X Y φ ρ y fy k t (exchange (y (suc k)) t)

  -- ---- operators
  abbrev pub forward : Operator
  forward = record { to = shift R; to-add = adds; to-mul = scales }
    where
      adds : (v w : ℕ → Car) (t : ℕ) → shift R (λ s. v s ⊕ w s) t ≡ shift R v t ⊕ shift R w t
      adds v w zero = sym (R.add-zero 𝟘)
      adds v w (suc t) = refl

      scales : (x : Car) (w : ℕ → Car) (t : ℕ) → shift R (λ s. x ⊗ w s) t ≡ x ⊗ shift R w t
      scales x w zero = sym (Ring.mul-zero R x)
      scales x w (suc t) = refl

  abbrev pub readings : (ℕ → Car) → Operator
  readings z = record {
    to = λ w t. z t ⊗ w t;
    to-add = λ v w t. R.mul-add (z t) (v t) (w t);
    to-mul = λ x w t. Ring.mul_left_comm R (z t) x (w t);
  }

  abbrev pub backward : Operator
  backward = record { to = λ w t. w (suc t); to-add = λ v w t. refl; to-mul = λ x w t. refl }

  abbrev pub against : ℕ → (ℕ → ℕ → Car) → Operator
  against n κ = record {
    to = λ w t. sum R n (λ i. κ t i ⊗ w i);
    to-add = λ v w t. sum-cong R n (λ i h. R.mul-add (κ t i) (v i) (w i)) ∙ sum-add R n (λ i. κ t i ⊗ v i) (λ i. κ t i ⊗ w i);
    to-mul = λ x w t. sum-cong R n (λ i h. Ring.mul_left_comm R (κ t i) x (w i)) ∙ sum-mul-left R n x (λ i. κ t i ⊗ w i);
  }

  -- the terms
  pub term-follows : (ρ : Rows R) → Follows forward ρ (term R ρ)
  term-follows ρ = term-step R ρ

  -- ---- values: evaluation exchanges x and the reading, as far as it sums past the degree
  abbrev pub power : Car → ℕ → Car
  power x n = product R n (λ i. x)

  unfoldable pub value : Rows R → ℕ → Car → Car
  value ρ k x = sum R k (λ i. power x i ⊗ term R ρ k i)

  pub value_none : (ρ : Rows R) (x : Car) → value ρ 0 x ≡ 𝟘
  unfolding value
  value_none ρ x = sum-empty R (λ i. power x i ⊗ term R ρ 0 i)

  pub value-one : (ρ : Rows R) (x : Car) → value ρ 1 x ≡ 𝟙
  unfolding value term
  value-one ρ x = sum-last R 0 (λ i. power x i ⊗ term R ρ 1 i) ∙ simp (sum-empty R, product-empty R, R.mul-one) (Ring.zero-add R 𝟙)

  -- it may be summed past the degree
  pub value-cut : (ρ : Rows R) (k n : ℕ) (x : Car) → k ≤ n → sum R n (λ i. power x i ⊗ term R ρ k i) ≡ value ρ k x
  unfolding value
  value-cut ρ k n x h = sum-cut R k n _ h (λ i l. ap (λ t. power x i ⊗ t) (degree R ρ k i l) ∙ Ring.mul-zero R (power x i))

  value-shift : (p : ℕ → Car) (n : ℕ) (x : Car) → sum R (suc n) (λ i. power x i ⊗ shift R p i) ≡ x ⊗ sum R n (λ i. power x i ⊗ p i)
  value-shift p n x = sum_first R n (λ i. power x i ⊗ shift R p i)
      ∙ ap₂ ◌⊕◌ (Ring.mul-zero R (power x 0)) (sum-cong R n next)
      ∙ Ring.zero-add R (sum R n (λ i. x ⊗ (power x i ⊗ p i))) ∙ sum-mul-left R n x (λ i. power x i ⊗ p i)
    where
      next : (i : ℕ) → i < n → power x (suc i) ⊗ p i ≡ x ⊗ (power x i ⊗ p i)
      next i h = ap (λ t. t ⊗ p i) (product-last R i (λ j. x)) ∙ ring R (p i ∷ x ∷ power x i ∷ []) (search reify depth 20) tt

  pub value-follows : (ρ : Rows R) (z : ℕ → Car) → Follows (readings z) ρ (λ k t. value ρ k (z t))
  value-follows ρ z k t =
      let n : ℕ = suc (suc k) in
      let here = value-cut ρ (suc k) n (z t) (omega arith) in
      let before = value-cut ρ k n (z t) (omega arith) in
      let exchange = value-shift (term R ρ (suc k)) (suc k) (z t)
      ∙ ap (λ s. z t ⊗ s) (value-cut ρ (suc k) (suc k) (z t) (omega arith) ∙ sym here) in
      sym (value-cut ρ n n (z t) (omega arith))
      ∙ follows-image forward (readings z) (against n (λ t. power (z t))) ρ (term R ρ) (term-follows ρ) k t exchange
      ∙ rw (here, before)

  -- ---- pairings with a sequence that is zero from n on
  module _ (n : ℕ) (u : ℕ → Car) where
    abbrev pub pairing : Operator
    pairing = against n (λ t i. u (t + i))

    pub pairing-start : (p : ℕ → Car) → pairing.to p 0 ≡ sum R n (λ i. u i ⊗ p i)
    pairing-start p = simp zero-add

    pub pairing-none : (ρ : Rows R) (t : ℕ) → pairing.to (term R ρ 0) t ≡ 𝟘
    unfolding term
    pairing-none ρ t = sum-vanish R n (λ i h. Ring.mul-zero R (u (t + i)))

    module _ (ends : (i : ℕ) → n ≤ i → u i ≡ 𝟘) where
      -- one term more, which is zero, and the first one apart
      pairing-first : (p : ℕ → Car) (t : ℕ) → pairing.to p t ≡ u t ⊗ p 0 ⊕ sum R n (λ i. u (suc t + i) ⊗ p (suc i))
      pairing-first p t = sym (sum-cut R n (suc n) (λ i. u (t + i) ⊗ p i) (omega arith)
          (λ i h. ap (λ x. x ⊗ p i) (ends (t + i) (omega arith)) ∙ Ring.zero-mul R (p i)))
          ∙ sum_first R n (λ i. u (t + i) ⊗ p i)
          ∙ ap₂ ◌⊕◌ (ap (λ j. u j ⊗ p 0) (add-zero t)) (sum-cong R n (λ i h. ap (λ j. u j ⊗ p (suc i)) (omega arith)))

      pub pairing-past : (p : ℕ → Car) (t : ℕ) → n ≤ t → pairing.to p t ≡ 𝟘
      pairing-past p t h = sum-vanish R n (λ i l. ap (λ x. x ⊗ p i) (ends (t + i) (omega arith)) ∙ Ring.zero-mul R (p i))

      pub pairing-forward : (p : ℕ → Car) (t : ℕ) → pairing.to (shift R p) t ≡ pairing.to p (suc t)
      pairing-forward p t = pairing-first (shift R p) t ∙ ap (λ x. x ⊕ pairing.to p (suc t)) (Ring.mul-zero R (u t))
          ∙ Ring.zero-add R (pairing.to p (suc t))

      pub pairing-follows : (ρ : Rows R) → Follows backward ρ (λ k. pairing.to (term R ρ k))
      pairing-follows ρ = follows-map forward backward pairing ρ (term R ρ) pairing-forward (term-follows ρ)

      pub pairing-one : (ρ : Rows R) (t : ℕ) → pairing.to (term R ρ 1) t ≡ u t
      unfolding term
      pairing-one ρ t = pairing-first (term R ρ 1) t
          ∙ ap₂ ◌⊕◌ (R.mul-one (u t)) (sum-vanish R n (λ i h. Ring.mul-zero R (u (suc t + i)))) ∙ R.add-zero (u t)
