-- The three-term recurrence over any commutative ring.
--   Rows R            the rows of a recurrence: a, b, c as sequences, row i + 1 at place i
--   later R ρ         the rows from row 2 on
--   term R ρ k i      the coefficient of x^i in P_{k-1}, where P_{-1} = 0, P_0 = 1, P_k = (a_k x + b_k) P_{k-1} + c_k P_{k-2}
--   poly R ρ k        P_{k-1} as a power series
-- Proves that P_{k-1} has degree below k, and that its leading coefficient is a product of a's. The report, equation (1). Assumes
-- nothing.
use Rattle.std.specs.Prelude.{◌≡◌}
use Rattle.std.proofs.Math.Path.{refl, sym, ap}
use Rattle.std.proofs.Common.{◌∙◌, le_of_suc-le-suc, arith}
use Prim.Native.Nat.{ℕ, zero, suc, ◌≤◌}
use Rattle.algebra.specs.Product.{product, product-empty, product-last}
use Rattle.algebra.specs.Ring
use Rattle.algebra.specs.Ring.{CommRing}
use Rattle.algebra.specs.Series.{Ser, gen, co, co-gen, ser-ext, co-zero, co-one-zero, co-one-suc, co-add}
use Rattle.algebra.specs.Variable.{C, X, shift, co-C-mul, X-mul-gen}

module _ (R : CommRing) where
  open R use {Car, zero as 𝟘, one as 𝟙, add as ◌⊕◌, mul as ◌⊗◌}
  open Ser R use {Car as Series, zero as 0#, one as 1#, add as ◌+◌, mul as ◌*◌}

  infixl 65 ◌⊕◌ ◌+◌
  infixl 70 ◌⊗◌ ◌*◌
  pub record Rows : Type 0 where
    pub a : ℕ → Car
    pub b : ℕ → Car
    pub c : ℕ → Car

  abbrev pub later : Rows → Rows
  later ρ = record { a = λ i. ρ.a (suc i); b = λ i. ρ.b (suc i); c = λ i. ρ.c (suc i) }

  unfoldable pub term : Rows → ℕ → ℕ → Car
  term ρ zero i = 𝟘
  term ρ (suc zero) zero = 𝟙
  term ρ (suc zero) (suc i) = 𝟘
  term ρ (suc (suc k)) i = ρ.a k ⊗ shift R (term ρ (suc k)) i ⊕ ρ.b k ⊗ term ρ (suc k) i ⊕ ρ.c k ⊗ term ρ k i

  unfoldable pub poly : Rows → ℕ → Series
  poly ρ k = gen R (term ρ k)

  -- ---- the clauses, as equations
  pub term-step : (ρ : Rows) (k i : ℕ) → term ρ (suc (suc k)) i
      ≡ ρ.a k ⊗ shift R (term ρ (suc k)) i ⊕ ρ.b k ⊗ term ρ (suc k) i ⊕ ρ.c k ⊗ term ρ k i
  unfolding term
  term-step ρ k i = refl

  pub co-poly : (ρ : Rows) (k i : ℕ) → co R (poly ρ k) i ≡ term ρ k i
  unfolding poly
  co-poly ρ k i = co-gen R (term ρ k) i

  pub co-X-poly : (ρ : Rows) (k i : ℕ) → co R (X R * poly ρ k) i ≡ shift R (term ρ k) i
  unfolding poly
  co-X-poly ρ k i = ap (λ s. co R s i) (X-mul-gen R (term ρ k)) ∙ co-gen R (shift R (term ρ k)) i

  pub poly-zero : (ρ : Rows) → poly ρ 0 ≡ 0#
  unfolding term
  poly-zero ρ = ser-ext R (λ i. co-poly ρ 0 i ∙ sym (co-zero R i))

  pub poly-one : (ρ : Rows) → poly ρ 1 ≡ 1#
  unfolding term
  poly-one ρ = ser-ext R at
    where
      at : (i : ℕ) → co R (poly ρ 1) i ≡ co R 1# i
      at zero = co-poly ρ 1 0 ∙ sym (co-one-zero R)
      at (suc i) = co-poly ρ 1 (suc i) ∙ sym (co-one-suc R i)

  pub poly-step : (ρ : Rows) (k : ℕ) → poly ρ (suc (suc k))
      ≡ C R (ρ.a k) * (X R * poly ρ (suc k)) + C R (ρ.b k) * poly ρ (suc k) + C R (ρ.c k) * poly ρ k
  poly-step ρ k = ser-ext R (λ i. co-poly ρ (suc (suc k)) i ∙ term-step ρ k i ∙ sym (at i))
    where
      at : (i : ℕ) → co R (C R (ρ.a k) * (X R * poly ρ (suc k)) + C R (ρ.b k) * poly ρ (suc k) + C R (ρ.c k) * poly ρ k) i
          ≡ ρ.a k ⊗ shift R (term ρ (suc k)) i ⊕ ρ.b k ⊗ term ρ (suc k) i ⊕ ρ.c k ⊗ term ρ k i
      at i = simp (co-add R, co-C-mul R, co-poly, co-X-poly)

  -- ---- degree and leading coefficient
  degree-step : (ρ : Rows) (k i : ℕ) → term ρ (suc k) i ≡ 𝟘 → term ρ (suc k) (suc i) ≡ 𝟘 → term ρ k (suc i) ≡ 𝟘
      → term ρ (suc (suc k)) (suc i) ≡ 𝟘
  degree-step ρ k i lead same old = term-step ρ k (suc i) ∙ simp (lead, same, old, Ring.mul-zero R, R.add-zero)

  pub degree : (ρ : Rows) (k i : ℕ) → k ≤ i → term ρ k i ≡ 𝟘
  unfolding term
  degree ρ zero i h = refl
  degree ρ (suc zero) zero h = absurd (omega arith)
  degree ρ (suc zero) (suc i) h = refl
  degree ρ (suc (suc k)) zero h = absurd (omega arith)
  degree ρ (suc (suc k)) (suc i) h =
      degree-step ρ k i (degree ρ (suc k) i (le_of_suc-le-suc h)) (degree ρ (suc k) (suc i) (omega arith))
      (degree ρ k (suc i) (omega arith))

  -- the coefficient of x^k in P_k is a_1 .. a_k
  leading-step : (ρ : Rows) (k : ℕ) → term ρ (suc k) k ≡ product R k ρ.a → term ρ (suc (suc k)) (suc k) ≡ product R (suc k) ρ.a
  leading-step ρ k lead = term-step ρ k (suc k) ∙ simp (
    lead,
    degree ρ (suc k) (suc k) (omega arith),
    degree ρ k (suc k) (omega arith),
    Ring.mul-zero R,
    R.add-zero,
    product-last R,
  ) (R.mul_comm (ρ.a k) (product R k ρ.a))

  pub leading : (ρ : Rows) (k : ℕ) → term ρ (suc k) k ≡ product R k ρ.a
  unfolding term
  leading ρ zero = sym (product-empty R ρ.a)
  leading ρ (suc k) = leading-step ρ k (leading ρ k)
