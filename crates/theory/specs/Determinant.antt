-- The determinant of the reversals F*_i = rev(F_i, i + 1) and G*_i = rev(G_i, i + 1), over any commutative ring.
--   power R k             x^k
--   signed_product R ρ i  (-1)^i c_2 .. c_{i+1}
--   determinant R ρ i     F*_i G*_i - F*_{i+1} G*_{i-1}
-- Proves that the determinant is (-1)^i c_2 .. c_{i+1} x^{2i}: each row multiplies it by - c x^2.
-- The report, Section 3, equation (7) times F*_i F*_{i+1}. Assumes nothing.
use Rattle.std.specs.Prelude.{◌≡◌, [], ◌∷◌}
use Rattle.std.proofs.Math.Path.{sym, ap}
use Rattle.std.proofs.Common.{◌∙◌}
use Prim.Native.Nat.{ℕ, zero, suc, ◌+◌ as ◌+ℕ◌}
use native.Mathlib.Omega.{arith}
use Rattle.algebra.specs.Order.{VanishesBelow, vanishes-zero, vanishes-X-mul}
use Rattle.algebra.specs.Product.{product, product-empty, product-last}
use Rattle.algebra.specs.Ring
use Rattle.algebra.specs.Ring.{CommRing}
use Rattle.algebra.specs.Series.{Ser, co}
use Rattle.algebra.specs.Solver.{ring, reify}
use Rattle.algebra.specs.Variable.{C, C-one, C-mul, C-neg, X, co-C-mul}
use Rattle.theory.specs.Recurrence.{Rows, later}
use Rattle.theory.specs.Reversal.{reversed, reversed-zero, reversed-one, reversed_step}

module _ (R : CommRing) where
  open R use {Car, one as 𝟙, mul as ◌⊗◌, neg as ⊖◌}
  open Ser R use {Car as Series, one as 1#, add as ◌+◌, mul as ◌*◌, neg as -◌}

  infixl 65 ◌+◌
  infixl 70 ◌⊗◌ ◌*◌
  infix 75 ⊖◌ -◌
  -- ---- powers of the variable
  unfoldable pub power : ℕ → Series
  power k = product (Ser R) k (λ i. X R)

  pub power_zero : power 0 ≡ 1#
  unfolding power
  power_zero = product-empty (Ser R) (λ i. X R)

  pub power-suc : (k : ℕ) → power (suc k) ≡ X R * power k
  unfolding power
  power-suc k = product-last (Ser R) k (λ i. X R) ∙ (Ser R).mul_comm (power k) (X R)

  pub power-vanishes : (k : ℕ) → VanishesBelow R k (power k)
  power-vanishes zero n p = vanishes-zero R (power 0) n p
  power-vanishes (suc k) n p = ap (λ f. co R f n) (power-suc k) ∙ vanishes-X-mul R k (power k) (power-vanishes k) n p

  -- ---- the determinant
  unfoldable pub signed_product : Rows R → ℕ → Car
  signed_product ρ zero = 𝟙
  signed_product ρ (suc i) = signed_product ρ i ⊗ ⊖ ρ.c (suc i)

  unfoldable pub determinant : Rows R → ℕ → Series
  determinant ρ i = reversed R ρ (suc i) * reversed R (later R ρ) (suc i) + - (reversed R ρ (suc (suc i)) * reversed R (later R ρ) i)

  pub determinant-zero : (ρ : Rows R) → determinant ρ 0 ≡ 1#
  unfolding determinant
  determinant-zero ρ = rw (determinant, reversed-one R ρ, reversed-one R (later R ρ), reversed-zero R (later R ρ))
      (ring (Ser R) (reversed R ρ 2 ∷ []) (search reify depth 20) tt)

  pub determinant-suc : (ρ : Rows R) (i : ℕ) → determinant ρ (suc i) ≡ - (C R (ρ.c (suc i)) * (X R * (X R * determinant ρ i)))
  unfolding determinant
  determinant-suc ρ i = rw (determinant, reversed_step R ρ (suc i), reversed_step R (later R ρ) i)
      (ring (Ser R) (C R (ρ.a (suc i)) ∷ C R (ρ.b (suc i)) ∷ C R (ρ.c (suc i)) ∷ X R ∷ reversed R ρ (suc i)
      ∷ reversed R ρ (suc (suc i)) ∷ reversed R (later R ρ) i ∷ reversed R (later R ρ) (suc i) ∷ [])
      (search reify depth 20) tt)

  pub determinant-is : (ρ : Rows R) (i : ℕ) → determinant ρ i ≡ C R (signed_product ρ i) * power (i +ℕ i)
  unfolding signed_product
  determinant-is ρ zero = determinant-zero ρ ∙ sym (simp (C-one R, power_zero, (Ser R).mul-one))
  determinant-is ρ (suc i) = determinant-suc ρ i ∙ ap (λ f. - (C R (ρ.c (suc i)) * (X R * (X R * f)))) (determinant-is ρ i)
      ∙ sym (let e : suc i +ℕ suc i ≡ suc (suc (i +ℕ i)) = omega arith in simp (e, power-suc, C-mul R, C-neg R)
      (ring (Ser R) (C R (signed_product ρ i) ∷ C R (ρ.c (suc i)) ∷ X R ∷ power (i +ℕ i) ∷ []) (search reify depth 20) tt))

  pub determinant-vanishes : (ρ : Rows R) (i : ℕ) → VanishesBelow R (i +ℕ i) (determinant ρ i)
  determinant-vanishes ρ i n p = ap (λ f. co R f n) (determinant-is ρ i) ∙ co-C-mul R (signed_product ρ i) (power (i +ℕ i)) n
      ∙ ap (λ t. signed_product ρ i ⊗ t) (power-vanishes (i +ℕ i) n p) ∙ Ring.mul-zero R (signed_product ρ i)
