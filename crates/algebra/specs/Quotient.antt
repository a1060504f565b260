-- The quotient of power series by a series f whose constant coefficient is a unit, coefficient by coefficient.
--   QuotientStep R f u g q k : q_k = (g_k - (q_0 f_k + .. + q_{k-1} f_1)) / f_0; u : the constant coefficient of f is a unit
-- Proves that q·f ≡ g holds below x^n if every step below n does. Assumes nothing.
use Rattle.std.specs.Prelude.{◌≡◌, [], ◌∷◌, ℕ, ◌<◌, ◌-◌ as ◌-ℕ◌}
use Rattle.std.proofs.Common.{◌∙◌, ap}
use Rattle.std.proofs.Math.Nat
use Rattle.algebra.specs.Order.{AgreeBelow}
use Rattle.algebra.specs.Ring.{CommRing}
use Rattle.algebra.specs.Series.{Ser, co, co-mul-sum}
use Rattle.algebra.specs.Solver.{linear, scaled, both, reify}
use Rattle.algebra.specs.Sum.{sum, sum-last}
use Rattle.algebra.specs.Unit.{IsUnit}

module _ (R : CommRing) where
  open R use {Car, add as ◌⊕◌, mul as ◌⊗◌, neg as ⊖◌}
  open Ser R use {Car as Series, mul as ◌*◌}

  infixl 65 ◌⊕◌
  infixl 70 ◌⊗◌ ◌*◌
  infix 75 ⊖◌
  module _ (f : Series) (u : IsUnit R (co R f 0)) where
    abbrev f₀ : Car
    f₀ = co R f 0

    abbrev f₀⁻¹ : Car
    f₀⁻¹ = u.0

    abbrev pub QuotientStep : Series → Series → ℕ → Type 0
    QuotientStep g q k = co R q k ≡ (co R g k ⊕ ⊖ sum R k (λ j. co R q j ⊗ co R f (k -ℕ j))) ⊗ f₀⁻¹

    co-mul-last : (q : Series) (k : ℕ) → co R (q * f) k ≡ sum R k (λ j. co R q j ⊗ co R f (k -ℕ j)) ⊕ co R q k ⊗ f₀
    co-mul-last q k = co-mul-sum R q f k ∙ sum-last R k (λ j. co R q j ⊗ co R f (k -ℕ j))
        ∙ ap (λ t. sum R k (λ j. co R q j ⊗ co R f (k -ℕ j)) ⊕ co R q k ⊗ co R f t) (Nat.sub_self k)

    pub mul-of-steps : (g q : Series) (n : ℕ) → ((k : ℕ) → k < n → QuotientStep g q k) → AgreeBelow R n (q * f) g
    mul-of-steps g q n s k p = co-mul-last q k ∙ linear R (σ ∷ co R q k ∷ co R g k ∷ f₀ ∷ f₀⁻¹ ∷ [])
        (both R (scaled R f₀ (s k p)) (scaled R (co R g k ⊕ ⊖ σ) u.1)) (search reify depth 20) tt
      where
        σ : Car
        σ = sum R k (λ j. co R q j ⊗ co R f (k -ℕ j))
