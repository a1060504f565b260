-- Finite products over a commutative ring.
--   product R n f : f 0 · f 1 ⋯ f (n - 1)
-- Proves that a product is a unit if its factors are.
-- `product` stays shut: `product-empty` and `product-last` are its clauses. Assumes nothing.
use Rattle.std.specs.Prelude.{◌≡◌}
use Rattle.std.proofs.Math.Path.{refl}
use Prim.Native.Nat.{ℕ, zero, suc, ◌<◌}
use Rattle.std.proofs.Common.{arith}
use Rattle.algebra.specs.Ring.{CommRing}
use Rattle.algebra.specs.Unit.{IsUnit, unit-one, unit-mul}

module _ (R : CommRing) where
  open R use {Car, one as 𝟙, mul as ◌⊗◌}

  infixl 70 ◌⊗◌
  unfoldable pub product : ℕ → (ℕ → Car) → Car
  product zero f = 𝟙
  product (suc n) f = product n f ⊗ f n

  pub product-empty : (f : ℕ → Car) → product 0 f ≡ 𝟙
  unfolding product
  product-empty f = refl

  pub product-last : (n : ℕ) (f : ℕ → Car) → product (suc n) f ≡ product n f ⊗ f n
  unfolding product
  product-last n f = refl

  -- ---- units
  pub product-unit : (n : ℕ) (f : ℕ → Car) → ((i : ℕ) → i < n → IsUnit R (f i)) → IsUnit R (product n f)
  unfolding product
  product-unit zero f u = unit-one R
  product-unit (suc n) f u = unit-mul R (product-unit n f (λ i p. u i (omega arith))) (u n (omega arith))
