-- The whole numbers 0, 1, 2, .. in a ring.
--   numeral R n : 1 + 1 + .. + 1, n times
-- Proves that it turns sums and products of numbers into those of the ring. It stays shut, so that
-- `Solver` reads `numeral R 12` as the number 12. Assumes nothing.
use Rattle.std.specs.Prelude.{◌≡◌}
use Rattle.std.proofs.Math.Path.{refl, sym, ap, ap₂}
use Rattle.std.proofs.Common.{◌∙◌}
use Prim.Native.Nat.{ℕ, zero, suc, ◌+◌, ◌*◌}
use Rattle.std.proofs.Math.Nat
use Rattle.algebra.specs.Ring
use Rattle.algebra.specs.Ring.{CommRing}

module _ (R : CommRing) where
  open R use {Car, zero as 𝟘, one as 𝟙, add as ◌⊕◌, mul as ◌⊗◌, add_assoc, add_comm}

  infixl 65 ◌⊕◌
  infixl 70 ◌⊗◌
  pub numeral : ℕ → Car
  numeral zero = 𝟘
  numeral (suc n) = numeral n ⊕ 𝟙

  pub numeral-zero : numeral 0 ≡ 𝟘
  unfolding numeral
  numeral-zero = refl

  pub numeral-one : numeral 1 ≡ 𝟙
  unfolding numeral
  numeral-one = Ring.zero-add R 𝟙

  pub numeral-add : (a b : ℕ) → numeral (a + b) ≡ numeral a ⊕ numeral b
  unfolding numeral
  numeral-add zero b = ap numeral (Nat.zero-add b) ∙ sym (Ring.zero-add R (numeral b))
  numeral-add (suc a) b = ap numeral (Nat.suc-add a b) ∙ ap (λ t. t ⊕ 𝟙) (numeral-add a b)
      ∙ add_assoc (numeral a) (numeral b) 𝟙 ∙ ap (λ t. numeral a ⊕ t) (add_comm (numeral b) 𝟙) ∙ sym (add_assoc (numeral a) 𝟙 (numeral b))

  pub numeral-mul : (a b : ℕ) → numeral (a * b) ≡ numeral a ⊗ numeral b
  unfolding numeral
  numeral-mul zero b = ap numeral (Nat.zero-mul b) ∙ sym (Ring.zero-mul R (numeral b))
  numeral-mul (suc a) b = ap numeral (Nat.suc-mul a b) ∙ numeral-add (a * b) b
      ∙ ap₂ ◌⊕◌ (numeral-mul a b) (sym (Ring.one-mul R (numeral b)))
      ∙ sym (Ring.add-mul R (numeral a) 𝟙 (numeral b))
