-- Units: the elements of a ring that have an inverse.
--   IsUnit R x : an inverse, as the pair (y, x·y ≡ 1)
-- Proves that the inverse is unique, that products and negatives of units are units, that a factor of a unit
-- is one, and that a unit cancels. (`Unit` is the prelude's type with one element, hence the name.)
-- Assumes nothing.
use Rattle.std.specs.Prelude.{◌≡◌, [], ◌∷◌}
use Rattle.std.proofs.Common.{sym, ◌∙◌}
use Rattle.algebra.specs.Ring
use Rattle.algebra.specs.Ring.{CommRing}
use Rattle.algebra.specs.Solver.{linear, scaled, both, reify}

module _ (R : CommRing) where
  open R use {Car, zero as 𝟘, one as 𝟙, add as ◌⊕◌, mul as ◌⊗◌, neg as ⊖◌}

  infixl 65 ◌⊕◌
  infixl 70 ◌⊗◌
  infix 75 ⊖◌
  abbrev pub IsUnit : Car → Type 0
  IsUnit x = (y : Car) × (x ⊗ y ≡ 𝟙)

  -- ---- cancelling
  pub unit-cancel : {x : Car} (y z : Car) → IsUnit x → x ⊗ y ≡ x ⊗ z → y ≡ z
  unit-cancel {x} y z (w, e) h = linear R (x ∷ y ∷ z ∷ w ∷ []) (both R (scaled R w h) (scaled R (z ⊕ ⊖ y) e)) (search reify depth 20) tt

  pub unit-cancel-zero : {x : Car} (y : Car) → IsUnit x → x ⊗ y ≡ 𝟘 → y ≡ 𝟘
  unit-cancel-zero {x} y u h = unit-cancel y 𝟘 u (h ∙ sym (Ring.mul-zero R x))

  pub inverse-unique : {x : Car} (y z : Car) → x ⊗ y ≡ 𝟙 → x ⊗ z ≡ 𝟙 → y ≡ z
  inverse-unique y z p q = unit-cancel y z (y, p) (p ∙ sym q)

  -- ---- which elements are units
  pub unit-one : IsUnit 𝟙
  unit-one = (𝟙, R.mul-one 𝟙)

  pub unit-neg : {x : Car} → IsUnit x → IsUnit (⊖ x)
  unit-neg {x} (y, e) = (⊖ y, linear R (x ∷ y ∷ []) (scaled R 𝟙 e) (search reify depth 20) tt)

  pub unit-mul : {x y : Car} → IsUnit x → IsUnit y → IsUnit (x ⊗ y)
  unit-mul {x} {y} (v, p) (w, q) =
      (v ⊗ w, linear R (x ∷ y ∷ v ∷ w ∷ []) (both R (scaled R (y ⊗ w) p) (scaled R 𝟙 q)) (search reify depth 20) tt)

  pub unit_left : (x y : Car) → IsUnit (x ⊗ y) → IsUnit x
  unit_left x y (z, e) = (y ⊗ z, sym (R.mul_assoc x y z) ∙ e)
