-- Maps of commutative rings.
--   RingMap R S : a function `to` from R to S that keeps 1, sums and products
-- Proves that a map keeps 0 and finite sums. The whole numbers are mapped to the residues by one (crate wholes, Reduction).
-- Assumes nothing.
use Rattle.std.specs.Prelude.{◌≡◌}
use Rattle.std.proofs.Common.{sym, ◌∙◌}
use Rattle.std.proofs.Math.Path.{ap}
use Prim.Native.Nat.{ℕ, zero, suc}
use Rattle.algebra.specs.Ring
use Rattle.algebra.specs.Ring.{CommRing}
use Rattle.algebra.specs.Sum.{sum}

pub record RingMap (R S : CommRing) : Type 0 where
  pub to : R.Car → S.Car
  pub to_one : to R.one ≡ S.one
  pub to-add : (a b : R.Car) → to (R.add a b) ≡ S.add (to a) (to b)
  pub to-mul : (a b : R.Car) → to (R.mul a b) ≡ S.mul (to a) (to b)

-- ---- what every map keeps
module _ {R S : CommRing} (φ : RingMap R S) where
  open φ use {to, to-add}

  pub map-zero : to R.zero ≡ S.zero
  map-zero = Ring.add-cancel S (to R.zero) S.zero (to R.zero)
      (sym (to-add R.zero R.zero) ∙ ap to (R.add-zero R.zero) ∙ sym (Ring.zero-add S (to R.zero)))

  pub map-sum : (n : ℕ) (f : ℕ → R.Car) → to (sum R n f) ≡ sum S n (λ i. to (f i))
  unfolding sum
  map-sum zero f = map-zero
  map-sum (suc n) f = to-add (sum R n f) (f n) ∙ ap (λ t. S.add t (to (f n))) (map-sum n f)
