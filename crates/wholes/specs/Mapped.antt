-- A map of rings takes the terms of a recurrence to the terms of the mapped rows.
--   map_rows φ ρ  the rows ρ, each number mapped
-- Assumes nothing.
use Rattle.std.specs.Prelude.{◌≡◌}
use Rattle.std.proofs.Common.{◌∙◌, ap}
use Rattle.std.proofs.Math.Path.{ap₂}
use Prim.Native.Nat.{ℕ, zero, suc}
use Rattle.algebra.specs.Map.{RingMap, map-zero}
use Rattle.algebra.specs.Ring.{CommRing}
use Rattle.algebra.specs.Variable.{shift}
use Rattle.theory.specs.Recurrence.{Rows, term}

module _ {R S : CommRing} (φ : RingMap R S) where
  open φ use {to, to_one, to-add, to-mul}

  abbrev pub map_rows : Rows R → Rows S
  map_rows ρ = record { a = λ i. to (ρ.a i); b = λ i. to (ρ.b i); c = λ i. to (ρ.c i) }

  map-shift : (p : ℕ → R.Car) (q : ℕ → S.Car) → ((i : ℕ) → to (p i) ≡ q i) → (i : ℕ) → to (shift R p i) ≡ shift S q i
  map-shift p q h zero = map-zero φ
  map-shift p q h (suc i) = h i

  -- a row's number times a mapped one
  map-times : (x y : R.Car) (z : S.Car) → to y ≡ z → to (R.mul x y) ≡ S.mul (to x) z
  map-times x y z e = to-mul x y ∙ ap (S.mul (to x)) e

  pub map-term : (ρ : Rows R) (k i : ℕ) → to (term R ρ k i) ≡ term S (map_rows ρ) k i
  unfolding term
  map-term ρ zero i = map-zero φ
  map-term ρ (suc zero) zero = to_one
  map-term ρ (suc zero) (suc i) = map-zero φ
  map-term ρ (suc (suc k)) i =
      to-add _ _ ∙ ap₂ S.add
      (to-add _ _ ∙ ap₂ S.add (map-times (ρ.a k) _ _ (map-shift _ _ (map-term ρ (suc k)) i)) (map-times (ρ.b k) _ _ (map-term ρ (suc k) i)))
      (map-times (ρ.c k) _ _ (map-term ρ k i))
