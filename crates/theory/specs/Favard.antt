-- The theorem of Favard and Shohat over any commutative ring, with no limit of series and no field.
--   Regular R r ρ      a_1 .. a_n and c_2 .. c_n are units, where n = r + 1; c_1 is in no hypothesis
--   Moments R r ρ s    ρ is regular, and s_0 .. s_{2n-2} are the first coefficients of rev(G_{n-1}, n) / rev(F_n, n + 1)
--   remainder R ρ s i  D_i = rev(F_i, i + 1) S - rev(G_{i-1}, i), where S is the series of s
--   pivot R ρ s i      e_i, the coefficient of x^{2i} in D_i
-- Proves for i ≤ r that D_i vanishes below x^{2i} and that a_1 .. a_{i+1} e_i = (-1)^i c_2 .. c_{i+1}. It goes down from D_n,
-- which vanishes by the definition of the moments, so that only what `Regular` names is inverted.
-- The report, Section 3, Theorem 2. Assumes nothing.
use Rattle.std.specs.Prelude.{◌≡◌, [], ◌∷◌}
use Rattle.std.proofs.Math.Path.{sym, ap, ap₂}
use Rattle.std.proofs.Common.{◌∙◌, subst}
use Prim.Native.Nat.{ℕ, zero, suc, ◌<◌, ◌≤◌, ◌+◌ as ◌+ℕ◌, ◌-◌ as ◌-ℕ◌}
use native.Mathlib.Omega.{arith}
use Rattle.algebra.specs.Order.{VanishesBelow, AgreeBelow, vanishes-less, vanishes-add, vanishes-sub, vanishes-mul-left, vanishes-of-mul}
use Rattle.algebra.specs.Product.{product, product-last, product-unit}
use Rattle.algebra.specs.Ring
use Rattle.algebra.specs.Ring.{CommRing}
use Rattle.algebra.specs.Series.{Ser, gen, co, co-one-zero, co-add, co-mul-zero}
use Rattle.algebra.specs.Solver.{ring, linear, scaled, both, reify}
use Rattle.algebra.specs.Unit.{IsUnit, unit-cancel-zero}
use Rattle.algebra.specs.Variable.{C, X, co-C-mul, co-X-mul-suc}
use Rattle.theory.specs.Determinant.{signed_product, determinant, determinant-zero, determinant-vanishes}
use Rattle.theory.specs.Recurrence.{Rows, later}
use Rattle.theory.specs.Reversal.{reversed, reversed_step, co-reversed-first}

module _ (R : CommRing) where
  open R use {Car}
  open Ser R use {Car as Series, add as ◌+◌, mul as ◌*◌, neg as -◌}

  infixl 65 ◌+◌
  infixl 70 ◌*◌
  infix 75 -◌
  pub record Regular (r : ℕ) (ρ : Rows R) : Type 0 where
    pub a_unit : (i : ℕ) → i ≤ r → IsUnit R (ρ.a i)
    pub c_unit : (i : ℕ) → i < r → IsUnit R (ρ.c (suc i))

  pub record Moments (r : ℕ) (ρ : Rows R) (s : ℕ → Car) : Type 0 where
    pub regular : Regular r ρ
    pub quotient : AgreeBelow R (suc (r +ℕ r)) (reversed R ρ (suc (suc r)) * gen R s) (reversed R (later R ρ) (suc r))

  unfoldable pub remainder : Rows R → (ℕ → Car) → ℕ → Series
  remainder ρ s i = reversed R ρ (suc i) * gen R s + - reversed R (later R ρ) i

  unfoldable pub pivot : Rows R → (ℕ → Car) → ℕ → Car
  pivot ρ s i = co R (remainder ρ s i) (i +ℕ i)

-- ---- what holds for any sequence
module _ {R : CommRing} (ρ : Rows R) (s : ℕ → R.Car) where
  open R use {zero as 𝟘, one as 𝟙, add as ◌⊕◌, mul as ◌⊗◌, neg as ⊖◌}
  open Ser R use {Car as Series, add as ◌+◌, mul as ◌*◌}

  infixl 65 ◌⊕◌ ◌+◌
  infixl 70 ◌⊗◌ ◌*◌
  infix 75 ⊖◌
  abbrev D : ℕ → Series
  D = remainder R ρ s

  abbrev BothVanish : ℕ → Type 0
  BothVanish i = VanishesBelow R (suc (i +ℕ i)) (D (suc i)) × VanishesBelow R (i +ℕ i) (D i)

  remainder-step : (i : ℕ) → D (suc (suc i))
      ≡ C R (ρ.a (suc i)) * D (suc i) + C R (ρ.b (suc i)) * (X R * D (suc i)) + C R (ρ.c (suc i)) * (X R * (X R * D i))
  unfolding remainder
  remainder-step i = rw (remainder, reversed_step R ρ (suc i), reversed_step R (later R ρ) i)
      (ring (Ser R) (C R (ρ.a (suc i)) ∷ C R (ρ.b (suc i)) ∷ C R (ρ.c (suc i)) ∷ X R ∷ gen R s ∷ reversed R ρ (suc i)
      ∷ reversed R ρ (suc (suc i)) ∷ reversed R (later R ρ) i ∷ reversed R (later R ρ) (suc i) ∷ [])
      (search reify depth 20) tt)

  co-remainder-step : (i n : ℕ)
      → co R (D (suc (suc i))) (suc (suc n))
      ≡ ρ.a (suc i) ⊗ co R (D (suc i)) (suc (suc n)) ⊕ ρ.b (suc i) ⊗ co R (D (suc i)) (suc n) ⊕ ρ.c (suc i) ⊗ co R (D i) n
  co-remainder-step i n = ap (λ f. co R f (suc (suc n))) (remainder-step i) ∙ simp (co-add R, co-C-mul R, co-X-mul-suc R)

  -- what the recurrence says where D_{i+2} vanishes, and D_{i+1} one place before
  co-remainder-down : (i n : ℕ) → co R (D (suc (suc i))) (suc (suc n)) ≡ 𝟘 → co R (D (suc i)) (suc n) ≡ 𝟘
      → ρ.c (suc i) ⊗ co R (D i) n ≡ ⊖ (ρ.a (suc i) ⊗ co R (D (suc i)) (suc (suc n)))
  co-remainder-down i n p q = linear R (ρ.a (suc i) ∷ ρ.b (suc i) ∷ ρ.c (suc i) ∷ co R (D i) n ∷ co R (D (suc i)) (suc n)
      ∷ co R (D (suc i)) (suc (suc n)) ∷ co R (D (suc (suc i))) (suc (suc n)) ∷ [])
      (both R (both R (scaled R (⊖ 𝟙) (co-remainder-step i n)) (scaled R 𝟙 p)) (scaled R (⊖ ρ.b (suc i)) q)) (search reify depth 20) tt

  remainder-determinant : (i : ℕ) → D i * reversed R ρ (suc (suc i)) ≡ D (suc i) * reversed R ρ (suc i) + determinant R ρ i
  unfolding remainder determinant
  remainder-determinant i = ring (Ser R) (gen R s ∷ reversed R ρ (suc i) ∷ reversed R ρ (suc (suc i)) ∷ reversed R (later R ρ) i
      ∷ reversed R (later R ρ) (suc i) ∷ []) (search reify depth 20) tt

-- ---- what holds for the moments
module _ {R : CommRing} {r : ℕ} {ρ : Rows R} {s : ℕ → R.Car} (w : Moments R r ρ s) where
  open R use {one as 𝟙, add as ◌⊕◌, mul as ◌⊗◌, neg as ⊖◌}
  open Ser R use {mul as ◌*◌}

  infixl 65 ◌⊕◌
  infixl 70 ◌⊗◌ ◌*◌
  infix 75 ⊖◌
  first-unit : (k : ℕ) → k ≤ suc r → IsUnit R (co R (reversed R ρ (suc k)) 0)
  first-unit k h = subst (IsUnit R) (sym (co-reversed-first R ρ k)) (product-unit R k ρ.a (λ i p. w.regular.a_unit i (omega arith)))

  -- D_n, and then D_r by the determinant
  last-vanishes : VanishesBelow R (suc (r +ℕ r)) (D ρ s (suc r))
  unfolding remainder
  last-vanishes = vanishes-sub R (suc (r +ℕ r)) (reversed R ρ (suc (suc r)) * gen R s) (reversed R (later R ρ) (suc r)) w.quotient

  start-vanishes : VanishesBelow R (r +ℕ r) (D ρ s r)
  start-vanishes = vanishes-of-mul R (r +ℕ r) (D ρ s r) (reversed R ρ (suc (suc r))) (first-unit (suc r) (omega arith))
      (subst (VanishesBelow R (r +ℕ r)) (sym (remainder-determinant ρ s r))
      (vanishes-add R (r +ℕ r) (D ρ s (suc r) * reversed R ρ (suc r)) (determinant R ρ r)
      (vanishes-mul-left R (r +ℕ r) (D ρ s (suc r)) (reversed R ρ (suc r))
      (vanishes-less R (D ρ s (suc r)) (omega arith) last-vanishes))
      (determinant-vanishes R ρ r)))

  -- D_{i+1} and D_i, going down: k is how far i is from r
  down : (k i : ℕ) → i +ℕ k ≡ r → BothVanish ρ s i
  down zero i h = let z : r ≡ i = omega arith in subst (BothVanish ρ s) z (last-vanishes, start-vanishes)
  down (suc k) i h = next (down k (suc i) (omega arith))
    where
      next : BothVanish ρ s (suc i) → BothVanish ρ s i
      next (v₂, v₁) = (
        vanishes-less R (D ρ s (suc i)) (omega arith) v₁,
        λ n p. unit-cancel-zero R (co R (D ρ s i) n) (w.regular.c_unit i (omega arith))
            (co-remainder-down ρ s i n (v₂ (suc (suc n)) (omega arith)) (v₁ (suc n) (omega arith))
            ∙ simp (v₁ (suc (suc n)) (omega arith), Ring.mul-zero R, Ring.neg-zero R)),
      )

  pub remainder-vanishes : (i : ℕ) → i ≤ r → VanishesBelow R (i +ℕ i) (remainder R ρ s i)
  remainder-vanishes i h = (down (r -ℕ i) i (omega arith)).1

  remainder-suc-vanishes : (i : ℕ) → i ≤ r → VanishesBelow R (suc (i +ℕ i)) (remainder R ρ s (suc i))
  remainder-suc-vanishes i h = (down (r -ℕ i) i (omega arith)).0

  pub pivot-ratio : (i : ℕ) → i < r → ρ.c (suc i) ⊗ pivot R ρ s i ≡ ⊖ (ρ.a (suc i) ⊗ pivot R ρ s (suc i))
  unfolding pivot
  pivot-ratio i h = let z : suc i +ℕ suc i ≡ suc (suc (i +ℕ i)) = omega arith in rw z
      (co-remainder-down ρ s i (i +ℕ i) (remainder-suc-vanishes (suc i) h (suc (suc (i +ℕ i))) (omega arith))
      (remainder-vanishes (suc i) h (suc (i +ℕ i)) (omega arith)))

  pivot-first : product R 1 ρ.a ⊗ pivot R ρ s 0 ≡ 𝟙
  unfolding pivot
  pivot-first = R.mul_comm (product R 1 ρ.a) (co R (D ρ s 0) 0)
      ∙ sym (co-mul-zero R (D ρ s 0) (reversed R ρ 2) ∙ ap (λ t. co R (D ρ s 0) 0 ⊗ t) (co-reversed-first R ρ 1))
      ∙ ap (λ f. co R f 0) (remainder-determinant ρ s 0) ∙ co-add R (D ρ s 1 * reversed R ρ 1) (determinant R ρ 0) 0
      ∙ ap₂ ◌⊕◌ (vanishes-mul-left R 1 (D ρ s 1) (reversed R ρ 1) (remainder-suc-vanishes 0 (omega arith)) 0 (omega arith))
      (ap (λ f. co R f 0) (determinant-zero R ρ) ∙ co-one-zero R)
      ∙ Ring.zero-add R 𝟙

  -- a_1 .. a_{i+1} e_i is the signed product
  pub pivot-is : (i : ℕ) → i ≤ r → product R (suc i) ρ.a ⊗ pivot R ρ s i ≡ signed_product R ρ i
  unfolding signed_product
  pivot-is zero h = pivot-first
  pivot-is (suc i) h = ap (λ t. t ⊗ pivot R ρ s (suc i)) (product-last R (suc i) ρ.a)
      ∙ linear R (ρ.a (suc i) ∷ ρ.c (suc i) ∷ pivot R ρ s i ∷ pivot R ρ s (suc i) ∷ product R (suc i) ρ.a ∷ signed_product R ρ i ∷ [])
      (both R (scaled R (⊖ ρ.c (suc i)) (pivot-is i (omega arith))) (scaled R (product R (suc i) ρ.a) (pivot-ratio i h)))
      (search reify depth 20) tt
