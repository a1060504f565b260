-- The ring solver at work: worked examples, which are its documentation.
--   ring R ρ (search reify depth 20) tt : an identity over the atoms ρ
--   linear R ρ e (search reify depth 20) tt : an equation that follows from equations
-- Atoms are the parts that the solver does not look into: variables, calls, coefficients. List each once, in any
-- order, at most twenty. Besides them it reads 0, 1, `numeral R k`, +, *, - and the `abbrev` sub.
-- Assumes nothing.
use Rattle.std.specs.Prelude.{◌≡◌, [], ◌∷◌, ℕ, suc}
use Rattle.algebra.specs.Numeral.{numeral}
use Rattle.algebra.specs.Ring.{CommRing, sub}
use Rattle.algebra.specs.Series.{Ser}
use Rattle.algebra.specs.Solver.{ring, linear, scaled, both, reify}
use Rattle.algebra.specs.Variable.{C, X, C-mul}

-- How to read a refusal of `x ≡ y`:
-- 'no proof of `Sides R ρ x y`': an atom of x or y is not in ρ, or stands past the twentieth place.
-- 'stopped after 1000 lemmas had fitted': a large equation; `search reify depth 40 fits 5000` reads more.
-- 'the left one begins `Remains 1 2 (0 ∷ 3 ∷ []) (term 1 0 [] ..)`': it was read and is no identity. Of x - y there is
-- left (1 - 2) times atom 0 times atom 3, and (1 - 0) times no atom, and so on; atoms count from 0. For `linear` it is
-- what the equations still have to give. In another crate these names carry a mark, ‹out of reach ..›.

-- Over any ring: the section opens the record under the operators' usual names.
module _ (R : CommRing) where
  open R use {Car, one as 𝟙, add as ◌+◌, mul as ◌*◌, neg as -◌}

  infixl 65 ◌+◌
  infixl 70 ◌*◌
  infix 75 -◌
  infixl 65 ◌-◌
  abbrev ◌-◌ : Car → Car → Car
  ◌-◌ = sub R

  -- ---- identities
  cube-add : (x y : Car) → (x + y) * (x + y) * (x + y) ≡ x * x * x + numeral R 3 * x * x * y + numeral R 3 * x * y * y + y * y * y
  cube-add x y = ring R (x ∷ y ∷ []) (search reify depth 20) tt

  -- negatives, differences and small literals
  square-sub : (x y : Car) → (x + y) * (x + y) - (x - y) * (x - y) ≡ - (- (𝟙 + 𝟙 + 𝟙 + 𝟙) * x * y)
  square-sub x y = ring R (x ∷ y ∷ []) (search reify depth 20) tt

  -- the determinant of a product of two 2×2 matrices
  determinant-mul : (a b c d a' b' c' d' : Car)
      → (a * a' + b * c') * (c * b' + d * d') - (a * b' + b * d') * (c * a' + d * c') ≡ (a * d - b * c) * (a' * d' - b' * c')
  determinant-mul a b c d a' b' c' d' = ring R (a ∷ b ∷ c ∷ d ∷ a' ∷ b' ∷ c' ∷ d' ∷ []) (search reify depth 20) tt

  -- an atom need not be a variable
  calls : (f : ℕ → Car) (n : ℕ) → f n * (f (suc n) + f n) ≡ f (suc n) * f n + f n * f n
  calls f n = ring R (f n ∷ f (suc n) ∷ []) (search reify depth 20) tt

  -- ---- equations from equations
  -- from one: x³ - x is x + 1 times (x² - x)
  cube-idempotent : (x : Car) → x * x ≡ x → x * x * x ≡ x
  cube-idempotent x h = linear R (x ∷ []) (scaled R (x + 𝟙) h) (search reify depth 20) tt

  -- from two: (x x')(y y') - 1 is x' y' times (x y - 1), and once (x' y' - 1)
  inverse-mul : (x y x' y' : Car) → x * y ≡ 𝟙 → x' * y' ≡ 𝟙 → (x * x') * (y * y') ≡ 𝟙
  inverse-mul x y x' y' h h' = linear R (x ∷ y ∷ x' ∷ y' ∷ []) (both R (scaled R (x' * y') h) (scaled R 𝟙 h')) (search reify depth 20) tt

  -- equations that say what an atom is can be put in first: the determinant of two solutions of a three-term recurrence
  determinant-step : (a b c f₀ f₁ f₂ g₀ g₁ g₂ : Car) → f₂ ≡ (a + b) * f₁ + c * f₀ → g₂ ≡ (a + b) * g₁ + c * g₀
      → g₂ * f₁ - g₁ * f₂ ≡ - c * (g₁ * f₀ - g₀ * f₁)
  determinant-step a b c f₀ f₁ f₂ g₀ g₁ g₂ p q = rw (p, q) (ring R (a ∷ b ∷ c ∷ f₀ ∷ f₁ ∷ g₀ ∷ g₁ ∷ []) (search reify depth 20) tt)

  -- ---- the ring of power series is a ring like any other
  module _ where
    open Ser R use {Car as Series, add as ◌⊕◌, mul as ◌⊗◌}

    infixl 65 ◌⊕◌
    infixl 70 ◌⊗◌
    -- (a + b x)(c + d x), where a constant C a is an atom
    lines-mul : (a b c d : Car) → (C R a ⊕ C R b ⊗ X R) ⊗ (C R c ⊕ C R d ⊗ X R)
        ≡ C R a ⊗ C R c ⊕ (C R a ⊗ C R d ⊕ C R b ⊗ C R c) ⊗ X R ⊕ C R b ⊗ C R d ⊗ (X R ⊗ X R)
    lines-mul a b c d = ring (Ser R) (C R a ∷ C R b ∷ C R c ∷ C R d ∷ X R ∷ []) (search reify depth 20) tt

    -- a law of an atom enters as an equation: C (a b) ≡ C a · C b, taken f times
    constant-mul : (a b : Car) (f : Series) → C R (a * b) ⊗ f ≡ C R a ⊗ (C R b ⊗ f)
    constant-mul a b f = linear (Ser R) (C R (a * b) ∷ C R a ∷ C R b ∷ f ∷ []) (scaled (Ser R) f (C-mul R a b)) (search reify depth 20) tt
