-- Equations in any commutative ring, proved by computation.
--   ring R ρ (search reify depth 20) tt : x ≡ y, an identity over the atoms of the list ρ
--   linear R ρ e (search reify depth 20) tt : x ≡ y, where x - y ≡ d is an identity and e : d ≡ 0
--   scaled R k h, both R e e' : what e is made of, from known equations h : l ≡ r
-- `search reify` reads both sides as expressions over ρ, and `tt` is the check that their difference
-- cancels. `SolverExamples` shows each use and how to read a refusal.
-- Assumes nothing.
use Rattle.std.specs.Prelude.{◌≡◌, List}
use Rattle.std.proofs.Common.{sym, ◌∙◌, ap, ap₂}
use Rattle.algebra.specs.Expression.{Same}
use Rattle.algebra.specs.Meaning.{value_same}
use Rattle.algebra.specs.Reading.{Sides, sides, expr, value-expr}
pub use Rattle.algebra.specs.Reading.{reify}
use Rattle.algebra.specs.Ring
use Rattle.algebra.specs.Ring.{CommRing}

module _ (R : CommRing) where
  open R use {Car, zero as 𝟘, add as ◌⊕◌, mul as ◌⊗◌, neg as ⊖◌}

  infixl 65 ◌⊕◌
  infixl 70 ◌⊗◌
  infix 75 ⊖◌
  abbrev pub Check : {ρ : List Car} {x y : Car} → Sides R ρ x y → Type 0
  Check (sides a b) = Same (expr R a) (expr R b)

  pub ring : (ρ : List Car) {x y : Car} (s : Sides R ρ x y) → Check s → x ≡ y
  ring ρ (sides a b) t = sym (value-expr R a) ∙ value_same R ρ (expr R a) (expr R b) t ∙ value-expr R b

  -- ---- an equation from equations, each taken so many times: x - y is k₁·(l₁ - r₁) + k₂·(l₂ - r₂) + ..
  pub scaled : (k : Car) {l r : Car} → l ≡ r → k ⊗ (l ⊕ ⊖ r) ≡ 𝟘
  scaled k {l} {r} h = ap (λ t. k ⊗ t) (Ring.sub-of-eq R l r h) ∙ Ring.mul-zero R k

  pub both : {d d' : Car} → d ≡ 𝟘 → d' ≡ 𝟘 → d ⊕ d' ≡ 𝟘
  both p q = ap₂ ◌⊕◌ p q ∙ R.add-zero 𝟘

  pub linear : (ρ : List Car) {x y d : Car} → d ≡ 𝟘 → (s : Sides R ρ (x ⊕ ⊖ y) d) → Check s → x ≡ y
  linear ρ {x} {y} e s t = Ring.eq-of-sub R x y (ring ρ s t ∙ e)
