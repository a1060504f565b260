-- Constants and the variable in the ring of power series.
--   C R c : the series c + 0·x + ..
--   X R : the series x
--   shift R p : 0, p 0, p 1, ..: the coefficients of x times the series with coefficients p
--   coefficients : the laws of `co`, for `simp`, that take a series written with +, -, C and X apart
-- Proves that C is a map of rings, that C c scales and that X shifts coefficients.
-- Assumes nothing.
use Rattle.std.specs.Prelude.{◌≡◌, ℕ, zero, suc}
use Rattle.std.proofs.Common.{sym, ◌∙◌, ap, ap₂}
use Rattle.algebra.specs.Diagonal.{diag, diag-first, diag-cong, diag-vanish}
use Rattle.algebra.specs.Ring
use Rattle.algebra.specs.Ring.{CommRing}
use Rattle.algebra.specs.Series.{Ser, gen, co, co-gen, ser-ext, co-zero, co-one-zero, co-one-suc, co-add, co-neg, co-mul, co-mul-zero}

module _ (R : CommRing) where
  open R use {Car, zero as 𝟘, one as 𝟙, add as ◌⊕◌, mul as ◌⊗◌, neg as ⊖◌}
  open Ser R use {Car as Series, zero as 0#, one as 1#, add as ◌+◌, mul as ◌*◌, neg as -◌}

  infixl 65 ◌⊕◌ ◌+◌
  infixl 70 ◌⊗◌ ◌*◌
  infix 75 ⊖◌ -◌
  -- ---- constants
  abbrev constant : Car → ℕ → Car
  constant c zero = c
  constant c (suc n) = 𝟘

  pub C : Car → Series
  C c = gen R (constant c)

  pub co-C-zero : (c : Car) → co R (C c) 0 ≡ c
  unfolding C
  co-C-zero c = co-gen R (constant c) 0

  pub co-C-suc : (c : Car) (n : ℕ) → co R (C c) (suc n) ≡ 𝟘
  unfolding C
  co-C-suc c n = co-gen R (constant c) (suc n)

  pub co-C-mul : (c : Car) (f : Series) (n : ℕ) → co R (C c * f) n ≡ c ⊗ co R f n
  co-C-mul c f zero = co-mul-zero R (C c) f ∙ ap (λ t. t ⊗ co R f 0) (co-C-zero c)
  co-C-mul c f (suc n) = co-mul R (C c) f (suc n) ∙ diag-first R n (λ i j. co R (C c) i ⊗ co R f j)
      ∙ ap₂ ◌⊕◌ (ap (λ t. t ⊗ co R f (suc n)) (co-C-zero c))
      (diag-vanish R n (λ i j e. ap (λ t. t ⊗ co R f j) (co-C-suc c i) ∙ Ring.zero-mul R (co R f j)))
      ∙ R.add-zero (c ⊗ co R f (suc n))

  pub C-zero : C 𝟘 ≡ 0#
  C-zero = ser-ext R at
    where
      at : (n : ℕ) → co R (C 𝟘) n ≡ co R 0# n
      at zero = co-C-zero 𝟘 ∙ sym (co-zero R 0)
      at (suc n) = co-C-suc 𝟘 n ∙ sym (co-zero R (suc n))

  pub C-one : C 𝟙 ≡ 1#
  C-one = ser-ext R at
    where
      at : (n : ℕ) → co R (C 𝟙) n ≡ co R 1# n
      at zero = co-C-zero 𝟙 ∙ sym (co-one-zero R)
      at (suc n) = co-C-suc 𝟙 n ∙ sym (co-one-suc R n)

  pub C-add : (a b : Car) → C (a ⊕ b) ≡ C a + C b
  C-add a b = ser-ext R at
    where
      at : (n : ℕ) → co R (C (a ⊕ b)) n ≡ co R (C a + C b) n
      at zero = simp (co-add R, co-C-zero)
      at (suc n) = simp (co-add R, co-C-suc, R.add-zero)

  pub C-neg : (a : Car) → C (⊖ a) ≡ - C a
  C-neg a = ser-ext R at
    where
      at : (n : ℕ) → co R (C (⊖ a)) n ≡ co R (- C a) n
      at zero = simp (co-neg R, co-C-zero)
      at (suc n) = simp (co-neg R, co-C-suc, Ring.neg-zero R)

  pub C-mul : (a b : Car) → C (a ⊗ b) ≡ C a * C b
  C-mul a b = ser-ext R at
    where
      at : (n : ℕ) → co R (C (a ⊗ b)) n ≡ co R (C a * C b) n
      at zero = simp (co-C-mul, co-C-zero)
      at (suc n) = simp (co-C-mul, co-C-suc, Ring.mul-zero R)

  -- ---- the variable
  abbrev pub shift : (ℕ → Car) → ℕ → Car
  shift p zero = 𝟘
  shift p (suc n) = p n

  pub X : Series
  X = gen R (shift (co R 1#))

  pub co-X-zero : co R X 0 ≡ 𝟘
  unfolding X
  co-X-zero = co-gen R (shift (co R 1#)) 0

  pub co-X-suc : (n : ℕ) → co R X (suc n) ≡ co R 1# n
  unfolding X
  co-X-suc n = co-gen R (shift (co R 1#)) (suc n)

  pub co-X-mul-zero : (f : Series) → co R (X * f) 0 ≡ 𝟘
  co-X-mul-zero f = co-mul-zero R X f ∙ ap (λ t. t ⊗ co R f 0) co-X-zero ∙ Ring.zero-mul R (co R f 0)

  pub co-X-mul-suc : (f : Series) (n : ℕ) → co R (X * f) (suc n) ≡ co R f n
  co-X-mul-suc f n = co-mul R X f (suc n) ∙ diag-first R n (λ i j. co R X i ⊗ co R f j)
      ∙ ap₂ ◌⊕◌ (ap (λ t. t ⊗ co R f (suc n)) co-X-zero ∙ Ring.zero-mul R (co R f (suc n)))
      (diag-cong R n (λ i j e. ap (λ t. t ⊗ co R f j) (co-X-suc i)))
      ∙ Ring.zero-add R (diag R n (λ i j. co R 1# i ⊗ co R f j)) ∙ sym (co-mul R 1# f n) ∙ ap (λ s. co R s n) (Ring.one-mul (Ser R) f)

  pub X-mul-gen : (p : ℕ → Car) → X * gen R p ≡ gen R (shift p)
  X-mul-gen p = ser-ext R at
    where
      at : (n : ℕ) → co R (X * gen R p) n ≡ co R (gen R (shift p)) n
      at zero = co-X-mul-zero (gen R p) ∙ sym (co-gen R (shift p) 0)
      at (suc n) = co-X-mul-suc (gen R p) n ∙ co-gen R p n ∙ sym (co-gen R (shift p) (suc n))

  -- a series is its constant coefficient and x times the rest
  pub ser-cons : (p : ℕ → Car) → gen R p ≡ C (p 0) + X * gen R (λ n. p (suc n))
  ser-cons p = ser-ext R at
    where
      at : (n : ℕ) → co R (gen R p) n ≡ co R (C (p 0) + X * gen R (λ n. p (suc n))) n
      at zero = simp (co-gen R, co-add R, co-C-zero, co-X-mul-zero, R.add-zero)
      at (suc n) = simp (co-gen R, co-add R, co-C-suc, co-X-mul-suc, Ring.zero-add R)

pub ruleset coefficients = (co-add, co-neg, co-zero, co-gen, co-C-mul, co-C-zero, co-C-suc, co-X-mul-zero, co-X-mul-suc)
