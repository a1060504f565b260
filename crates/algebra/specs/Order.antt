-- Series that begin late: their coefficients below x^k are zero.
--   VanishesBelow R k f : every coefficient of f below x^k is zero
--   AgreeBelow R k f g : f and g have the same coefficients below x^k
-- Proves that sums and products keep it, the lowest coefficient of a product, and that division by a series
-- whose constant coefficient is a unit keeps it.
-- Assumes nothing.
use Rattle.std.specs.Prelude.{◌≡◌, ◌⊎◌, ℕ, zero, suc, ◌<◌, ◌≤◌, ◌+◌ as ◌+ℕ◌, ◌-◌ as ◌-ℕ◌}
use Rattle.std.proofs.Common.{sym, ◌∙◌, ap, ap₂, inl, inr, arith}
use Rattle.std.proofs.Math.Decide.{dec_lt}
use Rattle.std.proofs.Math.Nat
use Rattle.algebra.specs.Diagonal.{diag-vanish}
use Rattle.algebra.specs.Ring
use Rattle.algebra.specs.Ring.{CommRing}
use Rattle.algebra.specs.Series.{Ser, co, co-add, co-neg, co-mul, co-mul-sum}
use Rattle.algebra.specs.Sum.{sum-single}
use Rattle.algebra.specs.Unit.{IsUnit, unit-cancel-zero}
use Rattle.algebra.specs.Variable.{X, co-X-mul-zero, co-X-mul-suc}

module _ (R : CommRing) where
  open R use {Car, zero as 𝟘, add as ◌⊕◌, mul as ◌⊗◌}
  open Ser R use {Car as Series, add as ◌+◌, mul as ◌*◌, neg as -◌}

  infixl 65 ◌⊕◌ ◌+◌
  infixl 70 ◌⊗◌ ◌*◌
  infix 75 -◌
  abbrev pub VanishesBelow : ℕ → Series → Type 0
  VanishesBelow k f = (n : ℕ) → n < k → co R f n ≡ 𝟘

  abbrev pub AgreeBelow : ℕ → Series → Series → Type 0
  AgreeBelow k f g = (n : ℕ) → n < k → co R f n ≡ co R g n

  pub vanishes-zero : (f : Series) → VanishesBelow 0 f
  vanishes-zero f n p = absurd (omega arith)

  pub vanishes-less : {j k : ℕ} (f : Series) → j ≤ k → VanishesBelow k f → VanishesBelow j f
  vanishes-less f h v n p = v n (omega arith)

  -- ---- sums
  pub vanishes-add : (k : ℕ) (f g : Series) → VanishesBelow k f → VanishesBelow k g → VanishesBelow k (f + g)
  vanishes-add k f g v w n p = co-add R f g n ∙ ap₂ ◌⊕◌ (v n p) (w n p) ∙ R.add-zero 𝟘

  pub vanishes-sub : (k : ℕ) (f g : Series) → AgreeBelow k f g → VanishesBelow k (f + - g)
  vanishes-sub k f g a n p = co-add R f (- g) n ∙ ap₂ ◌⊕◌ (a n p) (co-neg R g n) ∙ R.add-neg (co R g n)

  -- ---- products
  -- the term of a product where either factor vanishes
  term-vanishes : (k l : ℕ) (f g : Series) → VanishesBelow k f → VanishesBelow l g → (i j : ℕ) → i < k ⊎ j < l → co R f i ⊗ co R g j ≡ 𝟘
  term-vanishes k l f g v w i j (inl p) = ap (λ t. t ⊗ co R g j) (v i p) ∙ Ring.zero-mul R (co R g j)
  term-vanishes k l f g v w i j (inr p) = ap (λ t. co R f i ⊗ t) (w j p) ∙ Ring.mul-zero R (co R f i)

  pub vanishes-mul : (k l : ℕ) (f g : Series) → VanishesBelow k f → VanishesBelow l g → VanishesBelow (k +ℕ l) (f * g)
  vanishes-mul k l f g v w n p = co-mul R f g n
      ∙ diag-vanish R n (λ i j e. term-vanishes k l f g v w i j (elim (dec_lt i k) [ yes q ↦ inl q | no q ↦ inr (omega arith) ]))

  pub vanishes-mul-left : (k : ℕ) (f g : Series) → VanishesBelow k f → VanishesBelow k (f * g)
  vanishes-mul-left k f g v n p = vanishes-mul k 0 f g v (vanishes-zero g) n (omega arith)

  pub vanishes-X-mul : (k : ℕ) (f : Series) → VanishesBelow k f → VanishesBelow (suc k) (X R * f)
  vanishes-X-mul k f v zero p = co-X-mul-zero R f
  vanishes-X-mul k f v (suc n) p = co-X-mul-suc R f n ∙ v n (omega arith)

  -- the lowest coefficient of a product
  pub co-mul-lowest : (k l : ℕ) (f g : Series) → VanishesBelow k f → VanishesBelow l g → co R (f * g) (k +ℕ l) ≡ co R f k ⊗ co R g l
  co-mul-lowest k l f g v w = co-mul-sum R f g (k +ℕ l)
      ∙ sum-single R (suc (k +ℕ l)) k (λ i. co R f i ⊗ co R g ((k +ℕ l) -ℕ i)) (omega arith) other ∙ ap (λ t. co R f k ⊗ co R g t) rest
    where
      other : (i : ℕ) → i < suc (k +ℕ l) → ¬ (i ≡ k) → co R f i ⊗ co R g ((k +ℕ l) -ℕ i) ≡ 𝟘
      other i p z = term-vanishes k l f g v w i ((k +ℕ l) -ℕ i) (elim (dec_lt i k) [ yes q ↦ inl q | no q ↦ inr (omega arith) ])

      rest : (k +ℕ l) -ℕ k ≡ l
      rest = omega arith

  pub co-mul-lowest-left : (k : ℕ) (f g : Series) → VanishesBelow k f → co R (f * g) k ≡ co R f k ⊗ co R g 0
  co-mul-lowest-left k f g v = ap (co R (f * g)) (sym (Nat.add-zero k)) ∙ co-mul-lowest k 0 f g v (vanishes-zero g)

  -- ---- quotients
  pub vanishes-of-mul : (k : ℕ) (f g : Series) → IsUnit R (co R g 0) → VanishesBelow k (f * g) → VanishesBelow k f
  vanishes-of-mul zero f g u v n p = vanishes-zero f n p
  vanishes-of-mul (suc k) f g u v n p = at (vanishes-of-mul k f g u (λ n p. v n (omega arith)))
      (Nat.eq-or-lt_of_le (Nat.le_of_suc-le-suc p))
    where
      at : VanishesBelow k f → (n ≡ k) ⊎ (n < k) → co R f n ≡ 𝟘
      at low (inl e) = ap (co R f) e ∙ unit-cancel-zero R (co R f k) u
          (R.mul_comm (co R g 0) (co R f k) ∙ sym (co-mul-lowest-left k f g low) ∙ v k (omega arith))
      at low (inr q) = low n q
