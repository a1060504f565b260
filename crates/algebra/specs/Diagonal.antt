-- Sums over a diagonal, the pairs i + j = n, which the product of series is made of.
--   diag R n f : f 0 n + f 1 (n - 1) + .. + f n 0, by recursion and with no subtraction
-- Proves congruence, linearity, symmetry, associativity, and `diag-sum`: the same as a plain sum with n - i.
-- `diag` stays shut: `diag-zero` and `diag-first` are its clauses. Assumes nothing.
use Rattle.std.specs.Prelude.{◌≡◌}
use Rattle.std.proofs.Math.Path.{refl, sym, ap, ap₂}
use Rattle.std.proofs.Common.{◌∙◌, arith}
use Prim.Native.Nat.{ℕ, zero, suc, ◌+◌, ◌-◌}
use Rattle.algebra.specs.Ring
use Rattle.algebra.specs.Ring.{CommRing}
use Rattle.algebra.specs.Sum.{sum, sum_first, sum-cong}

module _ (R : CommRing) where
  open R use {Car, zero as 𝟘, add as ◌⊕◌, mul as ◌⊗◌, add_assoc, add_comm, mul_comm, mul-add}

  infixl 65 ◌⊕◌
  infixl 70 ◌⊗◌
  unfoldable pub diag : ℕ → (ℕ → ℕ → Car) → Car
  diag zero f = f 0 0
  diag (suc n) f = f 0 (suc n) ⊕ diag n (λ i j. f (suc i) j)

  pub diag-zero : (f : ℕ → ℕ → Car) → diag 0 f ≡ f 0 0
  unfolding diag
  diag-zero f = refl

  pub diag-first : (n : ℕ) (f : ℕ → ℕ → Car) → diag (suc n) f ≡ f 0 (suc n) ⊕ diag n (λ i j. f (suc i) j)
  unfolding diag
  diag-first n f = refl

  pub diag-last : (n : ℕ) (f : ℕ → ℕ → Car) → diag (suc n) f ≡ diag n (λ i j. f i (suc j)) ⊕ f (suc n) 0
  unfolding diag
  diag-last zero f = refl
  diag-last (suc n) f = ap (λ t. f 0 (suc (suc n)) ⊕ t) (diag-last n (λ i j. f (suc i) j))
      ∙ sym (add_assoc (f 0 (suc (suc n))) (diag n (λ i j. f (suc i) (suc j))) (f (suc (suc n)) 0))

  -- ---- congruence and linearity
  pub diag-cong : (n : ℕ) {f g : ℕ → ℕ → Car} → ((i j : ℕ) → i + j ≡ n → f i j ≡ g i j) → diag n f ≡ diag n g
  unfolding diag
  diag-cong zero h = h 0 0 refl
  diag-cong (suc n) h = ap₂ ◌⊕◌ (h 0 (suc n) (omega arith)) (diag-cong n (λ i j e. h (suc i) j (omega arith)))

  pub diag-vanish : (n : ℕ) {f : ℕ → ℕ → Car} → ((i j : ℕ) → i + j ≡ n → f i j ≡ 𝟘) → diag n f ≡ 𝟘
  unfolding diag
  diag-vanish zero h = h 0 0 refl
  diag-vanish (suc n) h = ap₂ ◌⊕◌ (h 0 (suc n) (omega arith)) (diag-vanish n (λ i j e. h (suc i) j (omega arith))) ∙ R.add-zero 𝟘

  pub diag-add : (n : ℕ) (f g : ℕ → ℕ → Car) → diag n (λ i j. f i j ⊕ g i j) ≡ diag n f ⊕ diag n g
  unfolding diag
  diag-add zero f g = refl
  diag-add (suc n) f g = ap (λ t. (f 0 (suc n) ⊕ g 0 (suc n)) ⊕ t) (diag-add n (λ i j. f (suc i) j) (λ i j. g (suc i) j))
      ∙ Ring.add-interchange R (f 0 (suc n)) (g 0 (suc n)) (diag n (λ i j. f (suc i) j)) (diag n (λ i j. g (suc i) j))

  pub diag-mul-left : (n : ℕ) (c : Car) (f : ℕ → ℕ → Car) → diag n (λ i j. c ⊗ f i j) ≡ c ⊗ diag n f
  unfolding diag
  diag-mul-left zero c f = refl
  diag-mul-left (suc n) c f = ap (λ t. c ⊗ f 0 (suc n) ⊕ t) (diag-mul-left n c (λ i j. f (suc i) j))
      ∙ sym (mul-add c (f 0 (suc n)) (diag n (λ i j. f (suc i) j)))

  pub diag-mul-right : (n : ℕ) (f : ℕ → ℕ → Car) (c : Car) → diag n (λ i j. f i j ⊗ c) ≡ diag n f ⊗ c
  diag-mul-right n f c = diag-cong n (λ i j e. mul_comm (f i j) c) ∙ diag-mul-left n c f ∙ mul_comm c (diag n f)

  -- ---- order
  pub diag-flip : (n : ℕ) (f : ℕ → ℕ → Car) → diag n (λ i j. f j i) ≡ diag n f
  unfolding diag
  diag-flip zero f = refl
  diag-flip (suc n) f = ap (λ t. f (suc n) 0 ⊕ t) (diag-flip n (λ i j. f i (suc j)))
      ∙ add_comm (f (suc n) 0) (diag n (λ i j. f i (suc j))) ∙ sym (diag-last n f)

  -- the triples i + j + k = n, either way
  pub diag-assoc : (n : ℕ) (f : ℕ → ℕ → ℕ → Car) → diag n (λ s k. diag s (λ i j. f i j k)) ≡ diag n (λ i t. diag t (λ j k. f i j k))
  unfolding diag
  diag-assoc zero f = refl
  diag-assoc (suc n) f = ap (λ t. f 0 0 (suc n) ⊕ t) (diag-add n (λ s k. f 0 (suc s) k) (λ s k. diag s (λ i j. f (suc i) j k))
      ∙ ap (λ t. diag n (λ s k. f 0 (suc s) k) ⊕ t) (diag-assoc n (λ i j k. f (suc i) j k)))
      ∙ sym (add_assoc (f 0 0 (suc n)) (diag n (λ s k. f 0 (suc s) k)) (diag n (λ i t. diag t (λ j k. f (suc i) j k))))

  -- ---- plain sums
  pub diag-sum : (n : ℕ) (f : ℕ → ℕ → Car) → diag n f ≡ sum R (suc n) (λ i. f i (n - i))
  unfolding diag sum
  diag-sum zero f = sym (Ring.zero-add R (f 0 0))
  diag-sum (suc n) f = ap₂ ◌⊕◌ (ap (f 0) (omega arith))
      (diag-sum n (λ i j. f (suc i) j) ∙ sum-cong R (suc n) (λ i p. ap (f (suc i)) (omega arith)))
      ∙ sym (sum_first R (suc n) (λ i. f i (suc n - i)))
