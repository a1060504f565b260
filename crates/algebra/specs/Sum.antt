-- Finite sums over a commutative ring.
--   sum R n f : f 0 + f 1 + .. + f (n - 1)
-- Proves congruence, linearity, the first and the last term apart, splitting, exchange of two sums,
-- a single term that is not zero, and truncation where the terms end.
-- `sum` stays shut: `sum-empty` and `sum-last` are its clauses. A function argument that the goal shows
-- can be left as `_`. Assumes nothing.
use Rattle.std.specs.Prelude.{◌≡◌}
use Rattle.std.proofs.Math.Path.{refl, sym, ap, ap₂}
use Rattle.std.proofs.Common.{◌∙◌, arith}
use Prim.Native.Nat.{ℕ, zero, suc, ◌+◌, ◌-◌, ◌<◌, ◌≤◌}
use Rattle.std.proofs.Math.Nat
use Rattle.algebra.specs.Ring
use Rattle.algebra.specs.Ring.{CommRing}

module _ (R : CommRing) where
  open R use {Car, zero as 𝟘, add as ◌⊕◌, mul as ◌⊗◌, add_assoc, add_comm, add-zero, mul_comm, mul-add}

  infixl 65 ◌⊕◌
  infixl 70 ◌⊗◌
  unfoldable pub sum : ℕ → (ℕ → Car) → Car
  sum zero f = 𝟘
  sum (suc n) f = sum n f ⊕ f n

  pub sum-empty : (f : ℕ → Car) → sum 0 f ≡ 𝟘
  unfolding sum
  sum-empty f = refl

  pub sum-last : (n : ℕ) (f : ℕ → Car) → sum (suc n) f ≡ sum n f ⊕ f n
  unfolding sum
  sum-last n f = refl

  pub sum_first : (n : ℕ) (f : ℕ → Car) → sum (suc n) f ≡ f 0 ⊕ sum n (λ i. f (suc i))
  unfolding sum
  sum_first zero f = add_comm 𝟘 (f 0)
  sum_first (suc n) f = ap (λ t. t ⊕ f (suc n)) (sum_first n f) ∙ add_assoc (f 0) (sum n (λ i. f (suc i))) (f (suc n))

  -- ---- congruence and linearity
  pub sum-cong : (n : ℕ) {f g : ℕ → Car} → ((i : ℕ) → i < n → f i ≡ g i) → sum n f ≡ sum n g
  unfolding sum
  sum-cong zero h = refl
  sum-cong (suc n) h = ap₂ ◌⊕◌ (sum-cong n (λ i p. h i (omega arith))) (h n (omega arith))

  pub sum-zero : (n : ℕ) → sum n (λ i. 𝟘) ≡ 𝟘
  unfolding sum
  sum-zero zero = refl
  sum-zero (suc n) = add-zero (sum n (λ i. 𝟘)) ∙ sum-zero n

  pub sum-vanish : (n : ℕ) {f : ℕ → Car} → ((i : ℕ) → i < n → f i ≡ 𝟘) → sum n f ≡ 𝟘
  sum-vanish n h = sum-cong n h ∙ sum-zero n

  pub sum-add : (n : ℕ) (f g : ℕ → Car) → sum n (λ i. f i ⊕ g i) ≡ sum n f ⊕ sum n g
  unfolding sum
  sum-add zero f g = sym (add-zero 𝟘)
  sum-add (suc n) f g = ap (λ t. t ⊕ (f n ⊕ g n)) (sum-add n f g) ∙ Ring.add-interchange R (sum n f) (sum n g) (f n) (g n)

  pub sum-mul-left : (n : ℕ) (c : Car) (f : ℕ → Car) → sum n (λ i. c ⊗ f i) ≡ c ⊗ sum n f
  unfolding sum
  sum-mul-left zero c f = sym (Ring.mul-zero R c)
  sum-mul-left (suc n) c f = ap (λ t. t ⊕ c ⊗ f n) (sum-mul-left n c f) ∙ sym (mul-add c (sum n f) (f n))

  pub sum-mul-right : (n : ℕ) (f : ℕ → Car) (c : Car) → sum n (λ i. f i ⊗ c) ≡ sum n f ⊗ c
  sum-mul-right n f c = sum-cong n (λ i p. mul_comm (f i) c) ∙ sum-mul-left n c f ∙ mul_comm c (sum n f)

  -- ---- parts
  pub sum-split : (n k : ℕ) (f : ℕ → Car) → sum (n + k) f ≡ sum n f ⊕ sum k (λ i. f (n + i))
  unfolding sum
  sum-split n zero f = ap (λ t. sum t f) (Nat.add-zero n) ∙ sym (add-zero (sum n f))
  sum-split n (suc k) f = ap (λ t. sum t f) (Nat.add-suc n k) ∙ ap (λ t. t ⊕ f (n + k)) (sum-split n k f)
      ∙ add_assoc (sum n f) (sum k (λ i. f (n + i))) (f (n + k))

  -- terms that are zero from n on can be left out
  pub sum-truncate : (n k : ℕ) (f : ℕ → Car) → ((i : ℕ) → n ≤ i → f i ≡ 𝟘) → sum (n + k) f ≡ sum n f
  sum-truncate n k f z = sum-split n k f ∙ ap (λ t. sum n f ⊕ t) (sum-vanish k (λ i p. z (n + i) (omega arith))) ∙ add-zero (sum n f)

  -- the same with the two lengths compared
  pub sum-cut : (n m : ℕ) (f : ℕ → Car) → n ≤ m → ((i : ℕ) → n ≤ i → f i ≡ 𝟘) → sum m f ≡ sum n f
  sum-cut n m f h z = let whole : m ≡ n + (m - n) = omega arith in ap (λ t. sum t f) whole ∙ sum-truncate n (m - n) f z

  -- a single term that is not zero
  pub sum-single : (n k : ℕ) (f : ℕ → Car) → k < n → ((i : ℕ) → i < n → ¬ (i ≡ k) → f i ≡ 𝟘) → sum n f ≡ f k
  sum-single n k f h z = ap (λ t. sum t f) whole ∙ sum-split k (suc (n - suc k)) f ∙ ap₂ ◌⊕◌ below from ∙ Ring.zero-add R (f k)
    where
      whole : n ≡ k + suc (n - suc k)
      whole = omega arith

      below : sum k f ≡ 𝟘
      below = sum-vanish k (λ i p. z i (omega arith) (λ e. omega arith))

      from : sum (suc (n - suc k)) (λ i. f (k + i)) ≡ f k
      from = sum_first (n - suc k) (λ i. f (k + i))
          ∙ ap₂ ◌⊕◌ (ap f (Nat.add-zero k)) (sum-vanish (n - suc k) (λ i p. z (k + suc i) (omega arith) (λ e. omega arith)))
          ∙ add-zero (f k)

  -- ---- order
  pub sum-exchange : (m n : ℕ) (f : ℕ → ℕ → Car) → sum m (λ i. sum n (λ j. f i j)) ≡ sum n (λ j. sum m (λ i. f i j))
  unfolding sum
  sum-exchange zero n f = sym (sum-zero n)
  sum-exchange (suc m) n f = ap (λ t. t ⊕ sum n (f m)) (sum-exchange m n f) ∙ sym (sum-add n (λ j. sum m (λ i. f i j)) (f m))

  -- a combination of rows against a sequence is that combination of the rows' values
  pub sum-linear : (m n : ℕ) (u : ℕ → Car) (p : ℕ → ℕ → Car) (s : ℕ → Car)
      → sum n (λ i. sum m (λ j. u j ⊗ p j i) ⊗ s i) ≡ sum m (λ j. u j ⊗ sum n (λ i. p j i ⊗ s i))
  sum-linear m n u p s = sum-cong n (λ i h. sym (sum-mul-right m (λ j. u j ⊗ p j i) (s i))) ∙ sum-exchange n m (λ i j. u j ⊗ p j i ⊗ s i)
      ∙ sum-cong m (λ j h. sum-cong n (λ i g. R.mul_assoc (u j) (p j i) (s i)) ∙ sum-mul-left n (u j) (λ i. p j i ⊗ s i))
