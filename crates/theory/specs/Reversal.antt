-- Polynomials with their coefficients the other way round, over any commutative ring.
--   reversal R k p   x^(k-1) p(1/x): the k coefficients of p below x^k, the highest first, and zeros from x^k on
--   reversed R ρ k   P_{k-1} of the recurrence, reversed with length k, as a power series
-- So the reversal of F_i is `reversed ρ (suc i)`, and that of G_{i-1} is `reversed (later ρ) i`.
-- Proves the recurrence of the reversals, their first coefficient and their degree, and that a product with the series of a
-- sequence holds the sums of P_{k-1} against that sequence. The report, Section 3, the proof of Theorem 2. Assumes nothing.
use Rattle.std.specs.Prelude.{◌≡◌}
use Rattle.std.proofs.Math.Path.{refl, sym, ap, ap₂, fun_ext}
use Rattle.std.proofs.Common.{◌∙◌}
use Prim.Native.Nat.{ℕ, zero, suc, ◌≤◌, ◌+◌ as ◌+ℕ◌}
use Rattle.std.proofs.Math.Nat
use native.Mathlib.Omega.{arith}
use Rattle.algebra.specs.Diagonal.{diag, diag-zero, diag-first, diag-cong, diag-vanish}
use Rattle.algebra.specs.Product.{product}
use Rattle.algebra.specs.Ring
use Rattle.algebra.specs.Ring.{CommRing}
use Rattle.algebra.specs.Series.{Ser, gen, co, co-gen, ser-ext, co-zero, co-one-zero, co-one-suc, co-add, co-mul}
use Rattle.algebra.specs.Sum.{sum, sum-empty, sum-last}
use Rattle.algebra.specs.Variable.{C, X, shift, co-C-mul, X-mul-gen}
use Rattle.theory.specs.Recurrence.{Rows, term, term-step, degree, leading}

module _ (R : CommRing) where
  open R use {Car, zero as 𝟘, add as ◌⊕◌, mul as ◌⊗◌}
  open Ser R use {Car as Series, zero as 0#, one as 1#, add as ◌+◌, mul as ◌*◌}

  infixl 65 ◌⊕◌ ◌+◌
  infixl 70 ◌⊗◌ ◌*◌
  unfoldable pub reversal : ℕ → (ℕ → Car) → ℕ → Car
  reversal zero p i = 𝟘
  reversal (suc k) p zero = p k
  reversal (suc k) p (suc i) = reversal k p i

  unfoldable pub reversed : Rows R → ℕ → Series
  reversed ρ k = gen R (reversal k (term R ρ k))

  -- ---- reversals of any coefficients
  pub reversal-past : (k : ℕ) (p : ℕ → Car) (i : ℕ) → k ≤ i → reversal k p i ≡ 𝟘
  unfolding reversal
  reversal-past zero p i h = refl
  reversal-past (suc k) p zero h = absurd (omega arith)
  reversal-past (suc k) p (suc i) h = reversal-past k p i (Nat.le_of_suc-le-suc h)

  -- one place more for a factor x, and one place more for nothing
  reversal-shift : (k : ℕ) (p : ℕ → Car) (i : ℕ) → reversal (suc k) (shift R p) i ≡ reversal k p i
  unfolding reversal
  reversal-shift zero p zero = refl
  reversal-shift zero p (suc i) = refl
  reversal-shift (suc k) p zero = refl
  reversal-shift (suc k) p (suc i) = reversal-shift k p i

  reversal-longer : (k : ℕ) (p : ℕ → Car) → p k ≡ 𝟘 → (i : ℕ) → reversal (suc k) p i ≡ shift R (reversal k p) i
  unfolding reversal
  reversal-longer k p z zero = z
  reversal-longer k p z (suc i) = refl

  reversal-row : (k : ℕ) (a b c : Car) (p q s : ℕ → Car) (i : ℕ)
      → reversal k (λ j. a ⊗ p j ⊕ b ⊗ q j ⊕ c ⊗ s j) i ≡ a ⊗ reversal k p i ⊕ b ⊗ reversal k q i ⊕ c ⊗ reversal k s i
  unfolding reversal
  reversal-row zero a b c p q s i = sym (simp (Ring.mul-zero R, R.add-zero))
  reversal-row (suc k) a b c p q s zero = refl
  reversal-row (suc k) a b c p q s (suc i) = reversal-row k a b c p q s i

  -- ---- the recurrence
  pub co-reversed : (ρ : Rows R) (k i : ℕ) → co R (reversed ρ k) i ≡ reversal k (term R ρ k) i
  unfolding reversed
  co-reversed ρ k i = co-gen R (reversal k (term R ρ k)) i

  pub reversed-zero : (ρ : Rows R) → reversed ρ 0 ≡ 0#
  unfolding reversal
  reversed-zero ρ = ser-ext R (λ i. co-reversed ρ 0 i ∙ sym (co-zero R i))

  pub reversed-one : (ρ : Rows R) → reversed ρ 1 ≡ 1#
  unfolding reversal term
  reversed-one ρ = ser-ext R at
    where
      at : (i : ℕ) → co R (reversed ρ 1) i ≡ co R 1# i
      at zero = co-reversed ρ 1 0 ∙ sym (co-one-zero R)
      at (suc i) = co-reversed ρ 1 (suc i) ∙ sym (co-one-suc R i)

  gen-longer : (k : ℕ) (p : ℕ → Car) → p k ≡ 𝟘 → gen R (reversal (suc k) p) ≡ X R * gen R (reversal k p)
  gen-longer k p z = ap (gen R) (fun_ext (reversal-longer k p z)) ∙ sym (X-mul-gen R (reversal k p))

  pub reversed_step : (ρ : Rows R) (k : ℕ)
      → reversed ρ (suc (suc k))
      ≡ C R (ρ.a k) * reversed ρ (suc k) + C R (ρ.b k) * (X R * reversed ρ (suc k)) + C R (ρ.c k) * (X R * (X R * reversed ρ k))
  unfolding reversed
  reversed_step ρ k = ser-ext R parts ∙ cc (up, once, twice)
    where
      back : (ℕ → Car) → Series
      back p = gen R (reversal (suc (suc k)) p)

      up : back (shift R (term R ρ (suc k))) ≡ reversed ρ (suc k)
      up = ap (gen R) (fun_ext (reversal-shift (suc k) (term R ρ (suc k))))

      once : back (term R ρ (suc k)) ≡ X R * reversed ρ (suc k)
      once = gen-longer (suc k) (term R ρ (suc k)) (degree R ρ (suc k) (suc k) (omega arith))

      twice : back (term R ρ k) ≡ X R * (X R * reversed ρ k)
      twice = gen-longer (suc k) (term R ρ k) (degree R ρ k (suc k) (omega arith))
          ∙ ap (λ f. X R * f) (gen-longer k (term R ρ k) (degree R ρ k k (omega arith)))

      parts : (i : ℕ) → co R (back (term R ρ (suc (suc k)))) i
          ≡ co R (C R (ρ.a k) * back (shift R (term R ρ (suc k))) + C R (ρ.b k) * back (term R ρ (suc k))
          + C R (ρ.c k) * back (term R ρ k)) i
      parts i = co-gen R (reversal (suc (suc k)) (term R ρ (suc (suc k)))) i
          ∙ ap (λ p. reversal (suc (suc k)) p i) (fun_ext (term-step R ρ k))
          ∙ reversal-row (suc (suc k)) (ρ.a k) (ρ.b k) (ρ.c k) (shift R (term R ρ (suc k))) (term R ρ (suc k)) (term R ρ k) i
          ∙ sym (simp (co-add R, co-C-mul R, co-gen R))

  -- ---- the first coefficient and the last
  pub co-reversed-first : (ρ : Rows R) (k : ℕ) → co R (reversed ρ (suc k)) 0 ≡ product R k ρ.a
  unfolding reversal
  co-reversed-first ρ k = co-reversed ρ (suc k) 0 ∙ leading R ρ k

  pub co-reversed-past : (ρ : Rows R) (k i : ℕ) → k ≤ i → co R (reversed ρ k) i ≡ 𝟘
  co-reversed-past ρ k i h = co-reversed ρ k i ∙ reversal-past k (term R ρ k) i h

  -- ---- sums against a sequence
  pub diag-reversal : (p s : ℕ → Car) (n k : ℕ) → diag R (n +ℕ k) (λ i j. reversal (suc n) p i ⊗ s j)
      ≡ sum R (suc n) (λ j. p j ⊗ s (k +ℕ j))
  unfolding reversal
  diag-reversal p s zero k = ap (λ t. diag R t (λ i j. reversal 1 p i ⊗ s j)) (Nat.zero-add k) ∙ alone k
      ∙ sym (sum-last R 0 (λ j. p j ⊗ s (k +ℕ j))
      ∙ ap₂ ◌⊕◌ (sum-empty R (λ j. p j ⊗ s (k +ℕ j))) (ap (λ t. p 0 ⊗ s t) (Nat.add-zero k)) ∙ Ring.zero-add R (p 0 ⊗ s k))
    where
      alone : (k : ℕ) → diag R k (λ i j. reversal 1 p i ⊗ s j) ≡ p 0 ⊗ s k
      alone zero = diag-zero R (λ i j. reversal 1 p i ⊗ s j)
      alone (suc k) = diag-first R k (λ i j. reversal 1 p i ⊗ s j)
          ∙ ap (λ t. p 0 ⊗ s (suc k) ⊕ t) (diag-vanish R k (λ i j e. Ring.zero-mul R (s j))) ∙ R.add-zero (p 0 ⊗ s (suc k))
  diag-reversal p s (suc n) k = ap (λ t. diag R t (λ i j. reversal (suc (suc n)) p i ⊗ s j)) (Nat.suc-add n k)
      ∙ diag-first R (n +ℕ k) (λ i j. reversal (suc (suc n)) p i ⊗ s j) ∙ ap₂ ◌⊕◌ (ap (λ t. p (suc n) ⊗ s t) same) (diag-reversal p s n k)
      ∙ R.add_comm (p (suc n) ⊗ s (k +ℕ suc n)) (sum R (suc n) (λ j. p j ⊗ s (k +ℕ j))) ∙ sym (sum-last R (suc n) (λ j. p j ⊗ s (k +ℕ j)))
    where
      same : suc (n +ℕ k) ≡ k +ℕ suc n
      same = omega arith

  pub co-reversed-mul : (ρ : Rows R) (s : ℕ → Car) (n k : ℕ)
      → co R (reversed ρ (suc n) * gen R s) (n +ℕ k) ≡ sum R (suc n) (λ j. term R ρ (suc n) j ⊗ s (k +ℕ j))
  co-reversed-mul ρ s n k = co-mul R (reversed ρ (suc n)) (gen R s) (n +ℕ k)
      ∙ diag-cong R (n +ℕ k) (λ i j e. ap₂ ◌⊗◌ (co-reversed ρ (suc n) i) (co-gen R s j))
      ∙ diag-reversal (term R ρ (suc n)) s n k
