-- Multiplication by x in the basis of a recurrence, over any commutative ring.
--   times_variable R ρ v j  the coefficient of P_j in x times the sum of a_{i+1} v_i P_i: v_{j-1} - b_{j+1} v_j - c_{j+2} v_{j+1}
-- Proves that it is that, with no inverse and nothing of the c, since x a_{i+1} P_i = P_{i+1} - b_{i+1} P_i - c_{i+1} P_{i-1};
-- and one step of Horner's rule, x times a combination and a constant more. Assumes nothing.
use Rattle.std.specs.Prelude.{◌≡◌, refl, [], ◌∷◌, ℕ, zero, suc, ◌≤◌}
use Rattle.std.proofs.Common.{◌∙◌, le_of_suc-le-suc, arith}
use Rattle.std.proofs.Math.Path.{ap, ap₂}
use Rattle.algebra.specs.Ring
use Rattle.algebra.specs.Ring.{CommRing}
use Rattle.algebra.specs.Solver.{ring, linear, scaled, both, reify}
use Rattle.algebra.specs.Sum.{sum, sum-empty, sum-last, sum_first, sum-cong, sum-vanish, sum-add}
use Rattle.algebra.specs.Variable.{shift}
use Rattle.theory.specs.Combination.{combination, combination-last}
use Rattle.theory.specs.Recurrence.{Rows, term, term-step, degree}

module _ (R : CommRing) (ρ : Rows R) where
  open R use {Car, zero as 𝟘, one as 𝟙, add as ◌⊕◌, mul as ◌⊗◌, neg as ⊖◌}

  infixl 65 ◌⊕◌
  infixl 70 ◌⊗◌
  infix 75 ⊖◌
  -- P_{k-1}
  abbrev T : ℕ → ℕ → Car
  T = term R ρ

  abbrev pub times_variable : (ℕ → Car) → ℕ → Car
  times_variable v j = shift R v j ⊕ ⊖ ρ.b j ⊗ v j ⊕ ⊖ ρ.c (suc j) ⊗ v (suc j)

  -- x times the first k terms, and what is carried over the k-th
  module _ (v : ℕ → Car) (i : ℕ) where
    abbrev multiplied : ℕ → Car
    multiplied k = sum R k (λ j. ρ.a j ⊗ v j ⊗ shift R (T (suc j)) i)

    times_variable-carry : (k : ℕ) → multiplied k ≡ combination R ρ k (times_variable v) i ⊕ shift R v k ⊗ T (suc k) i ⊕ ρ.c k ⊗ v k ⊗ T k i
    times_variable-carry zero = rw (
      sum-empty R (λ j. ρ.a j ⊗ v j ⊗ shift R (T (suc j)) i),
      sum-empty R (λ j. times_variable v j ⊗ T (suc j) i),
      degree R ρ 0 i (omega arith),
    )
        (ring R (T 1 i ∷ ρ.c 0 ∷ v 0 ∷ []) (search reify depth 20) tt)
    times_variable-carry (suc k) = sum-last R k (λ j. ρ.a j ⊗ v j ⊗ shift R (T (suc j)) i)
        ∙ rw (times_variable-carry k, combination-last R ρ k (times_variable v) i, term-step R ρ k i)
        (ring R (combination R ρ k (times_variable v) i ∷ shift R v k ∷ v k ∷ v (suc k) ∷ ρ.a k ∷ ρ.b k ∷ ρ.c k ∷ ρ.c (suc k)
        ∷ T k i ∷ T (suc k) i ∷ shift R (T (suc k)) i ∷ []) (search reify depth 20) tt)

  shift-combination : (w : ℕ → Car) (k i : ℕ) → sum R k (λ j. w j ⊗ shift R (T (suc j)) i) ≡ shift R (combination R ρ k w) i
  shift-combination w k zero = sum-vanish R k (λ j h. Ring.mul-zero R (w j))
  shift-combination w k (suc i) = refl

  -- all of it, where v ends before k
  pub times_variable-combination : (k : ℕ) (v : ℕ → Car) → ((j : ℕ) → k ≤ j → v j ≡ 𝟘) → (i : ℕ)
      → combination R ρ (suc k) (times_variable v) i ≡ shift R (combination R ρ k (λ j. ρ.a j ⊗ v j)) i
  times_variable-combination k v ends i = combination-last R ρ k (times_variable v) i
      ∙ linear R (combination R ρ k (times_variable v) i ∷ multiplied v i k ∷ shift R v k ∷ v k ∷ v (suc k) ∷ ρ.b k ∷ ρ.c k
      ∷ ρ.c (suc k) ∷ T k i ∷ T (suc k) i ∷ [])
      (both R (scaled R (⊖ 𝟙) (times_variable-carry v i k))
      (both R (scaled R (⊖ ρ.b k ⊗ T (suc k) i ⊕ ⊖ (ρ.c k ⊗ T k i)) (ends k (omega arith)))
      (scaled R (⊖ ρ.c (suc k) ⊗ T (suc k) i) (ends (suc k) (omega arith)))))
      (search reify depth 20) tt
      ∙ shift-combination (λ j. ρ.a j ⊗ v j) k i

  -- the constant y, since P_0 = 1
  constant-combination : (k : ℕ) (y : Car) (i : ℕ) → combination R ρ (suc k) (λ j. y ⊗ T 1 j) i ≡ y ⊗ T 1 i
  unfolding term
  constant-combination k y i = sum_first R k (λ j. y ⊗ T 1 j ⊗ T (suc j) i)
      ∙ ap₂ ◌⊕◌ (ap (λ t. t ⊗ T 1 i) (R.mul-one y))
      (sum-vanish R k (λ j h. ap (λ t. t ⊗ T (suc (suc j)) i) (Ring.mul-zero R y) ∙ Ring.zero-mul R (T (suc (suc j)) i)))
      ∙ R.add-zero (y ⊗ T 1 i)

  -- one step of Horner's rule: P_0 = 1 takes in one more power
  pub horner-combination : (k : ℕ) (y : Car) (v : ℕ → Car) → ((j : ℕ) → k ≤ j → v j ≡ 𝟘) → (i : ℕ)
      → combination R ρ (suc k) (λ j. y ⊗ T 1 j ⊕ times_variable v j) i ≡ y ⊗ T 1 i ⊕ shift R (combination R ρ k (λ j. ρ.a j ⊗ v j)) i
  horner-combination k y v ends i = sum-cong R (suc k) (λ j h. Ring.add-mul R (y ⊗ T 1 j) (times_variable v j) (T (suc j) i))
      ∙ sum-add R (suc k) (λ j. y ⊗ T 1 j ⊗ T (suc j) i) (λ j. times_variable v j ⊗ T (suc j) i)
      ∙ ap₂ ◌⊕◌ (constant-combination k y i) (times_variable-combination k v ends i)

  pub times_variable-ends : (k : ℕ) (v : ℕ → Car) → ((j : ℕ) → k ≤ j → v j ≡ 𝟘) → (j : ℕ) → suc k ≤ j → times_variable v j ≡ 𝟘
  times_variable-ends k v ends zero h = absurd (omega arith)
  times_variable-ends k v ends (suc j) h = simp (
    times_variable,
    ends j (le_of_suc-le-suc h),
    ends (suc j) (omega arith),
    ends (suc (suc j)) (omega arith),
    Ring.mul-zero R,
    R.add-zero,
  )
