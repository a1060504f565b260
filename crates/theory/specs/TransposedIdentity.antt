-- Adjoint is the transpose of Expand.
-- Proves that the sum of u_i Expand(v)_i is the sum of Adjoint(u)_j v_j, an exchange of two sums: over any ring and any
-- basis, then over the definitions for every modulus but 0, every family and all lists.
-- The scope paper, 'The definitions'; the report, section 2. Assumes nothing.
use Rattle.std.specs.Prelude.{◌≡◌, List, [], ◌∷◌, ℕ, suc, ◌*◌, ◌%◌, ◌<◌, get_or}
use Rattle.std.proofs.Common.{sym, ◌∙◌, ap}
use Rattle.algebra.specs.Residues.{Zmod, res-mul, mod-of-res}
use Rattle.algebra.specs.Ring.{CommRing}
use Rattle.algebra.specs.Solver.{ring, reify}
use Rattle.algebra.specs.Sum as Sum
use Rattle.algebra.specs.Sum.{sum-cong, sum-exchange, sum-mul-left, sum-mul-right}
use Rattle.definitions.specs.Conversion.{expand, adjoint}
use Rattle.definitions.specs.Family.{Family, size}
use Rattle.definitions.specs.Number.{sum}
use Rattle.numbers.specs.Residue.{residue-sum}
use Rattle.theory.specs.Bridge.{entries, rows_of, entries-expand, entries-adjoint}
use Rattle.theory.specs.Recurrence.{term}

-- φ j i is the coefficient of x^i in the j-th polynomial of a basis
module _ (R : CommRing) (φ : ℕ → ℕ → R.Car) where
  open R use {Car, mul as ◌⊗◌}

  infixl 70 ◌⊗◌
  pub transposed-sums : (n k : ℕ) (u v : ℕ → Car)
      → Sum.sum R n (λ i. u i ⊗ Sum.sum R k (λ j. v j ⊗ φ j i)) ≡ Sum.sum R k (λ j. Sum.sum R n (λ i. u i ⊗ φ j i) ⊗ v j)
  transposed-sums n k u v = sum-cong R n (λ i h. sym (sum-mul-left R k (u i) (λ j. v j ⊗ φ j i)))
      ∙ sum-exchange R n k (λ i j. u i ⊗ (v j ⊗ φ j i))
      ∙ sum-cong R k (λ j h. sum-cong R n (λ i g. ring R (u i ∷ v j ∷ φ j i ∷ []) (search reify depth 20) tt)
      ∙ sum-mul-right R n (λ i. u i ⊗ φ j i) (v j))

pub transposed-identity : (f : Family) → 0 < f.m → (u v : List ℕ)
    → sum (size f) (λ i. get_or u i 0 * get_or (expand f v) i 0) % f.m ≡ sum (size f) (λ j. get_or (adjoint f u) j 0 * get_or v j 0) % f.m
transposed-identity f pos u v = mod-of-res m pos _ _ (simp (residue-sum m pos, res-mul m pos)
    (sum-cong Q n (λ i h. ap (λ t. Q.mul (entries m pos u i) t) (entries-expand f pos v i h))
    ∙ transposed-sums Q (λ j i. term Q (rows_of f pos) (suc j) i) n n (entries m pos u) (entries m pos v)
    ∙ sum-cong Q n (λ j h. ap (λ t. Q.mul t (entries m pos v j)) (sym (entries-adjoint f pos u j h)))))
  where
    m : ℕ
    m = f.m

    n : ℕ
    n = size f

    Q : CommRing
    Q = Zmod m pos
