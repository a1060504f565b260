-- c_1 shows in no list.
-- Proved: Expand, Adjoint, Decompose, Moments and Norms are the same for every c_1, whether it has an inverse or not. So a family whose c_1
-- is 0 has the lists of the one whose c_1 is 1. These rest on `begun`, which an edit of specs/ changes. Item 2 of the change requests.
-- Assumes nothing.
use Rattle.std.specs.Prelude.{◌≡◌, List, ◌∷◌}
use Rattle.std.proofs.Math.Path.{refl, fun_ext}
use Prim.Native.Nat.{ℕ, zero, suc, ◌<◌}
use Rattle.std.proofs.Common.{arith}
use Rattle.definitions.specs.Conversion.{expand, adjoint, decompose}
use Rattle.definitions.specs.Family.{Family, Row, rows, size, row_at, F, G}
use Rattle.definitions.specs.Orthogonality.{moments, signed_product, norm, norms}
use Rattle.numbers.specs.Lists.{table-equal}
use Rattle.theory.specs.SameRows.{Agree, term-equal, expand-same, adjoint-same, decompose-same}
use Rattle.theory.specs.FirstC.{begun as begun_of}

module _ (m : ℕ) (a b c : List ℕ) (close : Row) where
  abbrev begun : ℕ → Family
  begun = begun_of m a b c close

  module _ (x y : ℕ) where
    agree : (r : ℕ) → Agree r (row_at (begun x)) (row_at (begun y))
    unfolding row_at
    agree r = record { same_a = λ i h. refl; same_b = λ i h. refl; same_c = later_c }
      where
        later_c : (i : ℕ) → 0 < i → i < r → (row_at (begun x) i).c ≡ (row_at (begun y) i).c
        later_c zero l h = absurd (omega arith)
        later_c (suc i) l h = refl

    pub expand-first : (u : List ℕ) → expand (begun x) u ≡ expand (begun y) u
    expand-first = expand-same (begun y) b (x ∷ c) close (agree (rows (begun y)))

    pub adjoint-first : (u : List ℕ) → adjoint (begun x) u ≡ adjoint (begun y) u
    adjoint-first = adjoint-same (begun y) b (x ∷ c) close (agree (rows (begun y)))

    pub decompose-first : (p : List ℕ) → decompose (begun x) p ≡ decompose (begun y) p
    decompose-first = decompose-same (begun y) b (x ∷ c) close (agree (rows (begun y)))

    F-first : (j : ℕ) → F (begun x) j ≡ F (begun y) j
    unfolding F
    F-first j = fun_ext (λ i. term-equal m (agree j) (suc j) i (omega arith))

    G-first : (j : ℕ) → G (begun x) j ≡ G (begun y) j
    unfolding G row_at
    G-first j = refl

    pub moments-first : moments (begun x) ≡ moments (begun y)
    unfolding moments
    moments-first = rw (F-first (size (begun x)), G-first (rows (begun x)))

    signed_product-first : (i : ℕ) → signed_product (begun x) i ≡ signed_product (begun y) i
    unfolding signed_product row_at
    signed_product-first zero = refl
    signed_product-first (suc i) = rw (signed_product-first i)

    pub norms-first : norms (begun x) ≡ norms (begun y)
    unfolding norms norm row_at
    norms-first = table-equal (size (begun x)) _ _ (λ i h. rw (signed_product-first i))
