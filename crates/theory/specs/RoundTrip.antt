-- Expand and Decompose undo one another, and nothing but Decompose's answer expands to its input.
--   Decomposable f   2 ≤ m, and the a of rows 1 to r have inverses: all that Decompose divides by
-- Proves that the coefficient of x^k in F_k is a_1 .. a_k and has an inverse for k ≤ r, that Decompose's answer is a curve, both
-- round trips, that Expand is injective on curves, and that Decompose's answer is the only curve that Expand takes to its
-- input. No c and no closing row is in any hypothesis, c_1 included. The scope paper, 'The definitions': 'There is exactly one.'
-- Assumes nothing.
use Rattle.std.specs.Prelude.{◌≡◌, List, [], ◌∷◌, ◌++◌, ◌⊎◌, ℕ, zero, suc, ◌+◌, ◌*◌, ◌%◌, ◌<◌, ◌≤◌, length, get_or}
use Rattle.std.proofs.Math.Path.{refl, ap}
use Rattle.std.proofs.Common.{sym, ◌∙◌, ap₂, inl, inr, mod-lt, le_of_suc-le-suc, eq-or-lt_of_le, arith}
use Rattle.algebra.specs.Product.{product, product-unit}
use Rattle.algebra.specs.Residues.{Zmod, res, res-add, res-mul, res-mod}
use Rattle.algebra.specs.Ring.{CommRing}
use Rattle.algebra.specs.Solver.{ring, linear, scaled, reify}
use Rattle.algebra.specs.Unit.{IsUnit}
use Rattle.definitions.specs.Conversion.{expand, top, less_top, decompose_below, decompose}
use Rattle.definitions.specs.Family.{Family, Convertible, Curve, rows, size, row_at, F}
use Rattle.definitions.specs.Number.{negative, HasInverse, inverse}
use Rattle.numbers.specs.Lists.{snoc-length, snoc-entry, snoc-last, table-entry}
use Rattle.numbers.specs.Residue.{residue-negative, residue-inverse, residue-unit}
use Rattle.theory.specs.Bridge.{entries, rows_of, res-F, entries-expand, expand-curve}
use Rattle.theory.specs.Combination.{combination, combination-last, combination-cong, combination-top, combination-injective}
use Rattle.theory.specs.Recurrence.{Rows, term, leading}
use Rattle.theory.specs.Curves.{curves-equal-residues}

pub record Decomposable (f : Family) : Type 0 where
  pub modulus : 2 ≤ f.m
  pub a_inverse : (i : ℕ) → i < rows f → HasInverse f.m (row_at f i).a

pub convertible-decomposable : (f : Family) → Convertible f → Decomposable f
convertible-decomposable f c = record { modulus = c.modulus; a_inverse = λ i h. c.a_inverse i (omega arith) }

-- ---- Decompose answers a curve, whatever the family
pub decompose_below-length : (f : Family) (k : ℕ) (p : List ℕ) → length (decompose_below f k p) ≡ k
unfolding decompose_below
decompose_below-length f zero p = refl
decompose_below-length f (suc k) p = snoc-length (decompose_below f k (less_top f k (top f k p) p)) (top f k p)
    ∙ ap suc (decompose_below-length f k (less_top f k (top f k p) p))

module _ (f : Family) (k : ℕ) (p : List ℕ) where
  -- the curve of what is left under the top power
  abbrev rest : List ℕ
  rest = decompose_below f k (less_top f k (top f k p) p)

  decompose_below-step : decompose_below f (suc k) p ≡ rest ++ top f k p ∷ []
  unfolding decompose_below
  decompose_below-step = refl

  decompose_below-entry : (i : ℕ) → i < k → get_or (decompose_below f (suc k) p) i 0 ≡ get_or rest i 0
  decompose_below-entry i h = rw decompose_below-step
      (snoc-entry rest (top f k p) i 0 (rw (decompose_below-length f k (less_top f k (top f k p) p)) h))

  decompose_below-last : get_or (decompose_below f (suc k) p) k 0 ≡ top f k p
  decompose_below-last = rw decompose_below-step (snoc-last rest (top f k p) k 0 (decompose_below-length f k (less_top f k (top f k p) p)))

decompose_below-below : (f : Family) → 0 < f.m → (k : ℕ) (p : List ℕ) (i : ℕ) → i < k → get_or (decompose_below f k p) i 0 < f.m
unfolding top
decompose_below-below f pos zero p i h = absurd (omega arith)
decompose_below-below f pos (suc k) p i h = at (eq-or-lt_of_le (le_of_suc-le-suc h))
    (decompose_below-below f pos k (less_top f k (top f k p) p) i)
  where
    at : (i ≡ k) ⊎ (i < k) → (i < k → get_or (rest f k p) i 0 < f.m) → get_or (decompose_below f (suc k) p) i 0 < f.m
    at (inl same) ih = rw (same, decompose_below-last f k p) (mod-lt _ pos)
    at (inr l) ih = rw (decompose_below-entry f k p i l) (ih l)

pub decompose-curve : (f : Family) → 0 < f.m → (p : List ℕ) → Curve f (decompose f p)
unfolding decompose
decompose-curve f pos p = record { long = decompose_below-length f (size f) p; below = decompose_below-below f pos (size f) p }

-- ---- the top coefficients of the basis
pub leading-product : (f : Family) (pos : 0 < f.m) (k : ℕ)
    → res f.m pos (F f k k) ≡ product (Zmod f.m pos) k (λ i. res f.m pos (row_at f i).a)
leading-product f pos k = res-F f pos k k ∙ leading (Zmod f.m pos) (rows_of f pos) k

module _ (f : Family) (d : Decomposable f) where
  abbrev m : ℕ
  m = f.m

  abbrev pos : 0 < m
  pos = let two : 2 ≤ m = d.modulus in omega arith

  abbrev Q : CommRing
  Q = Zmod m pos

  open Q use {Car, one as 𝟙, add as ◌⊕◌, mul as ◌⊗◌, neg as ⊖◌}

  infixl 65 ◌⊕◌
  infixl 70 ◌⊗◌
  infix 75 ⊖◌
  abbrev ρ : Rows Q
  ρ = rows_of f pos

  abbrev ι : ℕ → Q.Car
  ι = res m pos

  abbrev E : List ℕ → ℕ → Q.Car
  E = entries m pos

  a_unit : (i : ℕ) → i < rows f → IsUnit Q (ρ.a i)
  a_unit i h = (residue-unit m pos (row_at f i).a d.modulus).0 (d.a_inverse i h)

  pub leading-has-inverse : (k : ℕ) → k ≤ rows f → HasInverse m (F f k k)
  leading-has-inverse k h = (residue-unit m pos (F f k k) d.modulus).1
      (rw (leading-product f pos k) (product-unit Q k ρ.a (λ i l. a_unit i (omega arith))))

  -- ---- back substitution gives the powers back, from the top one down
  leading-inverse : (k : ℕ) → k ≤ rows f → product Q k ρ.a ⊗ ι (inverse m (F f k k)) ≡ 𝟙
  leading-inverse k h = ap (λ t. t ⊗ ι (inverse m (F f k k))) (sym (leading-product f pos k))
      ∙ residue-inverse m pos (F f k k) (leading-has-inverse k h)

  top_back : (k : ℕ) (p : List ℕ) → k ≤ rows f → product Q k ρ.a ⊗ ι (top f k p) ≡ E p k
  unfolding top
  top_back k p h = simp (res-mod m pos, res-mul m pos) (linear Q (product Q k ρ.a ∷ E p k ∷ ι (inverse m (F f k k)) ∷ [])
      (scaled Q (E p k) (leading-inverse k h)) (search reify depth 20) tt)

  less_top-entry : (k y : ℕ) (p : List ℕ) (i : ℕ) → i < k → E (less_top f k y p) i ≡ E p i ⊕ ⊖ (ι y ⊗ term Q ρ (suc k) i)
  unfolding less_top
  less_top-entry k y p i h = ap ι (table-entry k (λ i. (get_or p i 0 + negative m (y * F f k i)) % m) i 0 h)
      ∙ simp (res-mod m pos, res-add m pos, residue-negative m pos, res-mul m pos, res-F f pos)

  expand-below : (k : ℕ) → k ≤ size f → (p : List ℕ) (i : ℕ) → i < k → combination Q ρ k (E (decompose_below f k p)) i ≡ E p i
  expand-below zero b p i h = absurd (omega arith)
  expand-below (suc k) b p i h = at (eq-or-lt_of_le (le_of_suc-le-suc h)) (expand-below k (omega arith) (less_top f k (top f k p) p) i)
    where
      w : ℕ → Car
      w = E (decompose_below f (suc k) p)

      last : w k ≡ ι (top f k p)
      last = ap ι (decompose_below-last f k p)

      at : (i ≡ k) ⊎ (i < k) → (i < k → combination Q ρ k (E (rest f k p)) i ≡ E (less_top f k (top f k p) p) i)
          → combination Q ρ (suc k) w i ≡ E p i
      at (inl same) ih = rw same (combination-top Q ρ k w ∙ ap (λ t. product Q k ρ.a ⊗ t) last ∙ top_back k p (omega arith))
      at (inr l) ih = combination-last Q ρ k w i
          ∙ ap₂ (λ s t. s ⊕ t ⊗ term Q ρ (suc k) i)
          (combination-cong Q ρ k i (λ j g. ap ι (decompose_below-entry f k p j g)) ∙ ih l ∙ less_top-entry k (top f k p) p i l) last
          ∙ ring Q (E p i ∷ ι (top f k p) ∷ term Q ρ (suc k) i ∷ []) (search reify depth 20) tt

  -- ---- the round trips
  pub expand-decompose : (p : List ℕ) → Curve f p → expand f (decompose f p) ≡ p
  unfolding decompose
  expand-decompose p cp = curves-equal-residues f (expand f (decompose f p)) p (expand-curve f pos (decompose f p)) cp pos
      (λ i h. entries-expand f pos (decompose f p) i h ∙ expand-below (size f) (omega arith) p i h)

  pub expand-injective : (u v : List ℕ) → Curve f u → Curve f v → expand f u ≡ expand f v → u ≡ v
  expand-injective u v cu cv e = curves-equal-residues f u v cu cv pos
      (combination-injective Q ρ (size f) (λ i h. a_unit i (le_of_suc-le-suc h)) (E u) (E v)
      (λ i h. sym (entries-expand f pos u i h) ∙ ap (λ t. E t i) e ∙ entries-expand f pos v i h))

  pub decompose-unique : (p u : List ℕ) → Curve f p → Curve f u → expand f u ≡ p → u ≡ decompose f p
  decompose-unique p u cp cu e = expand-injective u (decompose f p) cu (decompose-curve f pos p) (e ∙ sym (expand-decompose p cp))

  pub decompose-expand : (u : List ℕ) → Curve f u → decompose f (expand f u) ≡ u
  decompose-expand u cu = sym (decompose-unique (expand f u) u (expand-curve f pos u) cu refl)
