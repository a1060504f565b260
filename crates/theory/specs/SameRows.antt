-- Where a conversion looks: not at c_1, which multiplies F_{-1} = 0, and at no row after row r.
--   Agree r row row'     the a and b of the first r rows are the same, and the c from row 2 on
--   with_rows f b c row  the family with the modulus and the a of f, with these b and c, closed by this row
-- Proves that if so much of their rows agrees, F_0 to F_r are those of f, and so are Expand, Adjoint and Decompose. Assumes nothing.
use Rattle.std.specs.Prelude.{◌≡◌, List, [], ◌∷◌, ◌++◌}
use Rattle.std.proofs.Math.Path.{refl, ap, ap₂, fun_ext}
use Rattle.std.proofs.Common.{sym, ◌∙◌, arith}
use Prim.Native.Nat.{ℕ, zero, suc, ◌+◌, ◌*◌, ◌%◌, ◌<◌, ◌≤◌}
use Rattle.std.proofs.Math.ListN.{get_or}
use Rattle.definitions.specs.Conversion.{expand, adjoint, top, less_top, decompose_below, decompose}
use Rattle.definitions.specs.Family.{Family, Row, rows, size, row_at, term, F}
use Rattle.definitions.specs.Number.{negative, inverse}
use Rattle.numbers.specs.Lists.{table-equal}
use Rattle.numbers.specs.Sums.{sum-equal}
use Rattle.theory.specs.Bridge.{term-further}

pub record Agree (r : ℕ) (row row' : ℕ → Row) : Type 0 where
  pub same_a : (i : ℕ) → i < r → (row i).a ≡ (row' i).a
  pub same_b : (i : ℕ) → i < r → (row i).b ≡ (row' i).b
  pub same_c : (i : ℕ) → 0 < i → i < r → (row i).c ≡ (row' i).c

module _ (m : ℕ) {r : ℕ} {row row' : ℕ → Row} (agree : Agree r row row') where
  -- F_{-1}, which c_1 multiplies
  none-zero : (row : ℕ → Row) (i : ℕ) → term m row 0 i ≡ 0
  unfolding term
  none-zero row i = refl

  one-equal : (i : ℕ) → term m row 1 i ≡ term m row' 1 i
  unfolding term
  one-equal zero = refl
  one-equal (suc i) = refl

  -- what a row's c multiplies
  older-equal : (k i : ℕ) → k < r → term m row k i ≡ term m row' k i → (row k).c * term m row k i ≡ (row' k).c * term m row' k i
  older-equal zero i h e = rw (none-zero row i, none-zero row' i) (omega arith)
  older-equal (suc k) i h e = ap₂ ◌*◌ (agree.same_c (suc k) (omega arith) h) e

  pub term-equal : (k i : ℕ) → k ≤ suc r → term m row k i ≡ term m row' k i
  term-equal zero i h = none-zero row i ∙ sym (none-zero row' i)
  term-equal (suc zero) i h = one-equal i
  term-equal (suc (suc k)) i h =
      let here : term m row (suc k) ≡ term m row' (suc k) = fun_ext (λ t. term-equal (suc k) t (omega arith)) in
      term-further m row k i
      ∙ rw (agree.same_a k (omega arith), agree.same_b k (omega arith), here, older-equal k i (omega arith) (term-equal k i (omega arith)))
      (sym (term-further m row' k i))

module _ (f : Family) (b c : List ℕ) (close : Row) where
  abbrev pub with_rows : Family
  with_rows = record { m = f.m; a = f.a; b = b; c = c; close = close }

module _ (f : Family) (b c : List ℕ) (close : Row) (agree : Agree (rows f) (row_at (with_rows f b c close)) (row_at f)) where
  abbrev g : Family
  g = with_rows f b c close

  F-same : (j i : ℕ) → j ≤ rows f → F g j i ≡ F f j i
  unfolding F
  F-same j i h = term-equal f.m agree (suc j) i (omega arith)

  pub expand-same : (u : List ℕ) → expand g u ≡ expand f u
  unfolding expand
  expand-same u = table-equal (size f) _ _
      (λ i h. ap (λ s. s % f.m) (sum-equal (size f) _ _ (λ j l. ap (λ t. get_or u j 0 * t) (F-same j i (omega arith)))))

  pub adjoint-same : (u : List ℕ) → adjoint g u ≡ adjoint f u
  unfolding adjoint
  adjoint-same u = table-equal (size f) _ _
      (λ j h. ap (λ s. s % f.m) (sum-equal (size f) _ _ (λ i l. ap (λ t. get_or u i 0 * t) (F-same j i (omega arith)))))

  top-same : (k : ℕ) (p : List ℕ) → k ≤ rows f → top g k p ≡ top f k p
  unfolding top
  top-same k p h = ap (λ x. get_or p k 0 * inverse f.m x % f.m) (F-same k k h)

  less_top-same : (k y : ℕ) (p : List ℕ) → k ≤ rows f → less_top g k y p ≡ less_top f k y p
  unfolding less_top
  less_top-same k y p h = table-equal k _ _ (λ i l. ap (λ x. (get_or p i 0 + negative f.m (y * x)) % f.m) (F-same k i h))

  decompose_below-same : (k : ℕ) (p : List ℕ) → k ≤ size f → decompose_below g k p ≡ decompose_below f k p
  unfolding decompose_below
  decompose_below-same zero p h = refl
  decompose_below-same (suc k) p h = ap₂ (λ s y. s ++ y ∷ []) (decompose_below-same k (less_top g k (top g k p) p) (omega arith)
      ∙ ap (decompose_below f k) (less_top-same k (top g k p) p (omega arith) ∙ ap (λ y. less_top f k y p) (top-same k p (omega arith))))
      (top-same k p (omega arith))

  pub decompose-same : (p : List ℕ) → decompose g p ≡ decompose f p
  unfolding decompose
  decompose-same p = decompose_below-same (size f) p (omega arith)
