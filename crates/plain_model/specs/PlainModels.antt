-- The plain ways, row by row, on lists of numbers: what code is proved equal to, list for list. One remainder for each entry.
--   State                  two lists of n entries: the one just made, and the one before it
--   zeros n                n zeros;  constant y i  the coefficient of x^i in the constant y
--   expand_state f u i     Expand downwards (Clenshaw) after i steps: B_k and B_{k+1} for k = n - i
--   adjoint_state f u j    Adjoint upwards after j rows: W_j and W_{j-1}
--   decompose_state f d p i Decompose (Horner in the basis F) after i steps, the i top powers taken in; d holds the inverses of the a
--   plain_expand, plain_adjoint, plain_decompose  the answers
-- Rows are read as row_at reads them. Where the code has no row to read, that entry multiplies a zero. Proved: every list of a
-- state is a curve. That the answers are Expand, Adjoint and Decompose is in PlainExpand, PlainAdjoint and PlainDecompose.
-- Assumes nothing.
use Rattle.std.specs.Prelude.{◌≡◌, refl, List, get_or, replicate}
use Prim.Native.Nat.{ℕ, zero, suc, ◌+◌, ◌*◌, ◌-◌, ◌%◌, ◌<◌}
use Rattle.std.proofs.Math.Nat.{mod-lt}
use Rattle.std.proofs.lemmas.List.{length-replicate}
use Rattle.definitions.specs.Family.{Family, Curve, rows, size, row_at, times_x}
use Rattle.definitions.specs.Number.{table, negative}
use Rattle.theory.specs.Curves.{table-curve}

pub record State : Type 0 where
  pub current : List ℕ
  pub older : List ℕ

abbrev pub zeros : ℕ → List ℕ
zeros n = replicate n 0

unfoldable pub constant : ℕ → ℕ → ℕ
constant y zero = y
constant y (suc i) = 0

-- ---- Expand: B_k = u_k + (a_{k+1} x + b_{k+1}) B_{k+1} + c_{k+2} B_{k+2}, for k = n - 1 down to 0
unfoldable pub expand_entry : ℕ → ℕ → ℕ → ℕ → ℕ → List ℕ → List ℕ → ℕ → ℕ
expand_entry m y a b c current older i =
    (constant y i + a * times_x (λ j. get_or current j 0) i + b * get_or current i 0 + c * get_or older i 0) % m

unfoldable pub expand_step : Family → List ℕ → ℕ → State → State
expand_step f u k s = record {
  current = table (size f) (expand_entry f.m (get_or u k 0) (row_at f k).a (row_at f k).b (row_at f (suc k)).c s.current s.older);
  older = s.current;
}

unfoldable pub expand_state : Family → List ℕ → ℕ → State
expand_state f u zero = record { current = zeros (size f); older = zeros (size f) }
expand_state f u (suc i) = expand_step f u (rows f - i) (expand_state f u i)

unfoldable pub plain_expand : Family → List ℕ → List ℕ
plain_expand f u = (expand_state f u (size f)).current

-- ---- Adjoint: W_j[t] = a_j W_{j-1}[t+1] + b_j W_{j-1}[t] + c_j W_{j-2}[t]; entry j of the answer is W_j[0]
unfoldable pub adjoint_entry : ℕ → ℕ → ℕ → ℕ → List ℕ → List ℕ → ℕ → ℕ
adjoint_entry m a b c current older t = (a * get_or current (suc t) 0 + b * get_or current t 0 + c * get_or older t 0) % m

unfoldable pub adjoint_step : Family → ℕ → State → State
adjoint_step f j s = record {
  current = table (size f) (adjoint_entry f.m (row_at f j).a (row_at f j).b (row_at f j).c s.current s.older);
  older = s.current;
}

unfoldable pub adjoint_state : Family → List ℕ → ℕ → State
adjoint_state f u zero = record { current = u; older = zeros (size f) }
adjoint_state f u (suc j) = adjoint_step f j (adjoint_state f u j)

unfoldable pub plain_adjoint : Family → List ℕ → List ℕ
plain_adjoint f u = table (size f) (λ j. get_or (adjoint_state f u j).current 0 0)

-- ---- Decompose: the curve of x times w and y more, since x F_i = (F_{i+1} - b_{i+1} F_i - c_{i+1} F_{i-1}) / a_{i+1}
unfoldable pub divide : Family → List ℕ → List ℕ → List ℕ
divide f d w = table (size f) (λ i. get_or w i 0 * get_or d i 0 % f.m)

unfoldable pub decompose_entry : ℕ → ℕ → ℕ → ℕ → List ℕ → ℕ → ℕ
decompose_entry m y b c q i = (constant y i + times_x (λ j. get_or q j 0) i + negative m b * get_or q i 0 + negative m c * get_or q (suc i) 0) % m

unfoldable pub decompose_step : Family → ℕ → List ℕ → List ℕ
decompose_step f y q = table (size f) (λ i. decompose_entry f.m y (row_at f i).b (row_at f (suc i)).c q i)

unfoldable pub decompose_state : Family → List ℕ → List ℕ → ℕ → List ℕ
decompose_state f d p zero = zeros (size f)
decompose_state f d p (suc i) = decompose_step f (get_or p (rows f - i) 0) (divide f d (decompose_state f d p i))

unfoldable pub plain_decompose : Family → List ℕ → List ℕ → List ℕ
plain_decompose f d p = decompose_state f d p (size f)

-- ---- every list is a curve
pub zeros-entry : (n i : ℕ) → ◌≡◌ {A = ℕ} (get_or (zeros n) i 0) 0
zeros-entry zero i = refl
zeros-entry (suc n) zero = refl
zeros-entry (suc n) (suc i) = zeros-entry n i

pub record CurveState (f : Family) (s : State) : Type 0 where
  pub current_curve : Curve f s.current
  pub older_curve : Curve f s.older

module _ (f : Family) (pos : 0 < f.m) where
  zeros-curve : Curve f (zeros (size f))
  zeros-curve = record { long = length-replicate (size f) 0; below = λ i h. rw (zeros-entry (size f) i) pos }

  pub expand_state-curves : (u : List ℕ) (i : ℕ) → CurveState f (expand_state f u i)
  unfolding expand_state expand_step expand_entry
  expand_state-curves u zero = record { current_curve = zeros-curve; older_curve = zeros-curve }
  expand_state-curves u (suc i) =
      record { current_curve = table-curve f _ (λ i h. mod-lt _ pos); older_curve = (expand_state-curves u i).current_curve }

  pub adjoint_state-curves : (u : List ℕ) → Curve f u → (j : ℕ) → CurveState f (adjoint_state f u j)
  unfolding adjoint_state adjoint_step adjoint_entry
  adjoint_state-curves u cu zero = record { current_curve = cu; older_curve = zeros-curve }
  adjoint_state-curves u cu (suc j) =
      record { current_curve = table-curve f _ (λ i h. mod-lt _ pos); older_curve = (adjoint_state-curves u cu j).current_curve }

  pub decompose_step-curve : (y : ℕ) (q : List ℕ) → Curve f (decompose_step f y q)
  unfolding decompose_step decompose_entry
  decompose_step-curve y q = table-curve f _ (λ i h. mod-lt _ pos)

  pub decompose_state-curve : (d p : List ℕ) (i : ℕ) → Curve f (decompose_state f d p i)
  unfolding decompose_state
  decompose_state-curve d p zero = zeros-curve
  decompose_state-curve d p (suc i) = decompose_step-curve (get_or p (rows f - i) 0) (divide f d (decompose_state f d p i))
