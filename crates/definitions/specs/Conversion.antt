-- The three conversions. Lists begin with the lowest index or power.
--   expand f u     the n coefficients of the sum of u_j F_j in powers of x
--   adjoint f u    entry j is the sum over i of u_i times the coefficient of x^i in F_j (transposed expand)
--   decompose f p  the curve that expand turns into p, by back substitution from the top power
-- The scope paper, 'The definitions'. Assumes nothing.
use Rattle.std.specs.Prelude.{List, [], ◌∷◌, ◌++◌, ℕ, zero, suc, ◌+◌, ◌*◌, ◌%◌, get_or}
use Rattle.definitions.specs.Number.{sum, table, negative, inverse}
use Rattle.definitions.specs.Family.{Family, size, F}

unfoldable pub expand : Family → List ℕ → List ℕ
expand f u = table (size f) (λ i. sum (size f) (λ j. get_or u j 0 * F f j i) % f.m)

unfoldable pub adjoint : Family → List ℕ → List ℕ
adjoint f u = table (size f) (λ j. sum (size f) (λ i. get_or u i 0 * F f j i) % f.m)

-- the coefficient of x^k in p divided by that in F_k
unfoldable pub top : Family → ℕ → List ℕ → ℕ
top f k p = get_or p k 0 * inverse f.m (F f k k) % f.m

-- p less y F_k, without its power x^k
unfoldable pub less_top : Family → ℕ → ℕ → List ℕ → List ℕ
less_top f k y p = table k (λ i. (get_or p i 0 + negative f.m (y * F f k i)) % f.m)

-- the entries 0 to k - 1 of the curve of p, which has the powers below x^k
unfoldable pub decompose_below : Family → ℕ → List ℕ → List ℕ
decompose_below f zero p = []
decompose_below f (suc k) p = decompose_below f k (less_top f k (top f k p) p) ++ top f k p ∷ []

unfoldable pub decompose : Family → List ℕ → List ℕ
decompose f p = decompose_below f (size f) p
