-- Moments, norms and the product law (demand 3).
--   reversal k p        rev(P, k) = x^(k-1) P(1/x): the k coefficients of P below x^k, the highest first
--   quotient m g d k    the k first coefficients of the power series g / d
--   moments f           the 2n - 1 first coefficients of rev(G_{n-1}, n) / rev(F_n, n + 1)
--   norms f             d_i = (-1)^i c_2 .. c_{i+1} / a_{i+1}, for i from 0 to n - 1
--   product n s t k     coefficient k of the uncut product of two lists of n numbers
--   ProductLaw          the product law over the lists that it speaks of
-- The scope paper, 'The definitions'. Assumes nothing.
use Rattle.std.specs.Prelude.{◌≡◌, true, false, List, [], ◌∷◌, ◌++◌, ℕ, zero, suc, ◌+◌, ◌*◌, ◌-◌, ◌%◌, ◌<◌, eqb, get_or}
use Rattle.definitions.specs.Number.{sum, table, negative, HasInverse, inverse}
use Rattle.definitions.specs.Family.{Family, rows, size, row_at, F, G}

unfoldable pub reversal : ℕ → (ℕ → ℕ) → List ℕ
reversal zero p = []
reversal (suc k) p = p k ∷ reversal k p

-- coefficient k of g / d from the k before it: what q d lacks of g at x^k, divided by d_0
unfoldable pub next_quotient : ℕ → List ℕ → List ℕ → ℕ → List ℕ → ℕ
next_quotient m g d k q = (get_or g k 0 + negative m (sum k (λ j. get_or q j 0 * get_or d (k - j) 0))) * inverse m (get_or d 0 0) % m

unfoldable pub quotient : ℕ → List ℕ → List ℕ → ℕ → List ℕ
quotient m g d zero = []
quotient m g d (suc k) = quotient m g d k ++ next_quotient m g d k (quotient m g d k) ∷ []

abbrev pub moment_count : Family → ℕ
moment_count f = 2 * size f - 1

unfoldable pub moments : Family → List ℕ
moments f = quotient f.m (reversal (size f) (G f (rows f))) (reversal (suc (size f)) (F f (size f))) (moment_count f)

-- (-1)^i c_2 .. c_{i+1}
unfoldable pub signed_product : Family → ℕ → ℕ
signed_product f zero = 1
signed_product f (suc i) = signed_product f i * negative f.m (row_at f (suc i)).c % f.m

unfoldable pub norm : Family → ℕ → ℕ
norm f i = signed_product f i * inverse f.m (row_at f i).a % f.m

unfoldable pub norms : Family → List ℕ
norms f = table (size f) (norm f)

-- the sum of s_i t_j over all i and j below n with i + j = k
unfoldable pub product : ℕ → List ℕ → List ℕ → ℕ → ℕ
product n s t k = sum n (λ i. sum n (λ j. elim (eqb (i + j) k) [ true ↦ get_or s i 0 * get_or t j 0 | false ↦ 0 ]))

-- the product of s and t weighed with the moments, and the product of u and v weighed with the norms, entry by entry
unfoldable pub moment_total : ℕ → ℕ → List ℕ → List ℕ → List ℕ → ℕ
moment_total m n s t moment = sum (2 * n - 1) (λ k. product n s t k * get_or moment k 0) % m

unfoldable pub norm_total : ℕ → ℕ → List ℕ → List ℕ → List ℕ → ℕ
norm_total m n u v d = sum n (λ i. get_or u i 0 * get_or v i 0 * get_or d i 0) % m

-- u and v are curves, s and t what Expand hands out for them, moment and d what Moments and Norms hand out
pub record ProductLaw (f : Family) (u v s t moment d : List ℕ) : Type 0 where
  pub equal : moment_total f.m (size f) s t moment ≡ norm_total f.m (size f) u v d
  pub inverses : (i : ℕ) → i < size f → HasInverse f.m (get_or d i 0)
