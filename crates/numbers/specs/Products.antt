-- The two products of lists that the tree is worked with. A list holds coefficients, the lowest power first, zero past its end.
--   product_at p q k             the coefficient of x^k in p q
--   plus_product m n t p q       the n first coefficients of t + p q
--   plus_products m n t p q r s  those of t + p q + r s
--   transposed_at p w i          the sum over j of p_j w_{i+j}, zero past the end of w
--   transposed m n p w           its terms i = 0 to n - 1: the transposed product of w with p (the report's mul^t)
--   transposed_sum m n p v q w   the sum of two of them
--   Below m xs                   every entry of xs is below m
-- Each entry is one remainder modulo m. Proved: lengths, and entries below m. The report, section 2. Assumes nothing.
use Rattle.std.specs.Prelude.{◌≡◌, List, ℕ, suc, ◌+◌, ◌*◌, ◌-◌, ◌%◌, ◌<◌, length, get_or}
use Rattle.std.proofs.Math.Nat.{mod-lt}
use Rattle.std.proofs.Math.Decide.{dec_lt}
use Rattle.std.proofs.Common.{arith}
use Rattle.definitions.specs.Number.{sum, table}
use Rattle.numbers.specs.Lists.{table-length, table-entry, table-past}

unfoldable pub product_at : List ℕ → List ℕ → ℕ → ℕ
product_at p q k = sum (suc k) (λ i. get_or p i 0 * get_or q (k - i) 0)

unfoldable pub plus_product : ℕ → ℕ → List ℕ → List ℕ → List ℕ → List ℕ
plus_product m n t p q = table n (λ k. (get_or t k 0 + product_at p q k) % m)

unfoldable pub plus_products : ℕ → ℕ → List ℕ → List ℕ → List ℕ → List ℕ → List ℕ → List ℕ
plus_products m n t p q r s = table n (λ k. (get_or t k 0 + product_at p q k + product_at r s k) % m)

unfoldable pub transposed_at : List ℕ → List ℕ → ℕ → ℕ
transposed_at p w i = sum (length p) (λ j. get_or p j 0 * get_or w (i + j) 0)

unfoldable pub transposed : ℕ → ℕ → List ℕ → List ℕ → List ℕ
transposed m n p w = table n (λ i. transposed_at p w i % m)

unfoldable pub transposed_sum : ℕ → ℕ → List ℕ → List ℕ → List ℕ → List ℕ → List ℕ
transposed_sum m n p v q w = table n (λ i. (transposed_at p v i + transposed_at q w i) % m)

-- ---- every entry, those past the end too, is below m
abbrev pub Below : ℕ → List ℕ → Type 0
Below m xs = (i : ℕ) → get_or xs i 0 < m

pub table-all-below : (m n : ℕ) (f : ℕ → ℕ) → 0 < m → ((i : ℕ) → i < n → f i < m) → Below m (table n f)
table-all-below m n f pos below i = at (dec_lt i n)
  where
    at : Dec (i < n) → get_or (table n f) i 0 < m
    at (yes h) = rw (table-entry n f i 0 h) (below i h)
    at (no h) = rw (table-past n f i 0 (omega arith)) pos

module _ (m n : ℕ) where
  pub plus_product-length : (t p q : List ℕ) → length (plus_product m n t p q) ≡ n
  unfolding plus_product
  plus_product-length t p q = table-length n _

  pub plus_products-length : (t p q r s : List ℕ) → length (plus_products m n t p q r s) ≡ n
  unfolding plus_products
  plus_products-length t p q r s = table-length n _

  pub transposed-length : (p w : List ℕ) → length (transposed m n p w) ≡ n
  unfolding transposed
  transposed-length p w = table-length n _

  pub transposed_sum-length : (p v q w : List ℕ) → length (transposed_sum m n p v q w) ≡ n
  unfolding transposed_sum
  transposed_sum-length p v q w = table-length n _

  pub plus_product-below : 0 < m → (t p q : List ℕ) → Below m (plus_product m n t p q)
  unfolding plus_product
  plus_product-below pos t p q = table-all-below m n _ pos (λ i h. mod-lt _ pos)

  pub plus_products-below : 0 < m → (t p q r s : List ℕ) → Below m (plus_products m n t p q r s)
  unfolding plus_products
  plus_products-below pos t p q r s = table-all-below m n _ pos (λ i h. mod-lt _ pos)

  pub transposed-below : 0 < m → (p w : List ℕ) → Below m (transposed m n p w)
  unfolding transposed
  transposed-below pos p w = table-all-below m n _ pos (λ i h. mod-lt _ pos)

  pub transposed_sum-below : 0 < m → (p v q w : List ℕ) → Below m (transposed_sum m n p v q w)
  unfolding transposed_sum
  transposed_sum-below pos p v q w = table-all-below m n _ pos (λ i h. mod-lt _ pos)
