-- The sum of the coefficient of x^k in start + p q + r s.
--   ProductsInput   what it is taken of: residues, and lists of equal lengths side by side
--   Multiplying     the sum in progress: of the terms i from first to end - 1, where p_i and q_{k-i} both reach, the first t
-- Proved: where a product has no term; the entries of two lists settle a coefficient of their product; the product with the polynomial 1;
-- that two products fit 64 bits. How the sum begins, goes on and ends with the coefficient stands in Coefficients of proofs/.
-- Assumes nothing.
use Rattle.std.specs.Prelude.{◌≡◌, ℕ, zero, suc, ◌+◌, ◌-◌, ◌*◌, ◌<◌, ◌≤◌, List, [], ◌∷◌, length, slice_index, refl}
use Rattle.std.proofs.Math.Path.{ap}
use Rattle.std.proofs.Common.{◌∙◌, ap₂, mul-one, mul-zero, zero-add, zero-mul, arith}
use Rattle.std.proofs.Math.Decide.{dec_lt}
use Rattle.std.proofs.Math.ListN.{get_or-eq_default}
use Rattle.definitions.specs.Number.{sum}
use Rattle.numbers.specs.Products.{Below, product_at}
use Rattle.numbers.specs.Sums.{sum-equal, sum-zero}
use Rattle.definitions.specs.Family.{greatest_modulus}
use Rattle.convolution.specs.Totals.{Lesser, SmallNumbers, Totalling}

abbrev product_term : List ℕ → List ℕ → ℕ → ℕ → ℕ
product_term p q k i = slice_index p i * slice_index q (k - i)

-- past an end there is no term
pub past_first : (p q : List ℕ) (k i : ℕ) → length p ≤ i → slice_index p i * slice_index q k ≡ 0
past_first p q k i h = ap (λ x. x * slice_index q k) (get_or-eq_default p 0 {n = i} h) ∙ zero-mul (slice_index q k)

pub past-second : (p q : List ℕ) (k i : ℕ) → length q ≤ k → slice_index p i * slice_index q k ≡ 0
past-second p q k i h = ap (λ x. slice_index p i * x) (get_or-eq_default q 0 {n = k} h) ∙ mul-zero (slice_index p i)

pub small : {m x y u v : ℕ} → m ≤ 2147483647 → x < m → y < m → u < m → v < m → SmallNumbers x y u v
small h p q r s = record { x_small = omega arith; y_small = omega arith; u_small = omega arith; v_small = omega arith }

-- ---- a coefficient of a product: its entries settle it
pub product-past : (p q : List ℕ) (k : ℕ) → length p + length q ≤ k → product_at p q k ≡ 0
unfolding product_at
product-past p q k h = sum-zero (suc k) (product_term p q k) (λ i l. none i (dec_lt i (length p)))
  where
    none : (i : ℕ) → Dec (i < length p) → product_term p q k i ≡ 0
    none i (yes g) = past-second p q (k - i) i (omega arith)
    none i (no g) = past_first p q (k - i) i (omega arith)

pub product-entries : (p p' q q' : List ℕ) (k : ℕ) → ((i : ℕ) → slice_index p i ≡ slice_index p' i) → ((i : ℕ) → slice_index q i ≡ slice_index q' i)
    → product_at p q k ≡ product_at p' q' k
unfolding product_at
product-entries p p' q q' k e d = sum-equal (suc k) _ _ (λ i _. ap₂ ◌*◌ (e i) (d (k - i)))

-- the product with the polynomial 1
pub product-one : (p : List ℕ) (k : ℕ) → product_at p (1 ∷ 0 ∷ []) k ≡ slice_index p k
unfolding product_at sum
product-one p k =
    ap₂ ◌+◌ (sum-zero k _ before) last ∙ zero-add (slice_index p k)
  where
    none : (j : ℕ) → 0 < j → ◌≡◌ {A = ℕ} (slice_index (1 ∷ 0 ∷ []) j) 0
    none zero h = absurd (omega arith)
    none (suc zero) h = refl
    none (suc (suc j)) h = refl

    before : (i : ℕ) → i < k → product_term p (1 ∷ 0 ∷ []) k i ≡ 0
    before i l = ap (λ x. slice_index p i * x) (none (k - i) (omega arith)) ∙ mul-zero (slice_index p i)

    here : k - k ≡ 0
    here = omega arith

    last : product_term p (1 ∷ 0 ∷ []) k k ≡ slice_index p k
    last = ap (λ j. slice_index p k * slice_index (1 ∷ 0 ∷ []) j) here ∙ mul-one (slice_index p k)

-- ---- two products
pub record ProductsInput (m start : ℕ) (p q r s : List ℕ) (k : ℕ) : Type 0 where
  pub most : m ≤ greatest_modulus
  pub start_below : start < m
  pub p_below : Below m p
  pub q_below : Below m q
  pub r_below : Below m r
  pub s_below : Below m s
  pub r_long : length r ≡ length p
  pub s_long : length s ≡ length q
  pub reached : k < length p + length q

abbrev products_term : List ℕ → List ℕ → List ℕ → List ℕ → ℕ → ℕ → ℕ
products_term p q r s k i = product_term p q k i + product_term r s k i

-- of the count of terms, from first on, t are in
pub record Multiplying (start : ℕ) (p q r s : List ℕ) (k first end count t low wraps : ℕ) : Type 0 where
  pub begins : first ≡ k + 1 - length q
  pub ends : Lesser (k + 1) (length p) end
  pub counted : count ≡ end - first
  pub total : Totalling 0 start first end (products_term p q r s k) (first + t) low wraps
