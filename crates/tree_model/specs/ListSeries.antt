-- A list of numbers as a power series over the residues modulo m: its coefficients, and zeros past its end.
--   series m pos xs   the series of the list xs
-- Proved: its coefficients, the series of a list with one number more in front and of a table, and that the lists of `Products` are
-- the sums and products that they are named after, where they are long enough to hold them. Assumes nothing.
use Rattle.std.specs.Prelude.{◌≡◌, List, [], ◌∷◌, ℕ, suc, ◌<◌, ◌≤◌, ◌%◌, ◌+◌ as ◌+ℕ◌, ◌-◌ as ◌-ℕ◌, get_or}
use Rattle.std.proofs.Math.Path.{sym, ap}
use Rattle.std.proofs.Common.{◌∙◌, ap₂, arith}
use Rattle.std.proofs.Math.Decide.{dec_lt}
use Rattle.std.proofs.Math.ListN.{length}
use Rattle.algebra.specs.Residues.{Zmod, res, res-zero, res-add, res-mul, res-mod}
use Rattle.algebra.specs.Ring
use Rattle.algebra.specs.Ring.{CommRing}
use Rattle.algebra.specs.Series.{Ser, gen, co, co-gen, co-zero, co-add, co-mul-sum, ser-ext}
use Rattle.algebra.specs.Solver.{ring, reify}
use Rattle.algebra.specs.Sum.{sum-vanish}
use Rattle.algebra.specs.Variable.{C, X, C-zero, ser-cons}
use Rattle.definitions.specs.Number.{table}
use Rattle.numbers.specs.Lists.{table-entry, table-past}
use Rattle.numbers.specs.Products.{product_at, plus_product, plus_products}
use Rattle.numbers.specs.Residue.{residue-sum}
use Rattle.theory.specs.Bridge.{entries, entries-past}

module _ (m : ℕ) (pos : 0 < m) where
  abbrev R : CommRing
  R = Zmod m pos

  abbrev A : CommRing
  A = Ser R

  open R use {Car, zero as 𝟘, add as ◌⊕◌, mul as ◌⊗◌}
  open A use {Car as Series, zero as 0#, add as ◌+◌, mul as ◌*◌}

  infixl 65 ◌⊕◌ ◌+◌
  infixl 70 ◌⊗◌ ◌*◌
  abbrev ι : ℕ → Car
  ι = res m pos

  abbrev E : List ℕ → ℕ → Car
  E = entries m pos

  pub series : List ℕ → Series
  series xs = gen R (E xs)

  pub co-series : (xs : List ℕ) (i : ℕ) → co R (series xs) i ≡ E xs i
  unfolding series
  co-series xs i = co-gen R (E xs) i

  pub series-nil : series [] ≡ 0#
  series-nil = ser-ext R (λ i. co-series [] i ∙ res-zero m pos ∙ sym (co-zero R i))

  pub series-cons : (x : ℕ) (xs : List ℕ) → series (x ∷ xs) ≡ C R (ι x) + X R * series xs
  unfolding series
  series-cons x xs = ser-cons R (E (x ∷ xs))

  pub series-one : (x : ℕ) → series (x ∷ []) ≡ C R (ι x)
  series-one x = series-cons x [] ∙ ap (λ s. C R (ι x) + X R * s) series-nil ∙ ring A (C R (ι x) ∷ X R ∷ []) (search reify depth 20) tt

  pub series-one-zero : (x : ℕ) → series (x ∷ 0 ∷ []) ≡ C R (ι x)
  series-one-zero x = series-cons x (0 ∷ []) ∙ ap (λ s. C R (ι x) + X R * s) (series-one 0 ∙ ap (C R) (res-zero m pos) ∙ C-zero R)
      ∙ ring A (C R (ι x) ∷ X R ∷ []) (search reify depth 20) tt

  -- ---- tables
  pub series-table : (n : ℕ) (f : ℕ → ℕ) (s : Series) → ((k : ℕ) → k < n → ι (f k) ≡ co R s k) → ((k : ℕ) → n ≤ k → co R s k ≡ 𝟘)
      → series (table n f) ≡ s
  series-table n f s inside past = ser-ext R (λ k. co-series (table n f) k ∙ at k (dec_lt k n))
    where
      at : (k : ℕ) → Dec (k < n) → E (table n f) k ≡ co R s k
      at k (yes h) = ap ι (table-entry n f k 0 h) ∙ inside k h
      at k (no h) = ap ι (table-past n f k 0 (omega arith)) ∙ res-zero m pos ∙ sym (past k (omega arith))

  -- ---- products
  pub co-product : (p q : List ℕ) (k : ℕ) → co R (series p * series q) k ≡ ι (product_at p q k)
  unfolding product_at
  co-product p q k = co-mul-sum R (series p) (series q) k ∙ sym (simp (residue-sum m pos, res-mul m pos, co-series))

  product-past : (p q : List ℕ) (k : ℕ) → length p +ℕ length q ≤ suc k → ι (product_at p q k) ≡ 𝟘
  unfolding product_at
  product-past p q k h = simp (residue-sum m pos, res-mul m pos) (sum-vanish R (suc k) (λ i _. at i (dec_lt i (length p))))
    where
      at : (i : ℕ) → Dec (i < length p) → E p i ⊗ E q (k -ℕ i) ≡ 𝟘
      at i (yes l) = ap (λ t. E p i ⊗ t) (entries-past m pos q (k -ℕ i) (omega arith)) ∙ Ring.mul-zero R (E p i)
      at i (no l) = ap (λ t. t ⊗ E q (k -ℕ i)) (entries-past m pos p i (omega arith)) ∙ Ring.zero-mul R (E q (k -ℕ i))

  pub series-plus_products : (n : ℕ) (t p q r s : List ℕ) → length t ≤ n → length p +ℕ length q ≤ suc n → length r +ℕ length s ≤ suc n
      → series (plus_products m n t p q r s) ≡ series t + series p * series q + series r * series s
  unfolding plus_products
  series-plus_products n t p q r s ht hp hr = series-table n _ (series t + series p * series q + series r * series s) inside past
    where
      inside : (k : ℕ) → k < n → ι ((get_or t k 0 +ℕ product_at p q k +ℕ product_at r s k) % m)
          ≡ co R (series t + series p * series q + series r * series s) k
      inside k h = simp (res-mod m pos, res-add m pos, co-add R, co-series, co-product)

      past : (k : ℕ) → n ≤ k → co R (series t + series p * series q + series r * series s) k ≡ 𝟘
      past k h = simp (co-add R, co-series, co-product)
          (ap₂ ◌⊕◌ (ap₂ ◌⊕◌ (entries-past m pos t k (omega arith)) (product-past p q k (omega arith)))
          (product-past r s k (omega arith)) ∙ ring R [] (search reify depth 20) tt)

  pub series-products : (n : ℕ) (p q r s : List ℕ) → length p +ℕ length q ≤ suc n → length r +ℕ length s ≤ suc n
      → series (plus_products m n [] p q r s) ≡ series p * series q + series r * series s
  series-products n p q r s hp hr = series-plus_products n [] p q r s (omega arith) hp hr
      ∙ ap (λ t. t + series p * series q + series r * series s) series-nil
      ∙ ring A (series p ∷ series q ∷ series r ∷ series s ∷ []) (search reify depth 20) tt

  -- the coefficients that a list cut short still holds
  pub co-plus_product : (n : ℕ) (t p q : List ℕ) (k : ℕ) → k < n → E (plus_product m n t p q) k ≡ co R (series t + series p * series q) k
  unfolding plus_product
  co-plus_product n t p q k h = ap ι (table-entry n _ k 0 h) ∙ simp (res-mod m pos, res-add m pos, co-add R, co-series, co-product)
