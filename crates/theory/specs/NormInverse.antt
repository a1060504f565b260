-- The inverses that the moments, and Decompose by the moments, divide by: products of numbers that are at hand.
--   signed_inverse m w i   (-1)^i w_1 .. w_i: for the inverses w of the c, the inverse of (-1)^i c_2 .. c_{i+1}
-- Proved: that it is this inverse, and that a_{i+1} times it is the inverse of norm i; that the running product of the inverses of
-- the a is the inverse of the leading coefficient of F_k. The rows are counted from place 0, as `row_at` does. Assumes nothing.
use Rattle.std.specs.Prelude.{◌≡◌, [], ◌∷◌}
use Rattle.std.proofs.Common.{sym, ◌∙◌, mod-lt, mod-eq_of_lt, arith}
use Rattle.std.proofs.Math.Path.{ap}
use Prim.Native.Nat.{ℕ, zero, suc, ◌*◌, ◌%◌, ◌<◌, ◌≤◌}
use Rattle.algebra.specs.Product.{product, product-empty, product-last}
use Rattle.algebra.specs.Residues.{Zmod, res, res_one, res-mul, res-mod, mod-of-res}
use Rattle.algebra.specs.Ring.{CommRing}
use Rattle.algebra.specs.Solver.{linear, scaled, both, reify}
use Rattle.definitions.specs.Family.{Family, row_at, F}
use Rattle.definitions.specs.Number.{negative, HasInverse, inverse}
use Rattle.definitions.specs.Orthogonality.{signed_product, norm}
use Rattle.numbers.specs.Inverse.{inverse-unique}
use Rattle.numbers.specs.Residue.{residue-negative, residue-product-one, residue-inverse}
use Rattle.numbers.specs.RunningProduct.{running_product}
use Rattle.theory.specs.RoundTrip.{leading-product}

unfoldable pub signed_inverse : ℕ → (ℕ → ℕ) → ℕ → ℕ
signed_inverse m w zero = 1
signed_inverse m w (suc i) = signed_inverse m w i * negative m (w (suc i)) % m

module _ (f : Family) (two : 2 ≤ f.m) where
  abbrev m : ℕ
  m = f.m

  abbrev pos : 0 < m
  pos = omega arith

  abbrev Q : CommRing
  Q = Zmod m pos

  open Q use {Car, one as 𝟙, mul as ◌⊗◌, neg as ⊖◌}

  infixl 70 ◌⊗◌
  infix 75 ⊖◌
  abbrev ι : ℕ → Q.Car
  ι = res m pos

  -- two numbers whose residues are inverse to one another
  product-one : (x y : ℕ) → ι x ⊗ ι y ≡ 𝟙 → x * y % m ≡ 1
  product-one x y e = mod-of-res m pos (x * y) 1 (res-mul m pos x y ∙ e ∙ sym (res_one m pos)) ∙ mod-eq_of_lt two

  inverses-multiply : (p x q y : Car) → p ⊗ q ≡ 𝟙 → x ⊗ y ≡ 𝟙 → p ⊗ x ⊗ (q ⊗ y) ≡ 𝟙
  inverses-multiply p x q y d e =
      linear Q (p ∷ x ∷ q ∷ y ∷ []) (both Q (scaled Q (x ⊗ y) d) (scaled Q 𝟙 e)) (search reify depth 20) tt

  -- ---- a_1 .. a_k
  module _ (v : ℕ → ℕ) where
    leading-residue : (k : ℕ) → ((i : ℕ) → i < k → (row_at f i).a * v i % m ≡ 1)
        → product Q k (λ i. ι (row_at f i).a) ⊗ ι (running_product m v k) ≡ 𝟙
    unfolding running_product
    leading-residue zero h = rw (product-empty Q, res_one m pos) (Q.mul-one 𝟙)
    leading-residue (suc k) h =
        ap (λ t. t ⊗ ι (running_product m v k * v k % m)) (product-last Q k (λ i. ι (row_at f i).a))
        ∙ simp (res-mod m pos, res-mul m pos)
        (inverses-multiply (product Q k (λ i. ι (row_at f i).a)) (ι (row_at f k).a) (ι (running_product m v k)) (ι (v k))
        (leading-residue k (λ i l. h i (omega arith))) (residue-product-one m pos (row_at f k).a (v k) (h k (omega arith))))

    pub leading-inverse : (k : ℕ) → ((i : ℕ) → i < k → (row_at f i).a * v i % m ≡ 1) → F f k k * running_product m v k % m ≡ 1
    leading-inverse k h = product-one (F f k k) (running_product m v k)
        (ap (λ t. t ⊗ ι (running_product m v k)) (leading-product f pos k) ∙ leading-residue k h)

  -- ---- the norms
  module _ (w : ℕ → ℕ) where
    signed-residue : (i : ℕ) → ((j : ℕ) → j < i → (row_at f (suc j)).c * w (suc j) % m ≡ 1)
        → ι (signed_product f i) ⊗ ι (signed_inverse m w i) ≡ 𝟙
    unfolding signed_product signed_inverse
    signed-residue zero h = rw (res_one m pos) (Q.mul-one 𝟙)
    signed-residue (suc i) h =
        simp (res-mod m pos, res-mul m pos, residue-negative m pos)
        (step (ι (signed_product f i)) (ι (row_at f (suc i)).c) (ι (signed_inverse m w i)) (ι (w (suc i)))
        (signed-residue i (λ j l. h j (omega arith))) (residue-product-one m pos (row_at f (suc i)).c (w (suc i)) (h i (omega arith))))
      where
        step : (p x q y : Car) → p ⊗ q ≡ 𝟙 → x ⊗ y ≡ 𝟙 → p ⊗ ⊖ x ⊗ (q ⊗ ⊖ y) ≡ 𝟙
        step p x q y d e = linear Q (p ∷ x ∷ q ∷ y ∷ []) (both Q (scaled Q (x ⊗ y) d) (scaled Q 𝟙 e)) (search reify depth 20) tt

    pub norm-inverse : (i : ℕ) → HasInverse m (row_at f i).a → ((j : ℕ) → j < i → (row_at f (suc j)).c * w (suc j) % m ≡ 1)
        → signed_inverse m w i * (row_at f i).a % m ≡ inverse m (norm f i)
    unfolding norm
    norm-inverse i u h = inverse-unique m (norm f i) (signed_inverse m w i * (row_at f i).a % m) two (mod-lt _ pos)
        (product-one (norm f i) (signed_inverse m w i * (row_at f i).a % m)
        (simp (res-mod m pos, res-mul m pos)
        (inverses-multiply (ι (signed_product f i)) (ι (inverse m (row_at f i).a)) (ι (signed_inverse m w i)) (ι (row_at f i).a)
        (signed-residue i h) (Q.mul_comm _ _ ∙ residue-inverse m pos (row_at f i).a u))))
