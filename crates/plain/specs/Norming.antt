-- The norms, from the inverses of the a: one product of the c, with alternating sign, is carried along.
--   signed_to m c close i           (-1)^i c_2 .. c_{i+1}, where close stands past the end of c
--   norm_by m v c inverse close i   the same times the inverse of a_{i+1}, which is inverse past the end of v
--   Norming                         the first i norms are written, and the product is up to there
-- Proved: these are the norms of every family that has these c and inverses of the a; how the loop starts, goes on and ends.
-- Assumes nothing.
use Rattle.std.specs.Prelude.{◌≡◌, List, ◌++◌, get_or, set, take}
use Rattle.std.proofs.Math.Path.{refl, sym, ap, ap₂}
use Rattle.std.proofs.Common.{◌∙◌, add-one, length-take-le}
use Prim.Native.Nat.{ℕ, zero, suc, ◌+◌, ◌*◌, ◌-◌, ◌%◌, ◌≤◌, ◌<◌}
use Rattle.std.proofs.Math.Nat.{mod-lt}
use native.Mathlib.Omega.{arith}
use Rattle.std.proofs.Math.ListN.{drop}
use Rattle.algebra.specs.Residues.{mul-mod-mod}
use Rattle.definitions.specs.Family.{Family, row_of, size, row_at}
use Rattle.definitions.specs.Number.{table, negative, inverse}
use Rattle.definitions.specs.Orthogonality.{signed_product, norm, norms}
use Rattle.numbers.specs.Inverse.{inverse-unique}
use Rattle.numbers.specs.Lists.{Filling, table-equal, filled, filling-start, filling-next, filling-stop}
use Rattle.lists.specs.Inverses.{Inverts, inverts-long, inverts-at}
use Rattle.lists.specs.Lent.{lent}
use Rattle.plain.specs.Input.{NormsCoreInput}

unfoldable pub signed_to : ℕ → List ℕ → ℕ → ℕ → ℕ
signed_to m c close zero = 1
signed_to m c close (suc i) = signed_to m c close i * negative m (get_or c (suc i) close) % m

unfoldable pub norm_by : ℕ → List ℕ → List ℕ → ℕ → ℕ → ℕ → ℕ
norm_by m v c inverse close i = signed_to m c close i * get_or v i inverse % m

-- ---- these are the norms
module _ (m n : ℕ) (a b c v : List ℕ) (close_a close_b close_c y : ℕ) (pos : 0 < m) (h : Inverts m 0 (n - 1) a v close_a y) where
  abbrev f : Family
  f = lent m (n - 1) a b c (row_of close_a close_b close_c)

  signed_to-product : (i : ℕ) → signed_to m (take (n - 1) c) close_c i ≡ signed_product f i
  unfolding signed_to signed_product row_at
  signed_to-product zero = refl
  signed_to-product (suc i) = ap (λ s. s * negative m (get_or (take (n - 1) c) (suc i) close_c) % m) (signed_to-product i)

  inverse-at : (i : ℕ) → get_or (take (n - 1) v) i y % m ≡ inverse m (row_at f i).a
  unfolding row_at
  inverse-at i =
      let two : 1 < m = omega (arith, h.closes (omega arith), mod-lt (close_a * y) pos) in
      inverse-unique m _ (get_or (take (n - 1) v) i y % m) two (mod-lt _ pos)
      (mul-mod-mod (get_or (take (n - 1) a) i close_a) (get_or (take (n - 1) v) i y) m
      ∙ inverts-at h (inverts-long h) (omega arith) i (omega arith))

  norm_by-norm : (i : ℕ) → norm_by m (take (n - 1) v) (take (n - 1) c) y close_c i ≡ norm f i
  unfolding norm_by norm
  norm_by-norm i = sym (mul-mod-mod (signed_to m (take (n - 1) c) close_c i) (get_or (take (n - 1) v) i y) m)
      ∙ ap₂ (λ s t. s * t % m) (signed_to-product i) (inverse-at i)

  norms-by : 1 ≤ n → table n (norm_by m (take (n - 1) v) (take (n - 1) c) y close_c) ≡ norms f
  unfolding norms
  norms-by some =
      let sized : size f ≡ n = ap suc (length-take-le (n - 1) a (inverts-long h)) ∙ omega arith in
      ap (λ k. table k (norm_by m (take (n - 1) v) (take (n - 1) c) y close_c)) (sym sized) ∙ table-equal (size f) _ _ (λ i l. norm_by-norm i)

-- ---- the loop
pub record Norming (m n : ℕ) (v c : List ℕ) (y close : ℕ) (output₀ output : List ℕ) (signed i : ℕ) : Type 0 where
  pub reached : i ≤ n
  pub signed_is : signed ≡ signed_to m (take (n - 1) c) close i
  pub written : Filling (norm_by m (take (n - 1) v) (take (n - 1) c) y close) i output₀ output

module _ {m n : ℕ} {v c output₀ : List ℕ} {y close : ℕ} where
  pub norming-starts : Norming m n v c y close output₀ output₀ 1 0
  unfolding signed_to
  norming-starts = record { reached = omega arith; signed_is = refl; written = filling-start }

  module _ (input : NormsCoreInput m v c n output₀) where
    pub norming-next : {output : List ℕ} {signed i p q r s t : ℕ} → i < n → Norming m n v c y close output₀ output signed i
        → p ≡ get_or (take (n - 1) v) i y → q ≡ signed * p % m
        → r ≡ get_or (take (n - 1) c) (i + 1) close → s ≡ negative m r → t ≡ signed * s % m
        → Norming m n v c y close output₀ (set output i q) t (i + 1)
    unfolding signed_to norm_by
    norming-next {i = i} l h p q r s t = record {
      reached = omega arith;
      signed_is = t ∙ rw (s, r, h.signed_is, add-one);
      written = filling-next h.written (omega (arith, input.output_long)) (q ∙ rw (p, h.signed_is));
    }

    pub norming-ends : {output : List ℕ} {signed i : ℕ} → n ≤ i → Norming m n v c y close output₀ output signed i
        → (a b : List ℕ) (close_a close_b : ℕ) → Inverts m 0 (n - 1) a v close_a y
        → output ≡ norms (lent m (n - 1) a b c (row_of close_a close_b close)) ++ drop n output₀
    unfolding filled
    norming-ends l h a b close_a close_b inverts = filling-stop h.written n (omega arith)
        ∙ ap (λ s. s ++ drop n output₀) (norms-by m n a b c v close_a close_b close y input.positive inverts input.least)
