-- The totals of the product law, summed term by term with one remainder each.
--   row_total m n t moment i  the n first entries of t, weighed with the moments from i on
--   RowTotalInput             what the total of a row assumes of the lists that it is lent
--   MomentTotalInput          what the moments' total assumes
--   NormTotalInput            what the norms' total assumes
--   Totalling m n f total k   total is the sum of the k first terms f modulo m, and k has not passed n
-- Proved: how such a loop starts, goes on and ends; two products modulo m are the product of three numbers. That the rows' totals come to the
-- moments' total stands in Totals of proofs/. Assumes nothing.
use Rattle.std.specs.Prelude.{◌≡◌, List, ℕ, ◌+◌, ◌*◌, ◌-◌, ◌%◌, ◌<◌, ◌≤◌, length}
use Rattle.std.proofs.Math.Path.{sym, ap, ap₂}
use Rattle.std.proofs.Common.{◌∙◌, add-one, arith}
use Rattle.std.proofs.Math.Nat.{zero-mod, mod-add-mod, add-mod-mod}
use Rattle.std.proofs.Math.ListN.{get_or}
use Rattle.algebra.specs.Residues.{mod-mul-mod}
use Rattle.definitions.specs.Number.{sum}

unfoldable pub row_total : ℕ → ℕ → List ℕ → List ℕ → ℕ → ℕ
row_total m n t moment i = sum n (λ j. get_or t j 0 * get_or moment (i + j) 0) % m

pub record RowTotalInput (m n : ℕ) (t moment : List ℕ) (i : ℕ) : Type 0 where
  pub positive : 0 < m
  pub t_long : n ≤ length t
  pub moment_long : i + n ≤ length moment

pub record MomentTotalInput (m n : ℕ) (s t moment : List ℕ) : Type 0 where
  pub positive : 0 < m
  pub least : 1 ≤ n
  pub s_long : n ≤ length s
  pub t_long : n ≤ length t
  pub moment_long : 2 * n - 1 ≤ length moment

pub record NormTotalInput (m n : ℕ) (u v norm : List ℕ) : Type 0 where
  pub positive : 0 < m
  pub u_long : n ≤ length u
  pub v_long : n ≤ length v
  pub norm_long : n ≤ length norm

-- ---- a loop that adds one term a turn
pub record Totalling (m n : ℕ) (f : ℕ → ℕ) (total k : ℕ) : Type 0 where
  pub reached : k ≤ n
  pub total_is : total ≡ sum k f % m

module _ {m n : ℕ} {f : ℕ → ℕ} where
  pub totalling-starts : Totalling m n f 0 0
  unfolding sum
  totalling-starts = record { reached = omega arith; total_is = sym (zero-mod m) }

  pub totalling-next : {total k x total' : ℕ} → Totalling m n f total k → k < n → x ≡ f k % m → total' ≡ (total + x) % m
      → Totalling m n f total' (k + 1)
  unfolding sum
  totalling-next {total} {k} h l d e = record {
    reached = omega arith;
    total_is = e ∙ ap₂ (λ y z. (y + z) % m) h.total_is d ∙ mod-add-mod (sum k f) m (f k % m) ∙ add-mod-mod (sum k f) (f k) m
        ∙ ap (λ i. sum i f % m) (sym (add-one k));
  }

  pub totalling-ends : {total k : ℕ} → Totalling m n f total k → n ≤ k → total ≡ sum n f % m
  totalling-ends {total} {k} h l = let e : k ≡ n = omega (arith, h.reached) in h.total_is ∙ ap (λ i. sum i f % m) e

-- ---- the terms of the norms' total
pub product-of-three : (m x y z : ℕ) {p q : ℕ} → p ≡ x * y % m → q ≡ p * z % m → q ≡ x * y * z % m
product-of-three m x y z d e = e ∙ ap (λ p. p * z % m) d ∙ mod-mul-mod (x * y) z m
