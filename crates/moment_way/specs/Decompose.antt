-- Decompose by the moments: a Hankel product, Adjoint, and each entry times the inverse of its norm, (-1)^i a_{i+1} / (c_2 .. c_{i+1}).
--   divided      entry i times the inverse of norm i, from the a and the inverses of the c
--   DivideInput  what the loop over the entries is lent
--   Dividing     that loop in progress: i entries are divided, and the product of the inverses of the c is up to there
-- Proved: how the loop begins, goes on and ends. What each step of Decompose is handed, and that the last leaves Decompose, stands in
-- DecomposeByMoments of proofs/. Assumes nothing.
use Rattle.std.specs.Prelude.{◌≡◌, refl, ℕ, ◌+◌, ◌*◌, ◌-◌, ◌%◌, ◌≤◌, ◌<◌, length, take, set}
use Rattle.std.proofs.Common.{◌∙◌, add-one, arith}
use mathlib.Core.List.{List}
use Rattle.std.proofs.Math.ListN.{get_or}
use Rattle.definitions.specs.Number.{negative}
use Rattle.theory.specs.NormInverse.{signed_inverse}
use Rattle.numbers.specs.Lists.{Filling, filled}
use Rattle.numbers.specs.Lists.{filling-start, filling-next, filling-stop, filling-from}
use Rattle.moment_way.specs.Moments.{entry_or}

-- ---- each entry times the inverse of its norm
unfoldable pub divided : ℕ → List ℕ → List ℕ → ℕ → ℕ → ℕ → List ℕ → ℕ → ℕ
divided m a c_inverses close_a close_c_inverse n list i =
    get_or list i 0 * (signed_inverse m (entry_or c_inverses (n - 1) close_c_inverse) i * entry_or a (n - 1) close_a i % m) % m

pub record DivideInput (m : ℕ) (a c_inverses : List ℕ) (n : ℕ) (output : List ℕ) : Type 0 where
  pub positive : 0 < m
  pub least : 1 ≤ n
  pub most : n ≤ 128
  pub a_long : n - 1 ≤ length a
  pub c_inverses_long : n - 1 ≤ length c_inverses
  pub output_long : n ≤ length output

pub record Dividing (m : ℕ) (a c_inverses : List ℕ) (close_a close_c_inverse n : ℕ) (output₀ output : List ℕ) (signed i : ℕ) : Type 0 where
  pub reached : i ≤ n
  pub signed_is : signed ≡ signed_inverse m (entry_or c_inverses (n - 1) close_c_inverse) i
  pub written : Filling (divided m a c_inverses close_a close_c_inverse n output₀) i output₀ output

module _ {m : ℕ} {a c_inverses : List ℕ} {close_a close_c_inverse n : ℕ} {output₀ : List ℕ} where
  pub dividing-starts : Dividing m a c_inverses close_a close_c_inverse n output₀ output₀ 1 0
  unfolding signed_inverse
  dividing-starts = record { reached = omega arith; signed_is = refl; written = filling-start }

  module _ {output : List ℕ} {signed i : ℕ} (input : DivideInput m a c_inverses n output₀)
      (h : Dividing m a c_inverses close_a close_c_inverse n output₀ output signed i) where
    pub dividing-next : {x y z w o s : ℕ} → i < n → x ≡ get_or (take (n - 1) a) i close_a → y ≡ signed * x % m → z ≡ get_or output i 0 * y % m
        → w ≡ get_or (take (n - 1) c_inverses) (i + 1) close_c_inverse → o ≡ negative m w → s ≡ signed * o % m
        → Dividing m a c_inverses close_a close_c_inverse n output₀ (set output i z) s (i + 1)
    unfolding signed_inverse divided entry_or
    dividing-next l ex ey ez ew eo es = record {
      reached = omega arith;
      signed_is = es ∙ rw (eo, ew, h.signed_is, add-one);
      written = filling-next h.written (omega (arith, input.output_long))
          (ez ∙ rw (ey, ex, h.signed_is, filling-from h.written i 0 (omega arith)));
    }

    pub dividing-ends : n ≤ i → output ≡ filled (divided m a c_inverses close_a close_c_inverse n output₀) n output₀
    dividing-ends l = filling-stop h.written n (omega (arith, h.reached))
