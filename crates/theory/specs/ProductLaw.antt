-- The product law (demand 3): two curves, expanded, multiplied without a cut and weighed with the moments, give the products of
-- their entries weighed with the norms.
-- Proves it for every convertible family and any two lists, and before it that `moment_total` and `norm_total`, read as residues
-- modulo m, are the form of the moments and a plain sum. The scope paper, 'The definitions'. Assumes nothing.
use Rattle.std.specs.Prelude.{◌≡◌, Bool, List, ℕ, ◌+◌, ◌*◌, ◌-◌, ◌<◌, ◌≤◌, eqb}
use Rattle.std.proofs.Math.Path.{refl}
use Rattle.std.proofs.Common.{sym, ◌∙◌, mod-lt, arith}
use Rattle.std.proofs.Math.Bool.{true, false}
use Rattle.algebra.specs.Residues.{Zmod, res, res-zero, res-mul, res-mod, res-injective}
use Rattle.algebra.specs.Ring.{CommRing}
use Rattle.algebra.specs.Sum as Sum
use Rattle.definitions.specs.Conversion.{expand}
use Rattle.definitions.specs.Family.{Family, Convertible, size}
use Rattle.definitions.specs.Orthogonality.{moments, norms, product, moment_total, norm_total, ProductLaw}
use Rattle.numbers.specs.Residue.{residue-sum}
use Rattle.theory.specs.Bridge.{entries, entries-expand}
use Rattle.theory.specs.BilinearForm.{placed, form, form-cong, form-product}
use Rattle.theory.specs.Moments.{convertible-moments, convertible-norms, norms-have-inverses}
use Rattle.theory.specs.Orthogonal.{form-combination}

-- ---- the two totals as residues
module _ (m : ℕ) (pos : 0 < m) where
  abbrev Q : CommRing
  Q = Zmod m pos

  open Q use {Car, zero as 𝟘, mul as ◌⊗◌}

  infixl 70 ◌⊗◌
  abbrev ι : ℕ → Q.Car
  ι = res m pos

  abbrev E : List ℕ → ℕ → Q.Car
  E = entries m pos

  res-placed : (i k x : ℕ) → ι (elim (eqb i k) [ true ↦ x | false ↦ 0 ]) ≡ placed Q i (ι x) k
  unfolding placed
  res-placed i k x = at (eqb i k)
    where
      at : (b : Bool) → ι (elim b as (λ _. ℕ) [ true ↦ x | false ↦ 0 ]) ≡ elim b as (λ _. Car) [ true ↦ ι x | false ↦ 𝟘 ]
      at true = refl
      at false = res-zero m pos

  res-product : (n : ℕ) (s t : List ℕ) (k : ℕ) → ι (product n s t k)
      ≡ Sum.sum Q n (λ i. Sum.sum Q n (λ j. placed Q (i + j) (E s i ⊗ E t j) k))
  unfolding product
  res-product n s t k = simp (residue-sum m pos, res-placed, res-mul m pos)

  pub res-moment_total : (n : ℕ) (s t moment : List ℕ) → 0 < n → ι (moment_total m n s t moment) ≡ form Q n (E moment) (E s) (E t)
  unfolding moment_total
  res-moment_total n s t moment h = simp (res-mod m pos, residue-sum m pos, res-mul m pos, res-product)
      (form-product Q n (E moment) (2 * n - 1) (E s) (E t) (omega arith))

  pub res-norm_total : (n : ℕ) (u v d : List ℕ) → ι (norm_total m n u v d) ≡ Sum.sum Q n (λ i. E u i ⊗ E v i ⊗ E d i)
  unfolding norm_total
  res-norm_total n u v d = simp (res-mod m pos, residue-sum m pos, res-mul m pos)

-- ---- the law
pub totals-equal : (f : Family) → 0 < f.m → Convertible f → (u v : List ℕ)
    → moment_total f.m (size f) (expand f u) (expand f v) (moments f) ≡ norm_total f.m (size f) u v (norms f)
unfolding moment_total norm_total
totals-equal f pos c u v = res-injective f.m pos (moment_total f.m (size f) (expand f u) (expand f v) (moments f))
    (norm_total f.m (size f) u v (norms f)) (mod-lt _ pos) (mod-lt _ pos)
    (res-moment_total f.m pos (size f) (expand f u) (expand f v) (moments f) (omega arith)
    ∙ form-cong (Zmod f.m pos) (size f) (entries f.m pos (moments f)) (entries-expand f pos u) (entries-expand f pos v)
    ∙ form-combination (convertible-moments f pos c) (convertible-norms f pos c) (entries f.m pos u) (entries f.m pos v)
    ∙ sym (res-norm_total f.m pos (size f) u v (norms f)))

pub product_law : (f : Family) → Convertible f → (u v : List ℕ) → ProductLaw f u v (expand f u) (expand f v) (moments f) (norms f)
product_law f c u v = let two : 2 ≤ f.m = c.modulus in
    record { equal = totals-equal f (omega arith) c u v; inverses = norms-have-inverses f c }
