-- The moments and the norms of a convertible family, read as residues modulo m.
-- Proves length and bounds of both lists; that the rows of a convertible family are regular over the residues, that the moments
-- are moments there and the norms norms, so that `Orthogonal` speaks of them; and that each norm has an inverse.
-- The scope paper, 'The definitions'. Assumes nothing.
use Rattle.std.specs.Prelude.{◌≡◌, length, get_or}
use Rattle.std.proofs.Math.Path.{refl, ap, fun_ext}
use Rattle.std.proofs.Common.{sym, ◌∙◌, mod-lt, arith}
use mathlib.Core.List.{List, [], ◌∷◌}
use Prim.Native.Nat.{ℕ, zero, suc, ◌<◌, ◌≤◌}
use Rattle.algebra.specs.Product.{product-unit}
use Rattle.algebra.specs.Residues.{Zmod, res, res-zero, res_one, res-mul, res-mod}
use Rattle.algebra.specs.Ring.{CommRing}
use Rattle.algebra.specs.Series.{Ser, gen, co}
use Rattle.algebra.specs.Solver.{linear, scaled, reify}
use Rattle.definitions.specs.Family.{Family, Convertible, Curve, rows, size, row_at, F, G}
use Rattle.definitions.specs.Number.{HasInverse, inverse}
use Rattle.definitions.specs.Orthogonality as Orthogonality
use Rattle.definitions.specs.Orthogonality.{moment_count, moments, norm, norms}
use Rattle.numbers.specs.Lists.{table-entry}
use Rattle.numbers.specs.Residue.{residue-negative, residue-inverse, residue-unit}
use Rattle.theory.specs.Bridge.{entries, rows_of, res-F, res-G}
use Rattle.theory.specs.Curves.{table-curve}
use Rattle.theory.specs.Determinant.{signed_product}
use Rattle.theory.specs.Favard.{Regular, Moments}
use Rattle.theory.specs.Orthogonal.{Norms, norm-unit}
use Rattle.theory.specs.Quotient.{quotient-length, quotient-below, quotient-mul}
use Rattle.theory.specs.Recurrence.{Rows, later, term}
use Rattle.theory.specs.Reversal.{reversal, reversed}
use Rattle.theory.specs.RoundTrip.{leading-product}

-- ---- lengths and bounds
pub moments-length : (f : Family) → length (moments f) ≡ moment_count f
unfolding moments
moments-length f = quotient-length _ _ _ (moment_count f)

pub moments-below : (f : Family) → 0 < f.m → (k : ℕ) → k < moment_count f → get_or (moments f) k 0 < f.m
unfolding moments
moments-below f pos k h = quotient-below _ _ _ pos (moment_count f) k h

pub norms-curve : (f : Family) → 0 < f.m → Curve f (norms f)
unfolding norms norm
norms-curve f pos = table-curve f (norm f) (λ i h. mod-lt _ pos)

pub norms-entry : (f : Family) (i : ℕ) → i < size f → get_or (norms f) i 0 ≡ norm f i
unfolding norms
norms-entry f i h = table-entry (size f) (norm f) i 0 h

-- ---- as residues
module _ (f : Family) (pos : 0 < f.m) where
  abbrev m : ℕ
  m = f.m

  abbrev Q : CommRing
  Q = Zmod m pos

  open Q use {mul as ◌⊗◌}
  open Ser Q use {Car as Series, mul as ◌*◌}

  infixl 70 ◌⊗◌ ◌*◌
  abbrev ρ : Rows Q
  ρ = rows_of f pos

  abbrev ι : ℕ → Q.Car
  ι = res m pos

  abbrev E : List ℕ → ℕ → Q.Car
  E = entries m pos

  entries-reversal : (k : ℕ) (p : ℕ → ℕ) (i : ℕ) → E (Orthogonality.reversal k p) i ≡ reversal Q k (λ j. ι (p j)) i
  unfolding Orthogonality.reversal reversal
  entries-reversal zero p i = res-zero m pos
  entries-reversal (suc k) p zero = refl
  entries-reversal (suc k) p (suc i) = entries-reversal k p i

  -- the series of the reversal of a list of coefficients whose residues are the terms of a recurrence
  reversal-series : (σ : Rows Q) (k : ℕ) (p : ℕ → ℕ) → ((i : ℕ) → ι (p i) ≡ term Q σ k i)
      → gen Q (E (Orthogonality.reversal k p)) ≡ reversed Q σ k
  unfolding reversed
  reversal-series σ k p e = ap (gen Q) (fun_ext (λ i. entries-reversal k p i ∙ ap (λ q. reversal Q k q i) (fun_ext e)))

  pub res-signed_product : (i : ℕ) → ι (Orthogonality.signed_product f i) ≡ signed_product Q ρ i
  unfolding Orthogonality.signed_product signed_product
  res-signed_product zero = res_one m pos
  res-signed_product (suc i) = simp (res-mod m pos, res-mul m pos, residue-negative m pos, res-signed_product i)

  pub res-norm : (i : ℕ) → ι (norm f i) ≡ signed_product Q ρ i ⊗ ι (inverse m (row_at f i).a)
  unfolding norm
  res-norm i = simp (res-mod m pos, res-mul m pos, res-signed_product)

  -- ---- a convertible family
  module _ (c : Convertible f) where
    pub convertible-regular : Regular Q (rows f) ρ
    convertible-regular = record {
      a_unit = λ i h. (residue-unit m pos (row_at f i).a c.modulus).0 (c.a_inverse i (omega arith));
      c_unit = λ i h. (residue-unit m pos (row_at f (suc i)).c c.modulus).0 (c.c_inverse i h);
    }

    -- what the moments divide by: the first coefficient of the reversal is the leading one of F_n, a_1 .. a_n
    pub divisor-has-inverse : HasInverse m (get_or (Orthogonality.reversal (suc (size f)) (F f (size f))) 0 0)
    unfolding Orthogonality.reversal
    divisor-has-inverse = (residue-unit m pos (F f (size f) (size f)) c.modulus).1
        (rw (leading-product f pos (size f)) (product-unit Q (size f) ρ.a (λ i h. convertible-regular.a_unit i (omega arith))))

    pub convertible-moments : Moments Q (rows f) ρ (E (moments f))
    unfolding moments
    convertible-moments = record {
      regular = convertible-regular;
      quotient = λ k h. ap (λ t. co Q t k)
          (ap (λ t. t * series (moments f)) (sym divisor) ∙ (Ser Q).mul_comm (series d) (series (moments f)))
          ∙ quotient-mul m g d pos divisor-has-inverse (moment_count f) k (omega arith)
          ∙ ap (λ t. co Q t k) (reversal-series (later Q ρ) (size f) (G f (rows f)) (res-G f pos (rows f)));
    }
      where
        g : List ℕ
        g = Orthogonality.reversal (size f) (G f (rows f))

        d : List ℕ
        d = Orthogonality.reversal (suc (size f)) (F f (size f))

        series : List ℕ → Series
        series u = gen Q (E u)

        divisor : series d ≡ reversed Q ρ (suc (size f))
        divisor = reversal-series ρ (suc (size f)) (F f (size f)) (res-F f pos (size f))

    pub convertible-norms : Norms Q (rows f) ρ (E (norms f))
    convertible-norms = record {
      norm = λ i h. ap (λ t. ι t ⊗ ρ.a i) (norms-entry f i (omega arith)) ∙ ap (λ t. t ⊗ ρ.a i) (res-norm i)
          ∙ linear Q (signed_product Q ρ i ∷ ρ.a i ∷ ι (inverse m (row_at f i).a) ∷ [])
          (scaled Q (signed_product Q ρ i) (residue-inverse m pos (row_at f i).a (c.a_inverse i (omega arith)))) (search reify depth 20) tt;
    }

pub norms-have-inverses : (f : Family) → Convertible f → (i : ℕ) → i < size f → HasInverse f.m (get_or (norms f) i 0)
norms-have-inverses f c i h = let two : 2 ≤ f.m = c.modulus in let pos : 0 < f.m = omega arith in
    (residue-unit f.m pos (get_or (norms f) i 0) two).1
    (norm-unit (convertible-regular f pos c) (convertible-norms f pos c) i (omega arith))
