-- What `invert` answers, on every input.
--   IsInverse m x y      y is the inverse of x modulo m
--   SharesFactor m x g   no number below m is an inverse of x, and g is the greatest common factor of x and m
--   InversionAnswer m x r       what the answer r says of x and m: the one or the other
-- Proved: this settles the answer; which of the two it is says whether `definitions`' test for an inverse holds; and what is told, or 1 where
-- there is an inverse, is the greatest common factor of `definitions`.
-- Assumes nothing.
use Rattle.std.specs.Prelude.{◌≡◌, true, false, ℕ, ◌*◌, ◌%◌, ◌<◌, ◌≤◌, Result, Ok, Err}
use Rattle.std.proofs.Common.{sym, ◌∙◌, ap, subst, arith}
use Rattle.definitions.specs.Number.{HasInverse, inverse, greatest_factor}
use Rattle.definitions.specs.Refusals.{no_inverse}
use Rattle.numbers.specs.Euclid.{GreatestFactor, greatest-factor-unique}
use Rattle.numbers.specs.Factor.{factor-is, factor-one}
use Rattle.numbers.specs.Inverse.{inverse-right, inverse-below}
use Rattle.acceptance.specs.Verdicts.{no_inverse-false, no_inverse-true}
use Rattle.residue.specs.declared.SharedFactor.{SharedFactor}

pub record IsInverse (m x y : ℕ) : Type 0 where
  pub below : y < m
  pub product : x * y % m ≡ 1
  pub value : y ≡ inverse m x

pub record SharesFactor (m x g : ℕ) : Type 0 where
  pub none : (y : ℕ) → y < m → x * y % m ≡ 1 → ⊥
  pub factor : GreatestFactor g x m

abbrev pub InversionAnswer : ℕ → ℕ → Result ℕ SharedFactor → Type 0
InversionAnswer m x (Ok y) = IsInverse m x y
InversionAnswer m x (Err e) = SharesFactor m x e.factor

pub inverted-unique : (m x : ℕ) (r r' : Result ℕ SharedFactor) → InversionAnswer m x r → InversionAnswer m x r' → r ≡ r'
inverted-unique m x (Ok y) (Ok y') p q = ap Ok (p.value ∙ sym q.value)
inverted-unique m x (Ok y) (Err e) p q = absurd (q.none y p.below p.product)
inverted-unique m x (Err e) (Ok y) p q = absurd (p.none y q.below q.product)
inverted-unique m x (Err e) (Err e') p q = ap (λ g. Err (record { factor = g })) (greatest-factor-unique p.factor q.factor)

-- an answer that is matched on, and the answer against the test of the refusals
module _ (m x : ℕ) where
  pub inverted-found : {r : Result ℕ SharedFactor} {y : ℕ} → InversionAnswer m x r → r ≡ Ok y → IsInverse m x y
  inverted-found answer e = subst (InversionAnswer m x) e answer

  pub inverted-absent : {r : Result ℕ SharedFactor} {e : SharedFactor} → InversionAnswer m x r → r ≡ Err e → SharesFactor m x e.factor
  inverted-absent answer q = subst (InversionAnswer m x) q answer

  pub found-has : (y : ℕ) → IsInverse m x y → HasInverse m x
  unfolding HasInverse
  found-has y found = (y, found.product)

  pub found-passes : (y : ℕ) → IsInverse m x y → no_inverse m x ≡ false
  unfolding HasInverse
  found-passes y found =
      let below : y < m = found.below in
      (no_inverse-false m x (omega arith)).1 (y, found.product)

  pub absent-fails : (g : ℕ) → 0 < m → SharesFactor m x g → no_inverse m x ≡ true
  absent-fails g pos absent =
      (no_inverse-true m x pos).1 (λ i. absent.none (inverse m x) (inverse-below m x pos) (inverse-right m x pos i))

  pub found-factor : (y : ℕ) → 2 ≤ m → IsInverse m x y → 1 ≡ greatest_factor m x
  found-factor y two found = sym ((factor-one m x two).0 (found-has y found))

  pub absent-factor : (g : ℕ) → 0 < m → SharesFactor m x g → g ≡ greatest_factor m x
  absent-factor g pos absent = factor-is m x pos g absent.factor
