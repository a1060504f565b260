-- What each step of joining comes to by words of 64 bits.
-- Proved: the number of a range is found from its size, and fits; of two prepared moduli no product and no sum is too large; the sum that is
-- made is below m m' and is balanced to the joined value. These rest on Prepared and Balancing, which edits of specs/ change.
-- Assumes nothing.
use Rattle.std.specs.Prelude.{◌≡◌, ℕ, suc, ◌+◌, ◌*◌, ◌-◌, ◌%◌, ◌≤◌, ◌<◌, ℤ, pos, negsuc, neg_ℤ, ◌-ℤ◌}
use Rattle.std.proofs.Common.{sym, ◌∙◌, mul-le-mul, arith}
use Rattle.std.proofs.Common.{Fits, SFits, to_z, of_z}
use Rattle.std.proofs.Math.Path.{ap}
use Rattle.std.proofs.Math.Decide.{dec_lt}
use Rattle.std.specs.Int.{w64}
use Rattle.std.proofs.lemmas.Int.{to_z-of_z, to_z_pos}
use Rattle.definitions.specs.Family.{greatest_modulus}
use Rattle.joining.specs.Whole.{joined}
use Rattle.reduction.specs.Reciprocal.{LesserOf}
use Rattle.wholes.specs.Integers.{z-ext, add-law, neg-law}
use Rattle.wholes.specs.Joined.{Whole, times, lift, balanced, balanced-small, balanced-large, product_small}
use Rattle.wholes.proofs.Joined.{lift-lt, joined-lift}
use Rattle.join.specs.Joining.{Prepared, most_product, Balancing}

-- ---- the number of a range, by its size
module _ (w u r : ℕ) (b : Balancing w u) (l : LesserOf u (w - u) r) where
  -- above the half the size is what u lacks, and otherwise u
  above : w < 2 * u → r ≡ w - u
  above h = l.second (omega arith)

  kept : 2 * u ≤ w → r ≡ u
  kept h = by (dec_lt u (w - u))
    where
      by : Dec (u < w - u) → r ≡ u
      by (yes g) = l.first g
      by (no g) = let e : r ≡ w - u = l.second (omega arith) in omega (arith, b.below)

  size_small : r ≤ most_product
  size_small = by (dec_lt w (2 * u))
    where
      by : Dec (w < 2 * u) → r ≤ most_product
      by (yes g) = omega (arith, above g, b.small)
      by (no g) = let e : r ≡ u = kept (omega arith) in omega (arith, b.below, b.small)

  pub size_fits : SFits w64 (pos r)
  size_fits = record { sfits = omega (arith, size_small) }

  word : to_z w64 r ≡ pos r
  word = to_z_pos w64 r (omega (arith, size_small))

  negated : (h : w < 2 * u) → pos 0 -ℤ to_z w64 r ≡ negsuc (w - suc u)
  negated h = ap (λ z. pos 0 -ℤ z) word
      ∙ z-ext _ _ (omega (arith, above h, b.below, add-law (pos 0) (neg_ℤ (pos r)), neg-law (pos r)))

  negsuc-fits : SFits w64 (negsuc (w - suc u))
  negsuc-fits = record { sfits = omega (arith, b.small) }

  pub negated_fits : w < 2 * u → SFits w64 (pos 0 -ℤ to_z w64 r)
  negated_fits h = rw (negated h) negsuc-fits

  pub balance-negated : w < 2 * u → to_z w64 (of_z w64 (pos 0 -ℤ to_z w64 r)) ≡ balanced w u
  balance-negated h =
      ap (λ z. to_z w64 (of_z w64 z)) (negated h) ∙ to_z-of_z w64 (negsuc (w - suc u)) negsuc-fits ∙ sym (balanced-large w u h)

  pub balance-kept : 2 * u ≤ w → to_z w64 r ≡ balanced w u
  balance-kept h = word ∙ ap pos (kept h) ∙ sym (balanced-small w u h)

module _ (m m' k big : ℕ) (p : Prepared m m' k big) where
  prepared-whole : Whole m m' k big
  prepared-whole = record {
    some = omega (arith, p.pair.first.least);
    some' = omega (arith, p.pair.second.least);
    inverse = p.pair.inverse;
    multiple = p.multiple;
    above = p.least;
  }

  -- three moduli times one are below 2^64
  gap-small : (gap : ℕ) → gap ≤ 6442450941 → gap * k ≤ 13835058042397261827
  gap-small gap h = mul-le-mul {n₂ = 6442450941} {m₂ = greatest_modulus} h (omega (arith, p.pair.below, p.pair.second.greatest))

  pub whole-small : m * m' ≤ most_product
  whole-small = product_small m m' p.pair.first.greatest p.pair.second.greatest

  pub whole-fits : Fits w64 (m * m')
  whole-fits = record { fits = omega (arith, whole-small) }

  module _ (x y : ℕ) (l : x < m) (l' : y < m') where
    pub gap-fits : Fits w64 ((y + (big - x)) * k)
    gap-fits = record {
      fits = omega (
        arith,
        gap-small (y + (big - x)) (omega (arith, p.most, p.pair.first.greatest, p.pair.second.greatest)),
      );
    }

    module _ (t : ℕ) (e : t ≡ (y + (big - x)) * k % m') where
      is-lift : x + m * t ≡ lift m m' k big x y
      unfolding lift times
      is-lift = ap (λ z. x + m * z) e

      pub lift-below : x + m * t < m * m'
      lift-below = rw is-lift (lift-lt m m' k big prepared-whole x y l)

      pub step_fits : Fits w64 (m * t)
      step_fits = record { fits = omega (arith, lift-below, whole-small) }

      pub lift-fits : Fits w64 (x + m * t)
      lift-fits = record { fits = omega (arith, lift-below, whole-small) }

      pub lift-balances : Balancing (m * m') (x + m * t)
      lift-balances = record { below = lift-below; small = whole-small }

      pub joined_is : (v : ℤ) → v ≡ balanced (m * m') (x + m * t) → v ≡ joined m m' x y
      joined_is v f = f ∙ ap (balanced (m * m')) is-lift ∙ sym (joined-lift m m' k big prepared-whole x y l l')
