-- The joined value: there is one, there is no other, and which it is.
--   InRange w v              v lies in the range of w, in natural numbers
--   balanced w u             of a number u below w, the number in the range of w that differs from it by 0 or w
--   Whole m m' k big         k times m leaves 1 modulo m', and big is a multiple of m' not below m: what is found once for a list
--   lift m m' k big x y      the number below m m' that leaves x modulo m and y modulo m'
-- Proved: in_range and joins as plain facts (range-law, joins-law); what is in the range of two moduli of 31 bits fits 64 bits with a sign
-- (range-fits). That there is one joined value, no other, and which it is, stands in Joined of proofs/. Assumes nothing.
use Rattle.std.specs.Prelude.{◌↔◌, ◌≡◌, ltb, ℤ, neg_ℤ, ◌*ℤ◌}
use Rattle.std.proofs.Math.Bool.{true, false}
use Rattle.std.proofs.Common.{mul-le-mul, eqb-true, eq-eqb}
use Rattle.std.proofs.Common.{lt-ltb, le-ltb}
use Rattle.std.proofs.Math.Logic.Iff
use Rattle.std.proofs.Math.Path.{ap}
use Prim.Native.Nat.{ℕ, suc, ◌+◌, ◌*◌, ◌-◌, ◌%◌, ◌≤◌, ◌<◌, ◌^◌}
use native.Mathlib.Omega.{arith}
use Rattle.std.proofs.Math.IntN.{pos, negsuc}
use Rattle.std.specs.Int.Signed.{mag}
use Rattle.definitions.specs.Family.{Modulus, greatest_modulus}
use Rattle.numbers.specs.Factor.{and_both}
use Rattle.joining.specs.Whole.{remainder, in_range, joins}
use Rattle.wholes.specs.Integers.{up, down, neg-law, mul-law, lt-law, le-law}

-- ---- the range
pub record InRange (w : ℕ) (v : ℤ) : Type 0 where
  pub low : 2 * down v < 2 * up v + w
  pub high : 2 * up v ≤ 2 * down v + w

pub range-law : (w : ℕ) (v : ℤ) → (in_range w v ≡ true) ↔ InRange w v
unfolding in_range
range-law w v = Iff.trans (and_both _ _) (
  λ p. record {
    low = omega (arith, (lt-law (neg_ℤ (pos w)) (pos 2 *ℤ v)).0 p.0, neg-law (pos w), mul-law (pos 2) v);
    high = omega (arith, (le-law (pos 2 *ℤ v) (pos w)).0 p.1, mul-law (pos 2) v);
  },
  λ r. (
    (lt-law (neg_ℤ (pos w)) (pos 2 *ℤ v)).1 (omega (arith, r.low, neg-law (pos w), mul-law (pos 2) v)),
    (le-law (pos 2 *ℤ v) (pos w)).1 (omega (arith, r.high, mul-law (pos 2) v)),
  ),
)

pub range_size : (w : ℕ) (v : ℤ) → InRange w v → up v + down v ≤ w
range_size w (pos n) r = omega (arith, r.high)
range_size w (negsuc n) r = omega (arith, r.low)

-- the paper's sentence
pub record Joins (m m' x y : ℕ) (v : ℤ) : Type 0 where
  pub range : InRange (m * m') v
  pub first : remainder m v ≡ x
  pub second : remainder m' v ≡ y

pub joins-law : (m m' x y : ℕ) (v : ℤ) → (joins m m' x y v ≡ true) ↔ Joins m m' x y v
unfolding joins
joins-law m m' x y v = (
  λ e.
      let p = (and_both _ _).0 e in
      let q = (and_both _ _).0 p.0 in
      record {
        range = (range-law (m * m') v).0 q.0;
        first = eqb-true (remainder m v) x q.1;
        second = eqb-true (remainder m' v) y p.1;
      },
  λ j.
      (and_both _ _).1 (
        (and_both _ _).1 ((range-law (m * m') v).1 j.range, eq-eqb (remainder m v) x j.first),
        eq-eqb (remainder m' v) y j.second,
      ),
)

-- ---- the number of a range that leaves u
unfoldable pub balanced : ℕ → ℕ → ℤ
balanced w u = elim (ltb w (2 * u)) [ true ↦ negsuc (w - suc u) | false ↦ pos u ]

module _ (w u : ℕ) where
  pub balanced-small : 2 * u ≤ w → balanced w u ≡ pos u
  unfolding balanced
  balanced-small h = ap (λ t. elim t [ true ↦ negsuc (w - suc u) | false ↦ pos u ]) (le-ltb w (2 * u) h)

  pub balanced-large : w < 2 * u → balanced w u ≡ negsuc (w - suc u)
  unfolding balanced
  balanced-large h = ap (λ t. elim t [ true ↦ negsuc (w - suc u) | false ↦ pos u ]) (lt-ltb w (2 * u) h)

-- ---- the number below m m' that leaves both
pub record Whole (m m' k big : ℕ) : Type 0 where
  pub some : 0 < m
  pub some' : 0 < m'
  pub inverse : m * k % m' ≡ 1
  pub multiple : big % m' ≡ 0
  pub above : m ≤ big

unfoldable pub times : ℕ → ℕ → ℕ → ℕ → ℕ → ℕ
times m' k big x y = (y + (big - x)) * k % m'

unfoldable pub lift : ℕ → ℕ → ℕ → ℕ → ℕ → ℕ → ℕ
lift m m' k big x y = x + m * times m' k big x y

-- ---- it fits 64 bits with a sign
pub product_small : (m m' : ℕ) → m ≤ greatest_modulus → m' ≤ greatest_modulus → m * m' ≤ 4611686014132420609
product_small m m' h l = mul-le-mul {n₂ = greatest_modulus} {m₂ = greatest_modulus} h l

pub range-fits : (m m' : ℕ) (v : ℤ) → Modulus m → Modulus m' → InRange (m * m') v → mag v < 2 ^ 63
range-fits m m' (pos n) p p' r = let w = product_small m m' p.greatest p'.greatest in omega (arith, r.high)
range-fits m m' (negsuc n) p p' r = let w = product_small m m' p.greatest p'.greatest in omega (arith, r.low)
