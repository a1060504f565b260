-- Sums that wrap at 2^64, with a count of how often they have.
--   Reducible m v                v is the reciprocal of m, and m has 31 bits
--   WrapsAfter wraps low x r     r is wraps, and one more where low is less than x, the last summand
--   Unwrapped sum last spare r   r is sum, and spare more where sum is less than the last summand
--   Shortened m wraps r          r has 32 bits and leaves the remainder of wraps
--   spare_of m v                 what 2^64 leaves beside the multiple v m
-- Proved: a sum and its count go on together (`wraps-next`), and both settle the remainder of the whole (`settled`).
-- Assumes nothing.
use Rattle.std.specs.Prelude.{◌≡◌, ℕ, ◌+◌, ◌-◌, ◌*◌, ◌/◌, ◌%◌, ◌<◌, ◌≤◌}
use Rattle.std.proofs.Common.{sym, ◌∙◌, ap, add_assoc, add-mul, mul-add, mul_assoc, mul_right_comm, mul-le-mul, zero-add, zero-mul}
use Rattle.std.proofs.Common.{div-add-mod', mod-lt, arith}
use Rattle.std.proofs.Math.Decide.{dec_lt}
use Rattle.std.proofs.Math.Nat.{mod-mod, add-mul-mod_self_right}
use Rattle.definitions.specs.Family.{greatest_modulus}
use Rattle.reduction.specs.Reciprocal.{word, half, Reciprocal}

pub record Reducible (m v : ℕ) : Type 0 where
  pub most : m ≤ greatest_modulus
  pub reciprocal : Reciprocal m v

pub record WrapsAfter (wraps low x r : ℕ) : Type 0 where
  pub wrapped : low < x → r ≡ wraps + 1
  pub fitted : x ≤ low → r ≡ wraps

pub record Unwrapped (sum last spare r : ℕ) : Type 0 where
  pub wrapped : sum < last → r ≡ sum + spare
  pub fitted : last ≤ sum → r ≡ sum

pub record Shortened (m wraps r : ℕ) : Type 0 where
  pub short : r < half
  pub same : r % m ≡ wraps % m

pub shortened-remainder : (m v wraps r : ℕ) → Reducible m v → r ≡ wraps % m → Shortened m wraps r
shortened-remainder m v wraps r h e =
    let below : wraps % m < m = mod-lt wraps h.reciprocal.positive in
    record { short = omega (arith, h.most); same = ap (λ z. z % m) e ∙ mod-mod wraps m }

-- ---- one summand more
pub wraps-next : (low wraps x next r : ℕ) → low < word → x < word → next ≡ (low + x) % word → WrapsAfter wraps next x r
    → next + r * word ≡ low + wraps * word + x
wraps-next low wraps x next r p q e h = by (dec_lt next x)
  where
    by : Dec (next < x) → next + r * word ≡ low + wraps * word + x
    by (yes l) = let more : r ≡ wraps + 1 = h.wrapped l in omega arith
    by (no l) = let same : r ≡ wraps = h.fitted (omega arith) in omega arith

-- ---- the whole modulo m, with w in the place of 2^64
module _ (m v w spare : ℕ) (e : v * m + spare ≡ w) where
  -- the multiple of m in which wraps times w and the remainder of wraps times spare differ
  abbrev multiple : ℕ → ℕ
  multiple wraps = wraps * v + wraps / m * spare

  -- each w is a spare
  spared : (low wraps : ℕ) → (low + wraps * w) % m ≡ (low + wraps % m * spare) % m
  spared low wraps =
      ap (λ z. (low + z) % m) whole ∙ ap (λ z. z % m) (sym (add_assoc low (wraps % m * spare) (multiple wraps * m)))
      ∙ add-mul-mod_self_right (low + wraps % m * spare) (multiple wraps) m
    where
      whole : wraps * w ≡ wraps % m * spare + multiple wraps * m
      whole =
          let parted : wraps * w ≡ wraps * (v * m) + wraps * spare = ap (λ z. wraps * z) (sym e) ∙ mul-add wraps (v * m) spare in
          let first : wraps * (v * m) ≡ wraps * v * m = sym (mul_assoc wraps v m) in
          let second : wraps * spare ≡ wraps / m * m * spare + wraps % m * spare =
          ap (λ z. z * spare) (sym (div-add-mod' wraps m)) ∙ add-mul (wraps / m * m) (wraps % m) spare in
          let turned : wraps / m * m * spare ≡ wraps / m * spare * m = mul_right_comm (wraps / m) m spare in
          let gathered : multiple wraps * m ≡ wraps * v * m + wraps / m * spare * m = add-mul (wraps * v) (wraps / m * spare) m in
          omega arith

  -- one w more, and a spare more
  spare_more : (sum : ℕ) → (sum + spare) % m ≡ (sum + w) % m
  spare_more sum =
      let whole : sum + w ≡ sum + spare + v * m = omega arith in
      sym (ap (λ z. z % m) whole ∙ add-mul-mod_self_right (sum + spare) v m)

module _ (m v : ℕ) (h : Reducible m v) where
  abbrev pub spare_of : ℕ
  spare_of = 18446744073709551615 - v * m + 1

  spare-is : v * m + spare_of ≡ word
  spare-is = omega (arith, h.reciprocal.most)

  spare-small : spare_of ≤ 2147483647
  spare-small = omega (arith, h.most, h.reciprocal.next, h.reciprocal.most)

  module _ (wraps r : ℕ) (s : Shortened m wraps r) where
    more-small : r * spare_of ≤ 9223372030412324865
    more-small = mul-le-mul {n₂ = 4294967295} {m₂ = 2147483647} (omega (arith, s.short)) spare-small

    pub more-fits : r * spare_of + spare_of < word
    more-fits = omega (arith, more-small, spare-small)

    pub settled : (low sum whole result : ℕ) → low < word → sum ≡ (low + r * spare_of) % word → Unwrapped sum (r * spare_of) spare_of whole
        → result ≡ whole % m → result ≡ (low + wraps * word) % m
    settled low sum whole result p e u g =
        g ∙ by (dec_lt sum (r * spare_of)) ∙ spared m 0 spare_of spare_of none low r ∙ ap (λ z. (low + z * spare_of) % m) s.same
        ∙ sym (spared m v word spare_of spare-is low wraps)
      where
        none : 0 * m + spare_of ≡ spare_of
        none = rw zero-mul (zero-add spare_of)

        by : Dec (sum < r * spare_of) → whole % m ≡ (low + r * spare_of) % m
        by (yes l) =
            let back : sum + word ≡ low + r * spare_of = omega (arith, e, more-small) in
            ap (λ z. z % m) (u.wrapped l) ∙ spare_more m v word spare_of spare-is sum ∙ ap (λ z. z % m) back
        by (no l) =
            let same : sum ≡ low + r * spare_of = omega (arith, e, more-small) in
            ap (λ z. z % m) (u.fitted (omega arith) ∙ same)
