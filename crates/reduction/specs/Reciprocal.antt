-- Quotients by a reciprocal.
--   word, half       2^64 and 2^32
--   Reciprocal m v   v is how often 2^64 - 1 holds m
--   HighHalf x y r   r is the upper half of x y, of 128 bits
--   LesserOf x y r   r is the lesser of x and y
-- Proved: the upper half from four products of halves, each of which fits 64 bits (`high_half`); the quotient by the reciprocal is
-- short by one at most, for every m from 1 on and every x of 64 bits (`quotient-bounds`); what is left then is the remainder, or that
-- and m more (`lesser-is`).
-- Assumes nothing.
use Rattle.std.specs.Prelude.{◌≡◌, ℕ, ◌+◌, ◌-◌, ◌*◌, ◌/◌, ◌%◌, ◌<◌, ◌≤◌}
use Rattle.std.proofs.Common.{sym, ◌∙◌, ap, ap₂, add-mul, mul-add, mul_assoc, mul_comm, mul_right_comm, one-mul, mul-le-mul}
use Rattle.std.proofs.Common.{mul-le-mul_left, mul-le-mul_right, mul-lt-mul_of_pos_right, lt_of_mul-lt-mul_right, le_of_mul-le-mul_right}
use Rattle.std.proofs.Common.{div-add-mod', div-mul-le_self, mod-lt, mod-eq_of_lt, arith}
use Rattle.std.proofs.Math.Decide.{dec_lt}
use Rattle.std.proofs.Math.Nat.{lt-div-mul-add, add-mul-mod_self_right}

abbrev pub word : ℕ
word = 18446744073709551616

abbrev pub half : ℕ
half = 4294967296

pub record Reciprocal (m v : ℕ) : Type 0 where
  pub positive : 0 < m
  pub most : v * m < word
  pub next : word ≤ v * m + m

pub record HighHalf (x y r : ℕ) : Type 0 where
  pub most : r * word ≤ x * y
  pub next : x * y < r * word + word

pub record LesserOf (x y r : ℕ) : Type 0 where
  pub first : x < y → r ≡ x
  pub second : y ≤ x → r ≡ y

pub reciprocal_is : (m : ℕ) → 0 < m → Reciprocal m (18446744073709551615 / m)
reciprocal_is m h = record {
  positive = h;
  most = omega (arith, div-mul-le_self 18446744073709551615 m);
  next = omega (arith, lt-div-mul-add {a = 18446744073709551615} {b = m} h);
}

-- ---- the upper half
half_product : (x y : ℕ) → x < half → y < half → x * y ≤ 18446744065119617025
half_product x y p q = mul-le-mul {n₂ = 4294967295} {m₂ = 4294967295} (omega arith) (omega arith)

pub record HalfProducts (x y : ℕ) : Type 0 where
  pub low_low : x % half * (y % half) ≤ 18446744065119617025
  pub high_low : x / half * (y % half) ≤ 18446744065119617025
  pub low_high : x % half * (y / half) ≤ 18446744065119617025
  pub high_high : x / half * (y / half) ≤ 18446744065119617025

pub half-products : (x y : ℕ) → x < word → y < word → HalfProducts x y
half-products x y p q = record {
  low_low = half_product (x % half) (y % half) (omega arith) (omega arith);
  high_low = half_product (x / half) (y % half) (omega arith) (omega arith);
  low_high = half_product (x % half) (y / half) (omega arith) (omega arith);
  high_high = half_product (x / half) (y / half) (omega arith) (omega arith);
}

-- a product by the halves of its factors, for any base w
by-halves : (w x₁ x₀ y₁ y₀ : ℕ) → (x₁ * w + x₀) * (y₁ * w + y₀) ≡ (x₁ * y₁ * w + x₁ * y₀) * w + (x₀ * y₁ * w + x₀ * y₀)
by-halves w x₁ x₀ y₁ y₀ =
    add-mul (x₁ * w) x₀ (y₁ * w + y₀) ∙ ap₂ ◌+◌ (mul_right_comm x₁ w (y₁ * w + y₀) ∙ ap (λ z. z * w) (times x₁)) (times x₀)
  where
    times : (z : ℕ) → z * (y₁ * w + y₀) ≡ z * y₁ * w + z * y₀
    times z = mul-add z (y₁ * w) y₀ ∙ ap (λ s. s + z * y₀) (sym (mul_assoc z y₁ w))

-- the carries of the code: t, u and v
pub high_half : (x y t u v : ℕ) → t ≡ x % half * (y % half) → u ≡ x / half * (y % half) + t / half → v ≡ x % half * (y / half) + u % half
    → HighHalf x y (x / half * (y / half) + u / half + v / half)
high_half x y t u v et eu ev =
    let halves : x * y ≡ (x / half * half + x % half) * (y / half * half + y % half) =
    sym (ap₂ ◌*◌ (div-add-mod' x half) (div-add-mod' y half)) in
    let whole = halves ∙ by-halves half (x / half) (x % half) (y / half) (y % half) in
    record { most = omega (arith, whole); next = omega (arith, whole) }

-- ---- the quotient, with w in the place of 2^64: omega does not take numbers of 39 digits
module _ (w m v x q : ℕ) where
  most-of : 0 < w → v * m ≤ w → q * w ≤ x * v → q * m ≤ x
  most-of pos r h =
      let below : q * w * m ≤ x * v * m = mul-le-mul_right m h in
      let above : x * (v * m) ≤ x * w = mul-le-mul_left x r in
      let left : q * w * m ≡ q * m * w = mul_right_comm q w m in
      let right : x * v * m ≡ x * (v * m) = mul_assoc x v m in
      le_of_mul-le-mul_right {m = q * m} {n = x} {k = w} (omega arith) pos

  next_of : 0 < m → x ≤ w → w ≤ v * m + m → x * v < q * w + w → x < q * m + (m + m)
  next_of pos small r h =
      let above : x * v * m < (q * w + w) * m = mul-lt-mul_of_pos_right h pos in
      let below : x * w ≤ x * (v * m + m) = mul-le-mul_left x r in
      let rest : x * m ≤ w * m = mul-le-mul_right m small in
      let spread : (q * w + w) * m ≡ q * w * m + w * m = add-mul (q * w) w m in
      let parted : x * (v * m + m) ≡ x * (v * m) + x * m = mul-add x (v * m) m in
      let left : q * w * m ≡ q * m * w = mul_right_comm q w m in
      let right : x * v * m ≡ x * (v * m) = mul_assoc x v m in
      let turned : w * m ≡ m * w = mul_comm w m in
      let whole : (q * m + (m + m)) * w ≡ q * m * w + (m * w + m * w) =
      add-mul (q * m) (m + m) w ∙ ap (λ z. q * m * w + z) (add-mul m m w) in
      lt_of_mul-lt-mul_right w {m = x} {n = q * m + (m + m)} (omega arith)

pub record QuotientBounds (m x q : ℕ) : Type 0 where
  pub most : q * m ≤ x
  pub next : x < q * m + (m + m)

pub quotient-bounds : (m v x q : ℕ) → Reciprocal m v → x < word → HighHalf x v q → QuotientBounds m x q
quotient-bounds m v x q r small h = record {
  most = most-of word m v x q (omega arith) (omega (arith, r.most)) h.most;
  next = next_of word m v x q r.positive (omega arith) r.next h.next;
}

-- ---- what is left of x
rest-mod : (m x q rest : ℕ) → rest + q * m ≡ x → rest < m → rest ≡ x % m
rest-mod m x q rest e l = sym (ap (λ z. z % m) (sym e) ∙ add-mul-mod_self_right rest q m ∙ mod-eq_of_lt l)

-- less is the rest less m; where that wraps it is the greater
pub lesser-is : (m x q less r : ℕ) → 0 < m → m < half → x < word → QuotientBounds m x q → (less + m) % word ≡ x - q * m → less < word
    → LesserOf less (x - q * m) r → r ≡ x % m
lesser-is m x q less r pos narrow small b e fits l = by (dec_lt less (x - q * m))
  where
    by : Dec (less < x - q * m) → r ≡ x % m
    by (yes g) =
        let once : (q + 1) * m ≡ q * m + m = add-mul q 1 m ∙ ap (λ z. q * m + z) (one-mul m) in
        l.first g ∙ rest-mod m x (q + 1) less (omega (arith, e, b.most, b.next)) (omega (arith, e, b.most, b.next))
    by (no g) = l.second (omega arith) ∙ rest-mod m x q (x - q * m) (omega (arith, b.most)) (omega (arith, e, fits, b.most, b.next))

pub remainder-fits : (m x r : ℕ) → 0 < m → m < half → r ≡ x % m → r < half
remainder-fits m x r pos narrow e = let below : x % m < m = mod-lt x pos in omega arith
