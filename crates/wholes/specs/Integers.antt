-- The whole numbers, the kit's ℤ, as differences of two natural numbers, and their ring.
--   up z, down z   the two numbers whose difference z is: z and 0, or 0 and -z
--   whole          the commutative ring of the whole numbers
-- `omega` does not read ℤ; it reads up and down. Proved: a law in ℕ for each operation and for both orders, and that equal differences are
-- equal numbers (z-ext). Assumes nothing.
use Rattle.std.specs.Prelude.{Bool, true, false, cond, ◌↔◌, ◌≡◌, refl, ℕ, zero, suc, ◌+◌, ◌*◌, ◌-◌, ◌≤◌, ◌<◌, ltb, ℤ, pos, negsuc, neg_ℤ, ◌+ℤ◌, ◌*ℤ◌}
use Rattle.std.proofs.Common.{true≢false, sym, ap, arith, ltb-true, ltb-false, lt-ltb, leb-true, le-leb}
use Rattle.std.proofs.Math.IntN.{sub_ℕ, ℤ_set}
use Rattle.std.specs.Int.Signed.{lt_z, le_z}
use Rattle.algebra.specs.Ring.{CommRing}

abbrev pub up : ℤ → ℕ
up (pos n) = n
up (negsuc n) = 0

abbrev pub down : ℤ → ℕ
down (pos n) = 0
down (negsuc n) = suc n

pub z-ext : (z w : ℤ) → up z + down w ≡ up w + down z → z ≡ w
z-ext (pos a) (pos b) e = ap pos (omega arith)
z-ext (pos a) (negsuc b) e = absurd (omega arith)
z-ext (negsuc a) (pos b) e = absurd (omega arith)
z-ext (negsuc a) (negsuc b) e = ap negsuc (omega arith)

-- ---- the operations
sub-law : (a b : ℕ) → up (sub_ℕ a b) + b ≡ a + down (sub_ℕ a b)
sub-law a b = by (ltb a b) refl
  where
    by : (t : Bool) → ltb a b ≡ t
        → up (cond t (negsuc (b - suc a)) (pos (a - b))) + b ≡ a + down (cond t (negsuc (b - suc a)) (pos (a - b)))
    by true e = omega (arith, ltb-true a b e)
    by false e = omega (arith, ltb-false a b e)

pub add-law : (z w : ℤ) → up (z +ℤ w) + (down z + down w) ≡ up z + up w + down (z +ℤ w)
add-law (pos a) (pos b) = omega arith
add-law (pos a) (negsuc b) = omega (arith, sub-law a (suc b))
add-law (negsuc a) (pos b) = omega (arith, sub-law b (suc a))
add-law (negsuc a) (negsuc b) = omega arith

pub neg-law : (z : ℤ) → up (neg_ℤ z) + up z ≡ down z + down (neg_ℤ z)
neg-law (pos zero) = refl
neg-law (pos (suc n)) = omega arith
neg-law (negsuc n) = omega arith

pub mul-law : (z w : ℤ) → up (z *ℤ w) + (up z * down w + down z * up w) ≡ up z * up w + down z * down w + down (z *ℤ w)
mul-law (pos a) (pos b) = omega arith
mul-law (pos a) (negsuc b) = omega (arith, neg-law (pos (a * suc b)))
mul-law (negsuc a) (pos b) = omega (arith, neg-law (pos (suc a * b)))
mul-law (negsuc a) (negsuc b) = omega arith

-- ---- the orders
pub lt-law : (z w : ℤ) → (lt_z z w ≡ true) ↔ (up z + down w < up w + down z)
lt-law (pos a) (pos b) = (λ e. omega (arith, ltb-true a b e), λ h. lt-ltb a b (omega arith))
lt-law (pos a) (negsuc b) = (λ e. absurd (true≢false (sym e)), λ h. absurd (omega arith))
lt-law (negsuc a) (pos b) = (λ e. omega arith, λ h. refl)
lt-law (negsuc a) (negsuc b) = (λ e. omega (arith, ltb-true b a e), λ h. lt-ltb b a (omega arith))

pub le-law : (z w : ℤ) → (le_z z w ≡ true) ↔ (up z + down w ≤ up w + down z)
le-law (pos a) (pos b) = (λ e. omega (arith, leb-true a b e), λ h. le-leb a b (omega arith))
le-law (pos a) (negsuc b) = (λ e. absurd (true≢false (sym e)), λ h. absurd (omega arith))
le-law (negsuc a) (pos b) = (λ e. omega arith, λ h. refl)
le-law (negsuc a) (negsuc b) = (λ e. omega (arith, leb-true b a e), λ h. le-leb b a (omega arith))

-- ---- the ring
pub add_assoc : (x y z : ℤ) → (x +ℤ y) +ℤ z ≡ x +ℤ (y +ℤ z)
add_assoc x y z = z-ext _ _ (omega (arith, add-law x y, add-law (x +ℤ y) z, add-law y z, add-law x (y +ℤ z)))

pub add_comm : (x y : ℤ) → x +ℤ y ≡ y +ℤ x
add_comm x y = z-ext _ _ (omega (arith, add-law x y, add-law y x))

pub add-zero : (x : ℤ) → x +ℤ pos 0 ≡ x
add-zero x = z-ext _ _ (omega (arith, add-law x (pos 0)))

pub add-neg : (x : ℤ) → x +ℤ neg_ℤ x ≡ pos 0
add-neg x = z-ext _ _ (omega (arith, add-law x (neg_ℤ x), neg-law x))

pub mul_comm : (x y : ℤ) → x *ℤ y ≡ y *ℤ x
mul_comm x y = z-ext _ _ (omega (arith, mul-law x y, mul-law y x))

pub mul-one : (x : ℤ) → x *ℤ pos 1 ≡ x
mul-one x = z-ext _ _ (omega (arith, mul-law x (pos 1)))

-- the inner law times each outer number
pub mul_assoc : (x y z : ℤ) → (x *ℤ y) *ℤ z ≡ x *ℤ (y *ℤ z)
mul_assoc x y z =
    z-ext _ _ (omega (
      arith,
      mul-law (x *ℤ y) z,
      ap (λ t. t * up z) (mul-law x y),
      ap (λ t. t * down z) (mul-law x y),
      mul-law x (y *ℤ z),
      ap (λ t. up x * t) (mul-law y z),
      ap (λ t. down x * t) (mul-law y z),
    ))

pub mul-add : (x y z : ℤ) → x *ℤ (y +ℤ z) ≡ x *ℤ y +ℤ x *ℤ z
mul-add x y z =
    z-ext _ _ (omega (
      arith,
      mul-law x (y +ℤ z),
      ap (λ t. up x * t) (add-law y z),
      ap (λ t. down x * t) (add-law y z),
      add-law (x *ℤ y) (x *ℤ z),
      mul-law x y,
      mul-law x z,
    ))

abbrev pub whole : CommRing
whole = record {
  Car = ℤ;
  is_set = ℤ_set;
  zero = pos 0;
  one = pos 1;
  add = ◌+ℤ◌;
  mul = ◌*ℤ◌;
  neg = neg_ℤ;
  add_assoc = add_assoc;
  add_comm = add_comm;
  add-zero = add-zero;
  add-neg = add-neg;
  mul_assoc = mul_assoc;
  mul_comm = mul_comm;
  mul-one = mul-one;
  mul-add = mul-add;
}
