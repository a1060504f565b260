-- Euclid's algorithm on unsigned numbers, with the cofactors' amounts and no remainders: their signs take turns, and they are at
-- most m.
--   Turning m x r s t u   before a turn: r is -t x and s is u x modulo m, and r u + s t is m
--   Turned m x s r t u    in the middle of it, when r has been divided by s
-- Proved: where the algorithm begins, both halves of a turn, that the cofactors fit, and what has been found at either end.
-- Assumes nothing.
use Rattle.std.specs.Prelude.{◌≡◌, [], ◌∷◌, ◌↔◌, ℕ, zero, suc, ◌+◌, ◌*◌, ◌-◌, ◌/◌, ◌%◌, ◌<◌, ◌≤◌}
use Rattle.std.proofs.Common.{sym, ◌∙◌, ap, mul-add, add-mul, mul_assoc, mul_comm, mul_left_comm, mul-le-mul_right, mul-le-mul_left}
use Rattle.std.proofs.Common.{div-add-mod', mod-lt, mod-eq_of_lt, one-mul, mul-one, zero-mul, mul-zero, add-zero, arith}
use Rattle.std.specs.Int.{◌∣◌}
use Rattle.std.proofs.Math.Nat.{dvd-mod_iff, dvd_refl, dvd-zero, mod_self, zero-mod}
use Rattle.algebra.specs.Residues.{Zmod, res, res-of-mod, mod-of-res}
use Rattle.algebra.specs.Ring.{CommRing}
use Rattle.algebra.specs.Solver.{linear, scaled, both, reify}
use Rattle.definitions.specs.Number.{HasInverse}
use Rattle.numbers.specs.Euclid.{GreatestFactor, has-inverse-greatest}
use Rattle.numbers.specs.Inverse.{inverse-unique}
use Rattle.numbers.specs.Residue.{bridge, residue-multiple}
use Rattle.residue.specs.Inversion.{IsInverse, SharesFactor}

abbrev Common : ℕ → ℕ → ℕ → ℕ → Type 0
Common r s x m = (d : ℕ) → ((d ∣ r) × (d ∣ s)) ↔ ((d ∣ x) × (d ∣ m))

pub record Turning (m x r s t u : ℕ) : Type 0 where
  pub whole : r * u + s * t ≡ m
  pub more : t < u
  pub above : 0 < s → 2 ≤ r
  pub positive : 0 < r
  pub first : (r + t * x) % m ≡ 0 % m
  pub second : s % m ≡ u * x % m
  pub factors : Common r s x m

pub record Turned (m x s r t u : ℕ) : Type 0 where
  pub whole : s * t + r * u ≡ m
  pub some : 0 < u
  pub below : u < m
  pub less : r < s
  pub first : (r + t * x) % m ≡ 0 % m
  pub second : s % m ≡ u * x % m
  pub factors : Common s r x m

-- ---- the amounts
balance : (r s t u : ℕ) → s * (t + r / s * u) + r % s * u ≡ r * u + s * t
balance r s t u =
    let e₁ : s * (t + r / s * u) ≡ s * t + s * (r / s * u) = mul-add s t (r / s * u) in
    let e₂ : s * (r / s * u) ≡ r / s * s * u = mul_left_comm s (r / s) u ∙ sym (mul_assoc (r / s) s u) in
    let e₃ : r * u ≡ r / s * s * u + r % s * u = ap (λ z. z * u) (sym (div-add-mod' r s)) ∙ add-mul (r / s * s) (r % s) u in
    omega arith

-- ---- the residues
module _ (m : ℕ) (pos : 0 < m) (x : ℕ) where
  abbrev R : CommRing
  R = Zmod m pos

  abbrev ι : ℕ → R.Car
  ι = res m pos

  zero-form : (y : ℕ) → y % m ≡ 0 % m → ι y ≡ ι 0
  zero-form y e = res-of-mod m pos y 0 e

  -- r = q s + ρ
  first-half : (q ρ r s t u : ℕ) → q * s + ρ ≡ r → (r + t * x) % m ≡ 0 % m → s % m ≡ u * x % m → (ρ + (t + q * u) * x) % m ≡ 0 % m
  first-half q ρ r s t u whole first second = mod-of-res m pos (ρ + (t + q * u) * x) 0 (simp bridge
      (linear R (ι x ∷ ι q ∷ ι ρ ∷ ι r ∷ ι s ∷ ι t ∷ ι u ∷ [])
      (both R (scaled R R.one (simp bridge at (ap ι whole)))
      (both R (scaled R R.one (simp bridge at (zero-form (r + t * x) first)))
      (scaled R (R.neg (ι q)) (residue-multiple m pos x s u second))))
      (search reify depth 20) tt))

  second-half : (q σ s r t u : ℕ) → q * r + σ ≡ s → (r + t * x) % m ≡ 0 % m → s % m ≡ u * x % m → σ % m ≡ (u + q * t) * x % m
  second-half q σ s r t u whole first second = mod-of-res m pos σ ((u + q * t) * x) (simp bridge
      (linear R (ι x ∷ ι q ∷ ι σ ∷ ι r ∷ ι s ∷ ι t ∷ ι u ∷ [])
      (both R (scaled R R.one (simp bridge at (ap ι whole)))
      (both R (scaled R R.one (residue-multiple m pos x s u second))
      (scaled R (R.neg (ι q)) (simp bridge at (zero-form (r + t * x) first)))))
      (search reify depth 20) tt))

  -- what t lacks to m
  negative-inverse : (t y : ℕ) → y + t ≡ m → (1 + t * x) % m ≡ 0 % m → x * y % m ≡ 1 % m
  negative-inverse t y e first = mod-of-res m pos (x * y) 1 (simp bridge
      (linear R (ι x ∷ ι t ∷ ι y ∷ [])
      (both R (scaled R (ι x) (simp bridge at (zero-form (y + t) (ap (λ z. z % m) e ∙ mod_self m ∙ sym (zero-mod m)))))
      (scaled R (R.neg R.one) (simp bridge at (zero-form (1 + t * x) first)))) (search reify depth 20) tt))

-- ---- the turns
module _ (m x : ℕ) (two : 2 ≤ m) where
  pub turning-starts : Turning m x m x 0 1
  turning-starts = record {
    whole = rw (mul-one, mul-zero, add-zero);
    more = omega arith;
    above = λ h. two;
    positive = omega arith;
    first = rw (zero-mul, add-zero) (mod_self m ∙ sym (zero-mod m));
    second = rw one-mul;
    factors = λ d. (λ p. (p.1, p.0), λ p. (p.1, p.0));
  }

  module _ (r s t u : ℕ) (h : Turning m x r s t u) (l : 0 < s) where
    pub turned : Turned m x s (r % s) (t + r / s * u) u
    turned =
        let twice : 2 * u ≤ r * u = mul-le-mul_right u (h.above l) in
        record {
          whole = balance r s t u ∙ h.whole;
          some = omega (arith, h.more);
          below = omega (arith, h.whole, h.more);
          less = mod-lt r l;
          first = first-half m (omega arith) x (r / s) (r % s) r s t u (div-add-mod' r s) h.first h.second;
          second = h.second;
          factors = λ d. (
            λ p. (h.factors d).0 ((dvd-mod_iff d p.0).0 p.1, p.0),
            λ p. let old = (h.factors d).1 p in (old.1, (dvd-mod_iff d old.1).1 old.0),
          );
        }

    pub first_fits : t + r / s * u ≤ m
    first_fits =
        let e = balance r s t u ∙ h.whole in
        let k : (t + r / s * u) * 1 ≤ (t + r / s * u) * s = mul-le-mul_left (t + r / s * u) l in
        omega (arith, mul-one (t + r / s * u), mul_comm s (t + r / s * u))

  module _ (s r t u : ℕ) (h : Turned m x s r t u) (l : 0 < r) where
    pub turned-again : Turning m x r (s % r) t (u + s / r * t)
    turned-again =
        let e : r * (u + s / r * t) + s % r * t ≡ s * t + r * u = balance s r u t in
        let part : 1 * r ≤ s / r * r + s % r = omega (arith, div-add-mod' s r, h.less) in
        let once : 1 ≤ s / r = at_least (div-add-mod' s r) (mod-lt s l) in
        let k : t * 1 ≤ t * (s / r) = mul-le-mul_left t once in
        record {
          whole = e ∙ h.whole;
          more = omega (arith, mul-one t, mul_comm t (s / r), h.some);
          above = λ g. let f : s % r < r = mod-lt s l in omega arith;
          positive = l;
          first = h.first;
          second = second-half m (omega arith) x (s / r) (s % r) s r t u (div-add-mod' s r) h.first h.second;
          factors = λ d. (
            λ p. (h.factors d).0 ((dvd-mod_iff d p.0).0 p.1, p.0),
            λ p. let old = (h.factors d).1 p in (old.1, (dvd-mod_iff d old.1).1 old.0),
          );
        }
      where
        at_least : s / r * r + s % r ≡ s → s % r < r → 1 ≤ s / r
        at_least e f = by (s / r) e
          where
            by : (q : ℕ) → q * r + s % r ≡ s → 1 ≤ q
            by zero g = absurd (omega (arith, h.less, zero-mul r))
            by (suc q) g = omega arith

    pub second_fits : u + s / r * t ≤ m
    second_fits =
        let e : r * (u + s / r * t) + s % r * t ≡ s * t + r * u = balance s r u t in
        let k : (u + s / r * t) * 1 ≤ (u + s / r * t) * r = mul-le-mul_left (u + s / r * t) l in
        omega (arith, mul-one (u + s / r * t), mul_comm r (u + s / r * t), h.whole)

  -- ---- the ends
  greatest : (g : ℕ) → Common g 0 x m → GreatestFactor g x m
  greatest g f =
      let divides = (f g).0 (dvd_refl g, dvd-zero g) in
      record { divides_first = divides.0; divides_second = divides.1; greatest = λ d p q. ((f d).1 (p, q)).0 }

  is_inverse : (y : ℕ) → y < m → x * y % m ≡ 1 → IsInverse m x y
  is_inverse y l e = record { below = l; product = e; value = inverse-unique m x y two l e }

  shares : (g : ℕ) → Common g 0 x m → (g ≡ 1 → ⊥) → SharesFactor m x g
  unfolding HasInverse
  shares g f n =
      let factor = greatest g f in
      record { none = λ y h e. n ((has-inverse-greatest m x two g factor).0 (y, e)); factor = factor }

  module _ (s r t u : ℕ) (h : Turned m x s r t u) (z : r ≡ 0) where
    pub found-middle : s ≡ 1 → IsInverse m x u
    found-middle e =
        is_inverse u h.below (ap (λ y. y % m) (mul_comm x u) ∙ sym h.second ∙ ap (λ y. y % m) e ∙ mod-eq_of_lt (omega arith))

    pub absent-middle : (s ≡ 1 → ⊥) → SharesFactor m x s
    absent-middle n = shares s (rw z at h.factors) n

  module _ (r s t u : ℕ) (h : Turning m x r s t u) (z : s ≡ 0) where
    pub at_most : r ≡ 1 → t < m
    at_most e = let w : 1 * u + 0 * t ≡ m = rw (← e, ← z) h.whole in omega (arith, h.more, one-mul u, zero-mul t)

    pub found-end : r ≡ 1 → IsInverse m x (m - t)
    found-end e =
        let l = at_most e in
        let f : (1 + t * x) % m ≡ 0 % m = rw (← e) h.first in
        is_inverse (m - t) (less h.first) (negative-inverse m (omega arith) x t (m - t) (omega arith) f ∙ mod-eq_of_lt (omega arith))
      where
        less : (r + t * x) % m ≡ 0 % m → m - t < m
        less f = by t f
          where
            by : (k : ℕ) → (r + k * x) % m ≡ 0 % m → m - k < m
            by zero g =
                absurd
                (omega (
                  arith,
                  sym (ap (λ y. y % m) (ap (λ y. y + 0 * x) e ∙ ap (λ y. 1 + y) (zero-mul x))) ∙ g ∙ zero-mod m,
                  mod-eq_of_lt two,
                ))
            by (suc k) g = omega arith

    pub absent-end : (r ≡ 1 → ⊥) → SharesFactor m x r
    absent-end n = shares r (rw z at h.factors) n
