-- The joined value: there is one, there is no other, and which it is.
-- Proved, for moduli without a common factor and remainders below them: joined-joins, the joined value is in the range and leaves both;
-- joined-only, no other whole number does; joined-exact, a whole number in the range is joined from its own remainders; joined-lift, it is
-- the balanced lift; same-modulo-both, what two whole numbers leave modulo both settles what they leave modulo m m'. These rest on `balanced`
-- and Whole, which edits of specs/ change. Assumes nothing.
use Rattle.std.specs.Prelude.{Bool, [], ◌∷◌, ◌≡◌, refl, ltb, ℤ}
use Rattle.std.proofs.Math.Bool.{true, false}
use Rattle.std.proofs.Common.{true≢false, ◌∙◌, subst, mul_comm, div-lt_iff_lt-mul, ltb-true, ltb-false}
use Rattle.std.proofs.Math.Path.{sym, ap}
use Prim.Native.Nat.{ℕ, zero, suc, ◌+◌, ◌*◌, ◌-◌, ◌/◌, ◌%◌, ◌≤◌, ◌<◌}
use Rattle.std.proofs.Math.Nat.{mod-lt, mod-eq_of_lt, mod-add-div, add-mul-mod_self_left, mul-le-mul_left, mul-mod_right, mul-mod_left}
use Rattle.std.proofs.Math.Nat.{zero-mod}
use native.Mathlib.Omega.{arith}
use Rattle.std.proofs.Math.IntN.{pos, negsuc}
use Rattle.algebra.specs.Residues.{Zmod, res, res-zero, res_one, res-add, res-mul, res-mod, res-of-mod, mod-of-res, res-injective}
use Rattle.algebra.specs.Ring.{CommRing}
use Rattle.algebra.specs.Solver.{linear, scaled, both, reify}
use Rattle.definitions.specs.Number.{HasInverse}
use Rattle.joining.specs.Whole.{remainder, in_range, joins, joined_up_to, joined}
use Rattle.wholes.specs.Integers.{up, down, z-ext}
use Rattle.wholes.specs.Reduction.{remainder-lt, remainder-apart, remainder-multiple}
use Rattle.wholes.specs.Joined.{InRange, range-law, range_size, Joins, joins-law, balanced, balanced-small, balanced-large, Whole, times, lift}

-- ---- the search: where v joins, is not greater in size than k and nothing else joins, it is found
found : (m m' x y : ℕ) (v : ℤ) → joins m m' x y v ≡ true → ((w : ℤ) → joins m m' x y w ≡ true → w ≡ v) → (k : ℕ) → up v + down v ≤ k
    → joined_up_to m m' x y k ≡ v
unfolding joined_up_to
found m m' x y v here only zero h = z-ext (pos 0) v (omega arith)
found m m' x y v here only (suc k) h = above (joins m m' x y (pos (suc k))) refl (found m m' x y v here only k)
  where
    apart : (w : ℤ) → joins m m' x y w ≡ false → w ≡ v → ⊥
    apart w e same = true≢false (sym here ∙ ap (joins m m' x y) (sym same) ∙ e)

    smaller : (z : ℤ) → (pos (suc k) ≡ z → ⊥) → (negsuc k ≡ z → ⊥) → up z + down z ≤ suc k → up z + down z ≤ k
    smaller (pos n) p q l =
        let other : suc k ≡ n → ⊥ = λ e. p (ap pos e) in
        omega arith
    smaller (negsuc n) p q l =
        let other : k ≡ n → ⊥ = λ e. q (ap negsuc e) in
        omega arith

    below : (t : Bool) → joins m m' x y (negsuc k) ≡ t → joins m m' x y (pos (suc k)) ≡ false → (up v + down v ≤ k → joined_up_to m m' x y k ≡ v)
        → elim t [ true ↦ negsuc k | false ↦ joined_up_to m m' x y k ] ≡ v
    below true e f again = only (negsuc k) e
    below false e f again = again (smaller v (apart (pos (suc k)) f) (apart (negsuc k) e) h)

    above : (t : Bool) → joins m m' x y (pos (suc k)) ≡ t → (up v + down v ≤ k → joined_up_to m m' x y k ≡ v)
        → elim t [ true ↦ pos (suc k) | false ↦ elim (joins m m' x y (negsuc k)) [ true ↦ negsuc k | false ↦ joined_up_to m m' x y k ] ] ≡ v
    above true e again = only (pos (suc k)) e
    above false e again = below (joins m m' x y (negsuc k)) refl e again

-- both cases at once
balanced-by : (w u : ℕ) (P : ℤ → Type 0) → (2 * u ≤ w → P (pos u)) → (w < 2 * u → P (negsuc (w - suc u))) → P (balanced w u)
balanced-by w u P small large = by (ltb w (2 * u)) refl
  where
    by : (t : Bool) → ltb w (2 * u) ≡ t → P (balanced w u)
    by true e = let h : w < 2 * u = ltb-true w (2 * u) e in rw (balanced-large w u h) (large h)
    by false e = let h : 2 * u ≤ w = ltb-false w (2 * u) e in rw (balanced-small w u h) (small h)

balanced-in-range : (w u : ℕ) → u < w → InRange w (balanced w u)
balanced-in-range w u l =
    balanced-by w u (InRange w) (λ h. record { low = omega arith; high = omega arith }) (λ h. record { low = omega arith; high = omega arith })

-- every number of the range is one
balanced-of : (w : ℕ) (v : ℤ) → InRange w v → (u : ℕ) × (u < w) × (v ≡ balanced w u)
balanced-of w (pos n) r =
    let h : 2 * n ≤ w = omega (arith, r.high) in
    (n, omega (arith, r.low), sym (balanced-small w n h))
balanced-of w (negsuc n) r =
    let h : 2 * suc n < w = omega (arith, r.low) in
    let g : w < 2 * (w - suc n) = omega arith in
    let e : w - suc (w - suc n) ≡ n = omega arith in
    (w - suc n, omega arith, sym (balanced-large w (w - suc n) g ∙ ap negsuc e))

-- modulo a divisor of w it leaves what u leaves
remainder-balanced : (m : ℕ) → 0 < m → (w u : ℕ) → w % m ≡ 0 → u < w → remainder m (balanced w u) ≡ u % m
remainder-balanced m p w u e l =
    balanced-by w u (λ v. remainder m v ≡ u % m) (λ h. remainder-apart m p (pos u) u 0 (zero-mod m) (omega arith))
    (λ h. remainder-apart m p (negsuc (w - suc u)) u w e (omega arith))

module _ (m m' k big : ℕ) (c : Whole m m' k big) where
  abbrev R : CommRing
  R = Zmod m' c.some'

  open R use {Car, zero as 𝟘, one as 𝟙, add as ◌⊕◌, mul as ◌⊗◌, neg as ⊖◌}

  infixl 65 ◌⊕◌
  infixl 70 ◌⊗◌
  infix 75 ⊖◌
  abbrev ι : ℕ → Car
  ι x = res m' c.some' x

  unit : ι m ⊗ ι k ≡ 𝟙
  unit =
      sym (res-mul m' c.some' m k) ∙ sym (res-mod m' c.some' (m * k)) ∙ ap (res m' c.some') c.inverse ∙ res_one m' c.some'

  none : ι big ≡ 𝟘
  none = res-of-mod m' c.some' big 0 (c.multiple ∙ sym (zero-mod m')) ∙ res-zero m' c.some'

  pub times-lt : (x y : ℕ) → times m' k big x y < m'
  unfolding times
  times-lt x y = mod-lt _ c.some'

  module _ (x y : ℕ) (l : x < m) where
    res-gap : ι (big - x) ⊕ ι x ≡ 𝟘
    res-gap = sym (res-add m' c.some' (big - x) x) ∙ ap (res m' c.some') (omega (arith, c.above)) ∙ none

    res-times : ι (times m' k big x y) ≡ (ι y ⊕ ι (big - x)) ⊗ ι k
    unfolding times
    res-times = simp (res-mod m' c.some', res-mul m' c.some', res-add m' c.some')

    pub lift-lt : lift m m' k big x y < m * m'
    unfolding lift
    lift-lt = let h : m * suc (times m' k big x y) ≤ m * m' = mul-le-mul_left m (times-lt x y) in omega arith

    lift-first : lift m m' k big x y % m ≡ x
    unfolding lift
    lift-first = add-mul-mod_self_left x m (times m' k big x y) ∙ mod-eq_of_lt l

    lift-second : y < m' → lift m m' k big x y % m' ≡ y
    unfolding lift
    lift-second h = mod-of-res m' c.some' (x + m * times m' k big x y) y same ∙ mod-eq_of_lt h
      where
        same : ι (x + m * times m' k big x y) ≡ ι y
        same = simp (res-add m' c.some', res-mul m' c.some', res-times)
            (linear R (ι x ∷ ι y ∷ ι m ∷ ι k ∷ ι (big - x) ∷ [])
            (both R (scaled R (ι y ⊕ ι (big - x)) unit) (scaled R 𝟙 res-gap)) (search reify depth 20) tt)

    -- no other number below m m' leaves x and y
    lift-only : (u : ℕ) → u < m * m' → u % m ≡ x → u % m' ≡ y → u ≡ lift m m' k big x y
    unfolding lift
    lift-only u h e f = sym (mod-add-div u m) ∙ omega (arith, e, ap (λ t. m * t) quotient)
      where
        split : ι x ⊕ ι m ⊗ ι (u / m) ≡ ι y
        split = simp (← res-mul m' c.some', ← res-add m' c.some')
            (ap (res m' c.some') (omega (arith, e, mod-add-div u m)) ∙ sym (res-mod m' c.some' u) ∙ ap (res m' c.some') f)

        small : u / m < m'
        small = (div-lt_iff_lt-mul c.some).1 (rw mul_comm h)

        quotient : u / m ≡ times m' k big x y
        quotient = res-injective m' c.some' (u / m) (times m' k big x y) small (times-lt x y)
            (rw res-times (linear R (ι x ∷ ι y ∷ ι m ∷ ι k ∷ ι (u / m) ∷ ι (big - x) ∷ [])
            (both R (both R (scaled R (ι k) split) (scaled R (⊖ ι (u / m)) unit)) (scaled R (⊖ ι k) res-gap)) (search reify depth 20) tt))

    -- ---- the joined value
    abbrev value : ℤ
    value = balanced (m * m') (lift m m' k big x y)

    module _ (l' : y < m') where
      value-joins : Joins m m' x y value
      value-joins = record {
        range = balanced-in-range (m * m') (lift m m' k big x y) lift-lt;
        first = remainder-balanced m c.some (m * m') (lift m m' k big x y) (mul-mod_right m m') lift-lt ∙ lift-first;
        second = remainder-balanced m' c.some' (m * m') (lift m m' k big x y) (mul-mod_left m m') lift-lt ∙ lift-second l';
      }

      value-only : (v : ℤ) → Joins m m' x y v → v ≡ value
      value-only v j =
          let u = balanced-of (m * m') v j.range in
          u.2 ∙ ap (balanced (m * m')) (lift-only u.0 u.1
          (sym (remainder-balanced m c.some (m * m') u.0 (mul-mod_right m m') u.1) ∙ ap (remainder m) (sym u.2) ∙ j.first)
          (sym (remainder-balanced m' c.some' (m * m') u.0 (mul-mod_left m m') u.1) ∙ ap (remainder m') (sym u.2) ∙ j.second))

      pub joined-lift : joined m m' x y ≡ balanced (m * m') (lift m m' k big x y)
      unfolding joined
      joined-lift = found m m' x y value ((joins-law m m' x y value).1 value-joins) (λ w e. value-only w ((joins-law m m' x y w).0 e)) (m * m')
          (range_size (m * m') value (balanced-in-range (m * m') (lift m m' k big x y) lift-lt))

-- ---- two moduli without a common factor: m has an inverse modulo m'
module _ (m m' : ℕ) (p : 0 < m) (p' : 0 < m') (apart : HasInverse m' m) where
  found-once : (k : ℕ) × Whole m m' k (m * m')
  unfolding HasInverse
  found-once = (
    apart.0,
    record {
      some = p;
      some' = p';
      inverse = apart.1;
      multiple = mul-mod_left m m';
      above = let h : m * 1 ≤ m * m' = mul-le-mul_left m p' in omega arith;
    },
  )

  module _ (x y : ℕ) (l : x < m) (l' : y < m') where
    joined-value : joined m m' x y ≡ balanced (m * m') (lift m m' found-once.0 (m * m') x y)
    joined-value = joined-lift m m' found-once.0 (m * m') found-once.1 x y l l'

    pub joined-has : Joins m m' x y (joined m m' x y)
    joined-has = rw joined-value (value-joins m m' found-once.0 (m * m') found-once.1 x y l l')

    pub joined-joins : joins m m' x y (joined m m' x y) ≡ true
    joined-joins = (joins-law m m' x y (joined m m' x y)).1 joined-has

  pub joined-only : (x y : ℕ) (v : ℤ) → joins m m' x y v ≡ true → v ≡ joined m m' x y
  joined-only x y v e =
      let j : Joins m m' x y v = (joins-law m m' x y v).0 e in
      let l : x < m = subst (λ t. t < m) j.first (remainder-lt m p v) in
      let l' : y < m' = subst (λ t. t < m') j.second (remainder-lt m' p' v) in
      value-only m m' found-once.0 (m * m') found-once.1 x y l l' v j ∙ sym (joined-value x y l l')

  pub joined-exact : (v : ℤ) → in_range (m * m') v ≡ true → joined m m' (remainder m v) (remainder m' v) ≡ v
  joined-exact v r =
      sym (joined-only (remainder m v) (remainder m' v) v ((joins-law m m' _ _ v).1 (record { range = (range-law (m * m') v).0 r; first = refl; second = refl })))

  -- two whole numbers that leave the same modulo both leave the same modulo m m'
  pub same-modulo-both : (z w : ℤ) → remainder m z ≡ remainder m w → remainder m' z ≡ remainder m' w
      → remainder (m * m') z ≡ remainder (m * m') w
  same-modulo-both z w e f = lifted z refl refl ∙ sym (lifted w (sym e) (sym f))
    where
      some : 0 < m * m'
      some = let h : m * 1 ≤ m * m' = mul-le-mul_left m p' in omega arith

      lifted : (v : ℤ) → remainder m v ≡ remainder m z → remainder m' v ≡ remainder m' z
          → remainder (m * m') v ≡ lift m m' found-once.0 (m * m') (remainder m z) (remainder m' z)
      lifted v g h = lift-only m m' found-once.0 (m * m') found-once.1 (remainder m z) (remainder m' z) (remainder-lt m p z)
          (remainder (m * m') v) (remainder-lt (m * m') some v) (remainder-multiple m p m' some v ∙ g)
          (ap (λ k. remainder k v % m') (mul_comm m m') ∙ remainder-multiple m' p' m (rw mul_comm some) v ∙ h)
