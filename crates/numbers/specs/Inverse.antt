-- Inverses modulo m, for general m.
-- Proved: the search of `definitions` finds an inverse where there is one, below m, and answers 0 where there is none; there is at
-- most one below m; zero has none; whether x has one, and which, depends on the remainder of x only; a product has one if and only if both
-- factors have.
-- Assumes nothing.
use Rattle.std.specs.Prelude.{◌≡◌, ◌↔◌, ◌⊎◌, eqb}
use Rattle.std.proofs.Math.Path.{refl, sym, ap₂}
use Rattle.std.proofs.Common.{◌∙◌, ap, mod-lt, mul_assoc, mul_comm, mul_left_comm, mul-one, one-mul, zero-mul, eq-eqb, ne_eqb}
use Rattle.std.proofs.Math.Bool.{true, false}
use Rattle.std.proofs.Math.Logic.{inl, inr, ⊎_elim}
use Prim.Native.Nat.{ℕ, zero, suc, ◌*◌, ◌-◌, ◌%◌, ◌<◌, ◌≤◌}
use Rattle.std.proofs.Math.Decide.{ℕ_discrete}
use Rattle.std.proofs.Math.Nat.{mod-eq_of_lt, mul-mul-mul_comm, zero-mod}
use native.Mathlib.Omega.{arith}
use Rattle.algebra.specs.Residues.{mod-mul-mod, mul-mod-mod}
use Rattle.definitions.specs.Number.{HasInverse, inverse, inverse_below}

-- what the search below k answers
record Searched (m x k r : ℕ) : Type 0 where
  finds : (y : ℕ) → y < k → x * y % m ≡ 1 → x * r % m ≡ 1
  bound : r ≤ k - 1
  settled : (x * r % m ≡ 1) ⊎ (r ≡ 0)

module _ (m x : ℕ) where
  search-here : (k : ℕ) → x * k % m ≡ 1 → inverse_below m x (suc k) ≡ k
  unfolding inverse_below
  search-here k e = rw (eq-eqb (x * k % m) 1 e, inverse_below)

  search-down : (k : ℕ) → (x * k % m ≡ 1 → ⊥) → inverse_below m x (suc k) ≡ inverse_below m x k
  unfolding inverse_below
  search-down k n = rw (ne_eqb (x * k % m) 1 n, inverse_below)

  searched : (k : ℕ) → Searched m x k (inverse_below m x k)
  unfolding inverse_below
  searched zero = record { finds = λ y h e. absurd (omega arith); bound = omega arith; settled = inr refl }
  searched (suc k) = step (ℕ_discrete (x * k % m) 1) (searched k)
    where
      step : Dec (x * k % m ≡ 1) → Searched m x k (inverse_below m x k) → Searched m x (suc k) (inverse_below m x (suc k))
      step (yes e) s = rw (search-here k e) (record { finds = λ y h f. e; bound = omega arith; settled = inl e })
      step (no n) s = rw (search-down k n) (record { finds = finds; bound = omega arith; settled = s.settled })
        where
          finds : (y : ℕ) → y < suc k → x * y % m ≡ 1 → x * inverse_below m x k % m ≡ 1
          finds y h f =
              let other : y ≡ k → ⊥ = λ same. n (rw same at f) in
              s.finds y (omega arith) f

-- the inverse
module _ (m x : ℕ) where
  pub inverse-right : 0 < m → HasInverse m x → x * inverse m x % m ≡ 1
  unfolding inverse HasInverse
  inverse-right h (y, e) = (searched m x m).finds (y % m) (mod-lt y h) (mul-mod-mod x y m ∙ e)

  pub inverse-below : 0 < m → inverse m x < m
  unfolding inverse
  inverse-below h = omega (arith, (searched m x m).bound)

  pub inverse-absent : (HasInverse m x → ⊥) → inverse m x ≡ 0
  unfolding inverse HasInverse
  inverse-absent n = ⊎_elim (λ e. absurd (n (inverse m x, e))) (λ e. e) (searched m x m).settled

  -- two inverses have one remainder
  inverses-agree : (y z : ℕ) → x * y % m ≡ 1 → x * z % m ≡ 1 → y % m ≡ z % m
  inverses-agree y z e f =
      let regrouped : y * (x * z) ≡ x * y * z = sym (mul_assoc y x z) ∙ ap (λ t. t * z) (mul_comm y x) in
      cc (mul-mod-mod y (x * z) m, mod-mul-mod (x * y) z m, mul-one y, one-mul z)

  pub inverse-unique : (y : ℕ) → 1 < m → y < m → x * y % m ≡ 1 → y ≡ inverse m x
  unfolding HasInverse
  inverse-unique y h l e =
      let p : 0 < m = omega arith in
      sym (mod-eq_of_lt l) ∙ inverses-agree y (inverse m x) e (inverse-right p (y, e)) ∙ mod-eq_of_lt (inverse-below p)

pub has-inverse-positive : (m x : ℕ) → HasInverse m x → 0 < x
unfolding HasInverse
has-inverse-positive m zero (y, e) = absurd (omega (arith, sym (ap (λ t. t % m) (zero-mul y) ∙ zero-mod m) ∙ e))
has-inverse-positive m (suc x) has = omega arith

pub one-has-inverse : (m : ℕ) → 1 < m → HasInverse m 1
unfolding HasInverse
one-has-inverse m h = (1, mod-eq_of_lt h)

-- numbers of one remainder have the same inverse, or both have none
module _ (m x y : ℕ) (same : x % m ≡ y % m) where
  products-agree : (z : ℕ) → x * z % m ≡ y * z % m
  products-agree z = sym (mod-mul-mod x z m) ∙ rw same (mod-mul-mod y z m)

  pub has-inverse-remainder : HasInverse m x → HasInverse m y
  unfolding HasInverse
  has-inverse-remainder (z, e) = (z, sym (products-agree z) ∙ e)

  search-remainder : (k : ℕ) → inverse_below m x k ≡ inverse_below m y k
  unfolding inverse_below
  search-remainder zero = refl
  search-remainder (suc k) =
      ap₂ (λ (p r : ℕ). elim (eqb p 1) as (λ _. ℕ) [ true ↦ k | false ↦ r ]) (products-agree k) (search-remainder k)

  pub inverse-remainder : inverse m x ≡ inverse m y
  unfolding inverse
  inverse-remainder = search-remainder m

pub product-has-inverse : (m x y : ℕ) → HasInverse m (x * y) ↔ (HasInverse m x × HasInverse m y)
unfolding HasInverse
product-has-inverse m x y = (apart, together)
  where
    apart : HasInverse m (x * y) → HasInverse m x × HasInverse m y
    apart (z, e) = ((y * z, rw (← mul_assoc) e), (x * z, rw (mul_left_comm y x z, ← mul_assoc) e))

    together : HasInverse m x × HasInverse m y → HasInverse m (x * y)
    together ((z, e), (w, f)) =
        (z * w, rw (mul-mul-mul_comm x y z w, ← mod-mul-mod (x * z) (y * w) m, e, one-mul) f)
