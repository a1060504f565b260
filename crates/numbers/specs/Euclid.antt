-- The greatest common factor, and Euclid's algorithm with residues as cofactors.
--   GreatestFactor g x m   g divides x and m, and whatever divides both divides g
--   Euclid m x r s t u     a state on the way: r and s have the common factors of x and m, and are t x and u x modulo m
-- Proved: where the algorithm begins, one step, and what it has found when s is 0; there is exactly one greatest common factor;
-- from m = 2 on, x has an inverse if and only if only 1 divides both x and m, or their greatest common factor is 1.
-- Assumes nothing.
use Rattle.std.specs.Prelude.{◌≡◌, [], ◌∷◌, ◌↔◌, ℕ, zero, suc, ◌+◌, ◌*◌, ◌/◌, ◌%◌, ◌<◌, ◌≤◌}
use Rattle.std.proofs.Common.{sym, ◌∙◌, ap, subst, div-add-mod', le_refl, mod-eq_of_lt, mod-lt, mul_comm, one-mul, zero-mul, arith}
use Rattle.std.specs.Int.{◌∣◌}
use Rattle.std.proofs.Math.Nat.{dvd_antisymm, dvd-mod_iff, dvd-mul_right_of_dvd, dvd_refl, dvd-zero, eq-one_of_dvd-one, mod_self, one-dvd}
use Rattle.std.proofs.Math.Nat.{zero-mod}
use Rattle.algebra.specs.Residues.{Zmod, res, mod-of-res}
use Rattle.algebra.specs.Ring.{CommRing}
use Rattle.algebra.specs.Solver.{linear, scaled, both, reify}
use Rattle.definitions.specs.Number.{HasInverse, negative}
use Rattle.numbers.specs.Residue.{bridge, residue-multiple}

pub record GreatestFactor (g x m : ℕ) : Type 0 where
  pub divides_first : g ∣ x
  pub divides_second : g ∣ m
  pub greatest : (d : ℕ) → d ∣ x → d ∣ m → d ∣ g

pub greatest-factor-unique : {g g' x m : ℕ} → GreatestFactor g x m → GreatestFactor g' x m → g ≡ g'
greatest-factor-unique {g} {g'} p q =
    dvd_antisymm (q.greatest g p.divides_first p.divides_second) (p.greatest g' q.divides_first q.divides_second)

pub greatest-factor-zero : (x : ℕ) → GreatestFactor x x 0
greatest-factor-zero x = record { divides_first = dvd_refl x; divides_second = dvd-zero x; greatest = λ d p q. p }

pub greatest-factor-one : (x : ℕ) → GreatestFactor 1 x 1
greatest-factor-one x = record { divides_first = one-dvd x; divides_second = dvd_refl 1; greatest = λ d p q. q }

pub record Euclid (m x r s t u : ℕ) : Type 0 where
  pub first_below : t < m
  pub second_below : u < m
  pub first : r % m ≡ t * x % m
  pub second : s % m ≡ u * x % m
  pub factors : (d : ℕ) → ((d ∣ r) × (d ∣ s)) ↔ ((d ∣ x) × (d ∣ m))

-- r = q s + ρ, r ≡ t x and s ≡ u x give ρ ≡ (t - q u) x
cofactor : (m : ℕ) → 0 < m → (x q ρ r s t u : ℕ) → q * s + ρ ≡ r → r % m ≡ t * x % m → s % m ≡ u * x % m
    → ρ % m ≡ (t + negative m (q * u)) % m * x % m
cofactor m pos x q ρ r s t u whole first second = mod-of-res m pos ρ ((t + negative m (q * u)) % m * x) (simp bridge
    (linear R (ι x ∷ ι q ∷ ι ρ ∷ ι r ∷ ι s ∷ ι t ∷ ι u ∷ [])
    (both R (scaled R R.one (simp bridge at (ap ι whole)))
    (both R (scaled R R.one (residue-multiple m pos x r t first)) (scaled R (R.neg (ι q)) (residue-multiple m pos x s u second))))
    (search reify depth 20) tt))
  where
    R : CommRing
    R = Zmod m pos

    ι : ℕ → R.Car
    ι = res m pos

module _ (m x : ℕ) (two : 2 ≤ m) where
  pub euclid-start : Euclid m x m x 0 1
  euclid-start =
      record {
        first_below = omega arith;
        second_below = two;
        first = mod_self m ∙ sym (rw zero-mul (zero-mod m));
        second = rw one-mul;
        factors = λ d. (λ p. (p.1, p.0), λ p. (p.1, p.0));
      }

  module _ (r s t u : ℕ) (state : Euclid m x r s t u) where
    pub euclid-step : Euclid m x s (r % s) u ((t + negative m (r / s * u)) % m)
    euclid-step =
        record {
          first_below = state.second_below;
          second_below = mod-lt (t + negative m (r / s * u)) (omega arith);
          first = state.second;
          second = cofactor m (omega arith) x (r / s) (r % s) r s t u (div-add-mod' r s) state.first state.second;
          factors = λ d. (
            λ p. (state.factors d).0 ((dvd-mod_iff d p.0).0 p.1, p.0),
            λ p. let old = (state.factors d).1 p in (old.1, (dvd-mod_iff d old.1).1 old.0),
          );
        }

  -- when s is 0
  module _ (g t u : ℕ) (state : Euclid m x g 0 t u) where
    pub euclid-factor : GreatestFactor g x m
    euclid-factor =
        let divides = (state.factors g).0 (dvd_refl g, dvd-zero g) in
        record { divides_first = divides.0; divides_second = divides.1; greatest = λ d p q. ((state.factors d).1 (p, q)).0 }

    pub euclid-inverse : g ≡ 1 → x * t % m ≡ 1
    euclid-inverse e = rw mul_comm (sym state.first ∙ rw e (mod-eq_of_lt two))

  -- the algorithm, k steps at most
  euclid-run : (k r s t u : ℕ) → s ≤ k → Euclid m x r s t u → (g : ℕ) × (t : ℕ) × (u : ℕ) × Euclid m x g 0 t u
  euclid-run zero r zero t u h state = (r, t, u, state)
  euclid-run zero r (suc s) t u h state = absurd (omega arith)
  euclid-run (suc k) r zero t u h state = (r, t, u, state)
  euclid-run (suc k) r (suc s) t u h state =
      let less : r % suc s < suc s = mod-lt r (omega arith) in
      euclid-run k (suc s) (r % suc s) u ((t + negative m (r / suc s * u)) % m) (omega arith) (euclid-step r (suc s) t u state)

  euclid-whole : (g : ℕ) × (t : ℕ) × (u : ℕ) × Euclid m x g 0 t u
  euclid-whole = euclid-run x m x 0 1 (le_refl x) euclid-start

pub greatest-factor : (x m : ℕ) → (g : ℕ) × GreatestFactor g x m
greatest-factor x zero = (x, greatest-factor-zero x)
greatest-factor x (suc zero) = (1, greatest-factor-one x)
greatest-factor x (suc (suc m)) =
    let two : 2 ≤ suc (suc m) = omega arith in
    let (g, t, u, state) = euclid-whole (suc (suc m)) x two in
    (g, euclid-factor (suc (suc m)) x two g t u state)

-- inverses and common factors
pub inverse-common-factor : (m x d : ℕ) → HasInverse m x → d ∣ x → d ∣ m → d ≡ 1
unfolding HasInverse
inverse-common-factor m x d (y, e) p q = eq-one_of_dvd-one (subst (λ t. d ∣ t) e ((dvd-mod_iff d q).1 (dvd-mul_right_of_dvd d p y)))

module _ (m x : ℕ) (two : 2 ≤ m) where
  pub has-inverse-coprime : HasInverse m x ↔ ((d : ℕ) → d ∣ x → d ∣ m → d ≡ 1)
  unfolding HasInverse
  has-inverse-coprime = (λ i d p q. inverse-common-factor m x d i p q, to)
    where
      to : ((d : ℕ) → d ∣ x → d ∣ m → d ≡ 1) → HasInverse m x
      to only =
          let (g, t, u, state) = euclid-whole m x two in
          let factor = euclid-factor m x two g t u state in
          (t, euclid-inverse m x two g t u state (only g factor.divides_first factor.divides_second))

  pub has-inverse-greatest : (g : ℕ) → GreatestFactor g x m → HasInverse m x ↔ (g ≡ 1)
  has-inverse-greatest g factor = (
    λ i. inverse-common-factor m x g i factor.divides_first factor.divides_second,
    λ e. has-inverse-coprime.1 (λ d p q. eq-one_of_dvd-one (rw e at (factor.greatest d p q))),
  )
