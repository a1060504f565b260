-- The greatest common factor, as `definitions` searches for it.
--   Greatest m x g   g is the greatest number that divides both x and m
-- Proved, for every modulus from 1 on: greatest_factor m x is that number (factor-greatest), and there is no other (greatest-unique);
-- it is the greatest common factor of Euclid, which whatever divides both divides (factor-is). From m = 2 on it is 1 if and only if x has
-- an inverse (factor-one). It is m for zero (factor-of-zero), and below m for the other numbers below m (factor-less).
-- Assumes nothing.
use Rattle.std.specs.Prelude.{◌≡◌, Bool, ◌&&◌, ◌↔◌}
use Rattle.std.proofs.Math.Path.{refl, subst}
use Rattle.std.proofs.Common.{sym, ◌∙◌, le_antisymm, arith, eqb-true, eq-eqb}
use Rattle.std.proofs.Math.Bool.{true, false, true≢false}
use Rattle.std.proofs.Math.Logic.Iff
use Prim.Native.Nat.{ℕ, zero, suc, ◌%◌, ◌<◌, ◌≤◌, ◌∣◌}
use Rattle.std.proofs.Math.Nat.{dvd_of_mod-eq-zero, mod-eq-zero_of_dvd, le_of_dvd, one-dvd, dvd_refl, dvd-zero, pos_of_dvd_of_pos}
use Rattle.definitions.specs.Number.{HasInverse, divides, factor_up_to, greatest_factor}
use Rattle.numbers.specs.Euclid.{GreatestFactor, greatest-factor, has-inverse-greatest}

pub record Greatest (m x g : ℕ) : Type 0 where
  pub divides_number : g ∣ x
  pub divides_modulus : g ∣ m
  pub greatest : (d : ℕ) → d ∣ x → d ∣ m → d ≤ g

pub greatest-unique : {m x g g' : ℕ} → Greatest m x g → Greatest m x g' → g ≡ g'
greatest-unique {m} {x} {g} {g'} p q =
    le_antisymm (q.greatest g p.divides_number p.divides_modulus) (p.greatest g' q.divides_number q.divides_modulus)

-- ---- the search
pub and_both : (s t : Bool) → ((s && t) ≡ true) ↔ ((s ≡ true) × (t ≡ true))
and_both true t = (λ e. (refl, e), λ p. p.1)
and_both false t = (λ e. absurd (true≢false (sym e)), λ p. absurd (true≢false (sym p.0)))

divides-is : (d x : ℕ) → (divides d x ≡ true) ↔ (d ∣ x)
unfolding divides
divides-is d x = (λ e. dvd_of_mod-eq-zero d (eqb-true (x % d) 0 e), λ p. eq-eqb (x % d) 0 (mod-eq-zero_of_dvd d p))

-- what the search up to k answers
record Sought (m x k r : ℕ) : Type 0 where
  divide : 0 < r → (r ∣ x) × (r ∣ m)
  least : (d : ℕ) → d ≤ k → d ∣ x → d ∣ m → d ≤ r

module _ (m x : ℕ) where
  both-divide : (d : ℕ) → ((divides d x && divides d m) ≡ true) ↔ ((d ∣ x) × (d ∣ m))
  both-divide d = Iff.trans (and_both (divides d x) (divides d m)) (
    λ p. ((divides-is d x).0 p.0, (divides-is d m).0 p.1),
    λ p. ((divides-is d x).1 p.0, (divides-is d m).1 p.1),
  )

  sought : (k : ℕ) → Sought m x k (factor_up_to m x k)
  unfolding factor_up_to
  sought zero = record { divide = λ h. absurd (omega arith); least = λ d h p q. h }
  sought (suc k) = split (divides (suc k) x && divides (suc k) m) refl (sought k)
    where
      split : (h : Bool) → (divides (suc k) x && divides (suc k) m) ≡ h → Sought m x k (factor_up_to m x k)
          → Sought m x (suc k) (elim h [ true ↦ suc k | false ↦ factor_up_to m x k ])
      split true e s = record { divide = λ h. (both-divide (suc k)).0 e; least = λ d h p q. h }
      split false e s = record { divide = s.divide; least = least }
        where
          least : (d : ℕ) → d ≤ suc k → d ∣ x → d ∣ m → d ≤ factor_up_to m x k
          least d h p q =
              let other : d ≡ suc k → ⊥ =
              λ same. true≢false (sym ((both-divide (suc k)).1 (subst (λ y. y ∣ x) same p, subst (λ y. y ∣ m) same q)) ∙ e) in
              s.least d (omega arith) p q

  module _ (pos : 0 < m) where
    pub factor-greatest : Greatest m x (greatest_factor m x)
    unfolding greatest_factor
    factor-greatest =
        let found = sought m in
        let some : 1 ≤ greatest_factor m x = found.least 1 pos (one-dvd x) (one-dvd m) in
        let both = found.divide some in
        record { divides_number = both.0; divides_modulus = both.1; greatest = λ d p q. found.least d (le_of_dvd pos q) p q }

    -- in the order of divisibility
    pub factor-is : (g : ℕ) → GreatestFactor g x m → g ≡ greatest_factor m x
    factor-is g factor = greatest-unique {m = m} {x = x} (record {
      divides_number = factor.divides_first;
      divides_modulus = factor.divides_second;
      greatest = λ d p q. le_of_dvd (some g factor.divides_second) (factor.greatest d p q);
    }) factor-greatest
      where
        some : (g : ℕ) → g ∣ m → 0 < g
        some g h = pos_of_dvd_of_pos h pos

    pub factor-of-zero : x ≡ 0 → greatest_factor m x ≡ m
    factor-of-zero e = sym (factor-is m (record {
      divides_first = subst (λ y. m ∣ y) (sym e) (dvd-zero m);
      divides_second = dvd_refl m;
      greatest = λ d p q. q;
    }))

    pub factor-less : 0 < x → x < m → greatest_factor m x < m
    factor-less some less = let most : greatest_factor m x ≤ x = le_of_dvd some factor-greatest.divides_number in omega arith

  pub factor-one : 2 ≤ m → HasInverse m x ↔ (greatest_factor m x ≡ 1)
  factor-one two =
      let (g, factor) = greatest-factor x m in
      rw (← factor-is (omega arith) g factor) (has-inverse-greatest m x two g factor)
