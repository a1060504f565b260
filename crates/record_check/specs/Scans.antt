-- A pass over places that ends at the first of which something does not hold.
--   Whole P first count   P holds of each place from first up to count
--   Passed P first i      such a pass in progress, at place i: P holds of each place before it
-- Proved: how a pass begins, goes on, stops and ends.
-- Assumes nothing.
use Rattle.std.specs.Prelude.{◌≡◌, refl, true, false, ◌↔◌, ℕ, ◌+◌, ◌<◌, ◌≤◌}
use Rattle.std.proofs.Common.{sym, subst, ⊎_elim, eq-or-lt_of_le, arith}
use Rattle.std.proofs.lemmas.Bool.{false≢true}

abbrev pub Whole : (ℕ → Type 0) → ℕ → ℕ → Type 0
Whole P first count = (i : ℕ) → first ≤ i → i < count → P i

pub record Passed (P : ℕ → Type 0) (first i : ℕ) : Type 0 where
  pub from : first ≤ i
  pub whole : Whole P first i

module _ {P : ℕ → Type 0} {first : ℕ} where
  pub pass-begins : Passed P first first
  pass-begins = record { from = omega arith; whole = λ j l h. absurd (omega arith) }

  module _ {i : ℕ} (passed : Passed P first i) where
    pub pass-goes-on : P i → Passed P first (i + 1)
    pass-goes-on here = record {
      from = omega (arith, passed.from);
      whole = λ j l h. ⊎_elim (λ (same : j ≡ i). subst P (sym same) here) (passed.whole j l) (eq-or-lt_of_le {n = j} {m = i} (omega arith));
    }

    pub pass-stops : {count : ℕ} → i < count → (P i → ⊥) → (false ≡ true) ↔ Whole P first count
    pass-stops inside not-here = (λ e. absurd (false≢true e), λ all. absurd (not-here (all i passed.from inside)))

    pub pass-ends : {count : ℕ} → count ≤ i → (true ≡ true) ↔ Whole P first count
    pass-ends end = (λ e j l h. passed.whole j l (omega arith), λ all. refl)
