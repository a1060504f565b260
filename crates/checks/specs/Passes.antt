-- What a pass over a list answers: that every entry passes, or the first one that does not, with the reason.
--   First bad xs i       entry i of xs is the first that is bad
--   BelowAnswer m xs r   r says whether every entry is below m
--   Because m x reason   why x has no inverse: it is zero, or it shares a factor with m
--   FactorAnswer m xs r  r says whether every entry has an inverse, and why the first without one has none
--   Passed bad xs i      a pass in progress: none of the first i entries is bad
-- Proved: how a pass begins, goes on and ends; a product that has an inverse spares the pass. Assumes nothing.
use Rattle.std.specs.Prelude.{◌≡◌, Bool, true, false, List, Option, None, Some, ℕ, ◌+◌, ◌<◌, ◌≤◌, length, get_or}
use Rattle.std.proofs.Common.{subst, sym, ⊎_elim, eq-or-lt_of_le, arith}
use Rattle.definitions.specs.Number.{HasInverse}
use Rattle.definitions.specs.Refusals.{some, not_below, no_inverse}
use Rattle.numbers.specs.Euclid.{GreatestFactor}
use Rattle.numbers.specs.RunningProduct.{running_product, running-each}
use Rattle.acceptance.specs.Verdicts.{some-false, some-no_inverse-false}
use Rattle.checks.specs.declared.Reason.{Reason}

pub record First (bad : ℕ → Bool) (xs : List ℕ) (i : ℕ) : Type 0 where
  pub place : i < length xs
  pub here : bad (get_or xs i 0) ≡ true
  pub before : (j : ℕ) → j < i → bad (get_or xs j 0) ≡ false

abbrev pub BelowAnswer : ℕ → List ℕ → Option ℕ → Type 0
BelowAnswer m xs None = some (not_below m) xs ≡ false
BelowAnswer m xs (Some i) = First (not_below m) xs i

pub record SharedFactor (m x g : ℕ) : Type 0 where
  pub not_zero : x ≡ 0 → ⊥
  pub factor : GreatestFactor g x m

abbrev pub Because : ℕ → ℕ → Reason → Type 0
Because m x Reason.Zero = x ≡ 0
Because m x (Reason.Shared g) = SharedFactor m x g

abbrev pub FactorAnswer : ℕ → List ℕ → Option (ℕ × Reason) → Type 0
FactorAnswer m xs None = some (no_inverse m) xs ≡ false
FactorAnswer m xs (Some (i, reason)) = First (no_inverse m) xs i × Because m (get_or xs i 0) reason

pub record Passed (bad : ℕ → Bool) (xs : List ℕ) (i : ℕ) : Type 0 where
  pub within : i ≤ length xs
  pub clear : (j : ℕ) → j < i → bad (get_or xs j 0) ≡ false

module _ (bad : ℕ → Bool) (xs : List ℕ) where
  pub passed-starts : Passed bad xs 0
  passed-starts = record { within = omega arith; clear = λ j h. absurd (omega arith) }

  module _ (i : ℕ) (h : Passed bad xs i) where
    pub passed-next : i < length xs → bad (get_or xs i 0) ≡ false → Passed bad xs (i + 1)
    passed-next l e = record {
      within = omega arith;
      clear = λ j g. ⊎_elim (λ (same : j ≡ i). subst (λ k. bad (get_or xs k 0) ≡ false) (sym same) e) (h.clear j)
          (eq-or-lt_of_le {n = j} {m = i} (omega arith));
    }

    pub passed_first : i < length xs → bad (get_or xs i 0) ≡ true → First bad xs i
    passed_first l e = record { place = l; here = e; before = h.clear }

    pub passed-ends : length xs ≤ i → some bad xs ≡ false
    passed-ends l = (some-false bad xs 0).1 (λ j g. h.clear j (omega arith))

-- every entry has an inverse if the product of all has one
pub all-by-product : (m : ℕ) (xs : List ℕ) → 0 < m → HasInverse m (running_product m (λ i. get_or xs i 0) (length xs))
    → some (no_inverse m) xs ≡ false
all-by-product m xs pos h = (some-no_inverse-false m xs 0 pos).1 (running-each m (λ i. get_or xs i 0) (length xs) h)
