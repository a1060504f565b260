-- How a sum that wraps begins, goes on and ends.
-- Proved of Totalling: it begins with nothing added; a step that adds the next terms keeps it; at the last place all terms are in. A sum
-- that goes on from another has Added what its own terms come to. These rest on the field `whole` of Totalling, which an edit of specs/ changes.
-- Assumes nothing.
use Rattle.std.specs.Prelude.{◌≡◌, ℕ, ◌+◌, ◌-◌, ◌<◌, ◌≤◌}
use Rattle.std.proofs.Math.Path.{sym}
use Rattle.std.proofs.Common.{◌∙◌, ap, ap₂, add_assoc}
use Rattle.std.proofs.Math.Nat.{add-zero}
use native.Mathlib.Omega.{arith}
use Rattle.definitions.specs.Number.{sum}
use Rattle.numbers.specs.Sums.{sum-equal, sum-split}
use Rattle.reduction.specs.Reciprocal.{word}
use Rattle.convolution.specs.Totals.{amount, Added, Totalling}

module _ (before start first end : ℕ) (f : ℕ → ℕ) where
  pub totalling-starts : (low wraps : ℕ) → low < word → wraps ≤ before → amount low wraps ≡ start → first ≤ end
      → Totalling before start first end f first low wraps
  unfolding sum
  totalling-starts low wraps h few e l =
      let none : first - first ≡ 0 = omega arith in
      record {
        from = omega arith;
        reached = l;
        few = omega arith;
        fits = h;
        whole = e ∙ sym (ap (λ k. start + sum k (λ t. f (first + t))) none ∙ add-zero start);
      }

  -- x is the sum of the next terms, as many as a step takes
  pub totalling-next : (steps : ℕ) {i low wraps x next r : ℕ} → 1 ≤ steps → i + steps ≤ end → Totalling before start first end f i low wraps
      → x ≡ sum steps (λ t. f (i + t)) → Added low wraps 1 x next r → Totalling before start first end f (i + steps) next r
  totalling-next steps {i} some l h e a =
      let more : i - first + steps ≡ i + steps - first = omega (arith, h.from) in
      let there : (t : ℕ) → i + t ≡ first + (i - first + t) = λ t. omega (arith, h.from) in
      record {
        from = omega (arith, h.from);
        reached = l;
        few = omega (arith, a.few, h.few, h.from);
        fits = a.fits;
        whole = a.whole ∙ ap₂ ◌+◌ h.whole (e ∙ sum-equal steps _ _ (λ t _. ap f (there t)))
            ∙ add_assoc start (sum (i - first) (λ t. f (first + t))) _
            ∙ ap (λ k. start + k) (sym (sum-split (i - first) steps (λ t. f (first + t))))
            ∙ ap (λ k. start + sum k (λ t. f (first + t))) more;
      }

  pub totalling-ends : (i low wraps : ℕ) → end ≤ i → Totalling before start first end f i low wraps
      → amount low wraps ≡ start + sum (end - first) (λ t. f (first + t))
  totalling-ends i low wraps l h =
      let last : i ≡ end = omega (arith, h.reached) in
      rw (← last) h.whole

-- a sum that goes on from another
pub totalling-added : (low₀ wraps₀ first end : ℕ) (f : ℕ → ℕ) (i low wraps : ℕ) → end ≤ i
    → Totalling wraps₀ (amount low₀ wraps₀) first end f i low wraps
    → Added low₀ wraps₀ (end - first) (sum (end - first) (λ t. f (first + t))) low wraps
totalling-added low₀ wraps₀ first end f i low wraps l h = record {
  few = omega (arith, h.few, h.reached);
  fits = h.fits;
  whole = totalling-ends wraps₀ (amount low₀ wraps₀) first end f i low wraps l h;
}
