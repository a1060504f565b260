-- The steps of a transposed sum, as its loops take them.
-- Proved: of one product a step, how the loop begins, goes on and ends; of both products, the same for the first pair where the count is
-- odd and for the others, two pairs a step; the pairs of both and what is beside them make up the whole sum. These rest on TwoPairs, which
-- an edit of specs/ changes, and on Totals of proofs/. Assumes nothing.
use Rattle.std.specs.Prelude.{◌≡◌, ℕ, ◌+◌, ◌-◌, ◌*◌, ◌%◌, ◌<◌, ◌≤◌, List, length, slice_index, refl}
use Rattle.std.proofs.Math.Path.{sym, ap}
use Rattle.std.proofs.Common.{◌∙◌, add-zero, zero-add, arith}
use Rattle.definitions.specs.Number.{sum}
use Rattle.numbers.specs.Sums.{sum-equal, sum-split}
use Rattle.convolution.specs.Totals.{SmallNumbers, PlusInput, Added, Totalling, amount, pair_fits, added_then}
use Rattle.convolution.specs.Totals.{one-term, two-terms}
use Rattle.convolution.proofs.Totals.{totalling-starts, totalling-next, totalling-added}
use Rattle.convolution.specs.Steps.{transposed_term, pair_term, Reach, SinglesInput, PairsInput, TwoPairs, Pairs}

-- what reaches further reaches
reach-less : {p v : List ℕ} {i end end' : ℕ} → end' ≤ end → Reach p v i end → Reach p v i end'
reach-less l h = record {
  multiplier = omega (arith, h.multiplier);
  list = omega (arith, h.list);
  p_small = h.p_small;
  v_small = h.v_small;
}

-- ---- one product a step
module _ (low₀ wraps₀ : ℕ) (p v : List ℕ) (i first end : ℕ) (input : SinglesInput low₀ wraps₀ p v i first end) where
  abbrev single : ℕ → ℕ
  single = transposed_term p v i

  abbrev Singles : ℕ → ℕ → ℕ → Type 0
  Singles = Totalling wraps₀ (amount low₀ wraps₀) first end single

  pub singles-start : Singles first low₀ wraps₀
  singles-start =
      totalling-starts wraps₀ (amount low₀ wraps₀) first end single low₀ wraps₀ input.fits (omega arith) refl input.within

  pub single-small : (j : ℕ) → SmallNumbers (slice_index p j) (slice_index v (i + j)) 0 0
  single-small j = record {
    x_small = input.reach.p_small j;
    y_small = input.reach.v_small (i + j);
    u_small = omega arith;
    v_small = omega arith;
  }

  module _ {j low wraps : ℕ} (h : Singles j low wraps) where
    pub singles-plus : {x : ℕ} → length p ≤ 2305843009213693952 → x ≡ single j + 0 * 0 → PlusInput low wraps x
    singles-plus long e = record {
      fits = h.fits;
      small = rw e (pair_fits _ _ _ _ (single-small j));
      few = omega (arith, h.few, h.reached, input.few, input.reach.multiplier);
    }

    pub singles-next : {x next k : ℕ} → j < end → x ≡ single j + 0 * 0 → Added low wraps 1 x next k → Singles (j + 1) next k
    singles-next l e a =
        totalling-next wraps₀ (amount low₀ wraps₀) first end single 1 (omega arith) (omega arith) h
        (e ∙ add-zero (single j) ∙ one-term single j) a

    pub singles-end : end ≤ j → Added low₀ wraps₀ (end - first) (sum (end - first) (λ t. single (first + t))) low wraps
    singles-end l = totalling-added low₀ wraps₀ first end single j low wraps l h

-- from the first term on
pub singles-all : (low₀ wraps₀ : ℕ) (p v : List ℕ) (i end : ℕ) → SinglesInput low₀ wraps₀ p v i 0 end → {j low wraps : ℕ}
    → Totalling wraps₀ (amount low₀ wraps₀) 0 end (transposed_term p v i) j low wraps → end ≤ j
    → Added low₀ wraps₀ end (sum end (transposed_term p v i)) low wraps
singles-all low₀ wraps₀ p v i end input h l =
    let a = singles-end low₀ wraps₀ p v i 0 end input h l in
    let all : end - 0 ≡ end = omega arith in
    rw (← all) record {
      few = a.few;
      fits = a.fits;
      whole = a.whole ∙ ap (λ s. amount low₀ wraps₀ + s) (sum-equal (end - 0) _ _ (λ t _. ap (transposed_term p v i) (zero-add t)));
    }

module _ {low₀ wraps₀ : ℕ} {p v q u : List ℕ} {i end : ℕ} (input : PairsInput low₀ wraps₀ p v q u i end) where
  pub pairs_first : PairsInput low₀ wraps₀ p v q u i (end % 2) × (end % 2 ≤ 1)
  pairs_first =
      let less : end % 2 ≤ end = omega arith in (
        record {
          fits = input.fits;
          few = input.few;
          first = reach-less less input.first;
          second = reach-less less input.second;
        },
        omega arith,
      )

  module _ {low₁ wraps₁ : ℕ} (begun : Added low₀ wraps₀ (end % 2) (sum (end % 2) (pair_term p v q u i)) low₁ wraps₁) where
    pub pairs_start : Pairs low₁ wraps₁ p v q u i (end % 2) end (end % 2) low₁ wraps₁
    pairs_start = record {
      total = totalling-starts wraps₁ (amount low₁ wraps₁) (end % 2) end (pair_term p v q u i) low₁ wraps₁ begun.fits (omega arith) refl
          (omega arith);
      even = omega arith;
    }

    module _ {j low wraps : ℕ} (h : Pairs low₁ wraps₁ p v q u i (end % 2) end j low wraps) where
      two-left : j < end → j + 2 ≤ end
      two-left l = omega (arith, h.even)

      pub pairs-reach : j < end → Reach p v i (j + 2) × Reach q u i (j + 2)
      pairs-reach l = (reach-less (two-left l) input.first, reach-less (two-left l) input.second)

      pub pairs-plus : {x : ℕ} → length p ≤ 2305843009213693952 → TwoPairs p v q u i j x → PlusInput low wraps x
      pairs-plus long two = record {
        fits = h.total.fits;
        small = two.fits;
        few = omega (arith, h.total.few, h.total.reached, begun.few, input.few, input.first.multiplier);
      }

      pub pairs_next : {x next k : ℕ} → j < end → TwoPairs p v q u i j x → Added low wraps 1 x next k
          → Pairs low₁ wraps₁ p v q u i (end % 2) end (j + 2) next k
      pairs_next l two a = record {
        total = totalling-next wraps₁ (amount low₁ wraps₁) (end % 2) end (pair_term p v q u i) 2 (omega arith) (two-left l) h.total
            (two.is ∙ two-terms (pair_term p v q u i) j) a;
        even = omega (arith, h.even, two-left l);
      }

      pub pairs_end : end ≤ j → Added low₀ wraps₀ end (sum end (pair_term p v q u i)) low wraps
      pairs_end l =
          let parts : end % 2 + (end - end % 2) ≡ end = omega arith in
          let both = added_then begun (totalling-added low₁ wraps₁ (end % 2) end (pair_term p v q u i) j low wraps l h.total) in
          record {
            few = omega (arith, both.few);
            fits = both.fits;
            whole = both.whole ∙ ap (λ s. amount low₀ wraps₀ + s) (sym (sum-split (end % 2) (end - end % 2) (pair_term p v q u i))
                ∙ ap (λ k. sum k (pair_term p v q u i)) parts);
          }
