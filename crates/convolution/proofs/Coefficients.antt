-- The sum of a coefficient of two products, as its loop takes it.
-- Proved of Multiplying: it begins with no term; the two products of a step fit 64 bits; a step puts one more term in; at the end the
-- remainder of the sum is the coefficient of start + p q + r s. These rest on Totals of proofs/. Assumes nothing.
use Rattle.std.specs.Prelude.{◌≡◌, ℕ, suc, ◌+◌, ◌-◌, ◌*◌, ◌%◌, ◌<◌, ◌≤◌, List, length, slice_index}
use Rattle.std.proofs.Math.Path.{sym, ap}
use Rattle.std.proofs.Common.{◌∙◌, ap₂, add_assoc, add-zero, arith}
use Rattle.std.proofs.Math.Decide.{dec_lt}
use Rattle.definitions.specs.Number.{sum}
use Rattle.numbers.specs.Products.{product_at}
use Rattle.numbers.specs.Sums.{sum-between, sum_both}
use Rattle.reduction.specs.Reciprocal.{word}
use Rattle.convolution.specs.Totals.{Lesser, SmallNumbers, PlusInput, Added, amount, amount-number, pair_fits}
use Rattle.convolution.specs.Totals.{one-term}
use Rattle.convolution.proofs.Totals.{totalling-starts, totalling-next, totalling-ends}
use Rattle.convolution.specs.Coefficients.{past_first, past-second, small, ProductsInput, Multiplying}

abbrev product_term : List ℕ → List ℕ → ℕ → ℕ → ℕ
product_term p q k i = slice_index p i * slice_index q (k - i)

both_zero : {x y : ℕ} → x ≡ 0 → y ≡ 0 → x + y ≡ 0
both_zero e f = ap₂ ◌+◌ e f

abbrev products_term : List ℕ → List ℕ → List ℕ → List ℕ → ℕ → ℕ → ℕ
products_term p q r s k i = product_term p q k i + product_term r s k i

module _ {m start : ℕ} {p q r s : List ℕ} {k : ℕ} (input : ProductsInput m start p q r s k) {first end count : ℕ} where
  pub multiplying-starts : first ≡ k + 1 - length q → Lesser (k + 1) (length p) end → count ≡ end - first
      → Multiplying start p q r s k first end count 0 start 0
  multiplying-starts e ends c = record {
    begins = e;
    ends = ends;
    counted = c;
    total = rw (add-zero first) (totalling-starts 0 start first end (products_term p q r s k) start 0
        (omega (arith, input.start_below, input.most)) (omega arith) (amount-number start) within_end);
  }
    where
      within : Dec (end < k + 1) → first ≤ end
      within (yes h) = let all : end ≡ length p = ends.one h in omega (arith, input.reached)
      within (no h) = omega arith

      within_end : first ≤ end
      within_end = within (dec_lt end (k + 1))

  module _ {t low wraps : ℕ} (h : Multiplying start p q r s k first end count t low wraps) where
    pub multiplying-small : SmallNumbers (slice_index p (first + t)) (slice_index q (k - (first + t))) (slice_index r (first + t))
        (slice_index s (k - (first + t)))
    multiplying-small = small input.most (input.p_below _) (input.q_below _) (input.r_below _) (input.s_below _)

    pub multiplying-plus : {x : ℕ} → length p ≤ 2305843009213693952 → x ≡ products_term p q r s k (first + t) → PlusInput low wraps x
    multiplying-plus long e = record {
      fits = h.total.fits;
      small = rw e (pair_fits _ _ _ _ multiplying-small);
      few = omega (arith, h.total.few, h.total.reached, h.ends.second);
    }

    pub multiplying-next : {x next w : ℕ} → t < count → x ≡ products_term p q r s k (first + t) → Added low wraps 1 x next w
        → Multiplying start p q r s k first end count (t + 1) next w
    multiplying-next l e a = record {
      begins = h.begins;
      ends = h.ends;
      counted = h.counted;
      total = rw (← add_assoc first t 1) (totalling-next 0 start first end (products_term p q r s k) 1 (omega arith)
          (omega (arith, h.counted)) h.total (e ∙ one-term (products_term p q r s k) (first + t)) a);
    }

    pub multiplying-ends : count ≤ t → (v : ℕ) → v ≡ (low + wraps * word) % m → v ≡ (start + product_at p q k + product_at r s k) % m
    unfolding product_at amount
    multiplying-ends l v e =
        e ∙ ap (λ x. x % m) (totalling-ends 0 start first end (products_term p q r s k) (first + t) low wraps (omega (arith, h.counted))
        h.total
        ∙ ap (λ x. start + x) (sym all ∙ sum_both (suc k) (product_term p q k) (product_term r s k)) ∙ sym (add_assoc start _ _))
      where
        before : (j : ℕ) → j < first → products_term p q r s k j ≡ 0
        before j b = both_zero (past-second p q (k - j) j (omega (arith, h.begins)))
            (past-second r s (k - j) j (omega (arith, h.begins, input.s_long)))

        behind : (j : ℕ) → end ≤ j → j < suc k → products_term p q r s k j ≡ 0
        behind j a b =
            let out : end ≡ length p = h.ends.one (omega arith) in
            both_zero (past_first p q (k - j) j (omega arith)) (past_first r s (k - j) j (omega (arith, input.r_long)))

        all : sum (suc k) (products_term p q r s k) ≡ sum (end - first) (λ t. products_term p q r s k (first + t))
        all =
            let whole : first + (end - first) ≡ end = omega (arith, h.total.from, h.total.reached) in
            sum-between first (end - first) (suc k) (products_term p q r s k) (omega (arith, h.ends.first)) before
            (λ j a b. behind j (omega arith) b)
