-- One coefficient of the quotient of two reversed polynomials.
-- Proved: the products with the coefficients that stand are a transposed product with the polynomial as it lies, so that the sum is lent what
-- it requires (coefficient-input); what is taken from the top coefficient fits 32 bits; what comes out is the coefficient of the definition
-- (coefficient-is). These rest on Divides, which an edit of specs/ changes. Assumes nothing.
use Rattle.std.specs.Prelude.{◌≡◌, List, ℕ, suc, ◌+◌, ◌*◌, ◌-◌, ◌%◌, ◌≤◌, ◌<◌, length, take}
use Rattle.std.proofs.Math.Path.{sym, ap}
use Rattle.std.proofs.Common.{◌∙◌, ap₂, mul-zero, zero-mul, mod-eq_of_lt}
use Rattle.std.proofs.Math.Logic.{by_cases}
use Rattle.std.proofs.Math.Decide.{dec_lt}
use native.Mathlib.Omega.{arith}
use Rattle.std.proofs.Math.ListN.{get_or, drop, get_or-eq_default}
use Rattle.definitions.specs.Number.{sum, negative, inverse}
use Rattle.definitions.specs.Orthogonality.{next_quotient}
use Rattle.numbers.specs.Inverse.{inverse-unique}
use Rattle.numbers.specs.Products.{transposed_at}
use Rattle.numbers.specs.Regions.{part, part_length, part-entry, part_slice, part-below}
use Rattle.numbers.specs.Residue.{negative-mod}
use Rattle.numbers.specs.Sums.{sum-equal, sum-between}
use Rattle.convolution.specs.Terms.{SumInput}
use Rattle.series.specs.Division.{reversed, CoefficientInput, reversed-inside, reversed-past, reversed-first}

-- ---- one coefficient
module _ (m : ℕ) (g d : List ℕ) (n y : ℕ) (q : List ℕ) (k : ℕ) (input : CoefficientInput m g d n y q k) where
  positive : 0 < m
  positive = omega (arith, input.divides.modulus.least)

  -- the coefficients that stand, from place k - n on; those before it meet no coefficient of d
  abbrev standing : List ℕ
  standing = take (k - (k - n)) (drop (k - n) q)

  standing-part : standing ≡ part q (k - n) (k - (k - n))
  standing-part = part_slice q (k - n) (k - (k - n)) (omega (arith, input.long))

  -- d reaches past n, where its entry has an inverse
  divisor-long : n < length d
  divisor-long = by_cases (dec_lt n (length d)) (λ l. l) (λ l.
      let none : get_or d n 0 ≡ 0 = get_or-eq_default d 0 {n = n} (omega arith) in
      let zero_one : ◌≡◌ {A = ℕ} 0 1
      = sym (ap (λ x. x * y % m) none ∙ ap (λ x. x % m) (zero-mul y) ∙ mod-eq_of_lt positive) ∙ input.divides.inverts in
      absurd (omega arith))

  pub coefficient-input : (first at : ℕ) → first ≡ k - n → at ≡ n - k → SumInput m (take (k - first) (drop first q)) d at
  coefficient-input first at e g = rw (e, g) record {
    most = input.divides.modulus.greatest;
    p_below = rw standing-part (part-below m q (k - n) (k - (k - n)) positive (λ i p h. input.below i (omega arith)));
    v_below = input.divides.d_below;
    reached = omega (arith, divisor-long, ap length standing-part, part_length q (k - n) (k - (k - n)));
  }

  -- the sum that the definition takes
  abbrev term : ℕ → ℕ
  term j = get_or q j 0 * get_or (reversed (suc n) d) (k - j) 0

  term-before : (j : ℕ) → j < k - n → term j ≡ 0
  term-before j h = ap (λ x. get_or q j 0 * x) (sym (reversed-past (suc n) d (k - j) (omega arith))) ∙ mul-zero (get_or q j 0)

  term-standing : (j : ℕ) → j < k - (k - n) → term (k - n + j) ≡ get_or (part q (k - n) (k - (k - n))) j 0 * get_or d (n - k + j) 0
  term-standing j h =
      let e : suc n - 1 - (k - (k - n + j)) ≡ n - k + j = omega arith in
      ap₂ ◌*◌ (sym (part-entry q (k - n) (k - (k - n)) j h))
      (sym (reversed-inside (suc n) d (k - (k - n + j)) (omega arith)) ∙ ap (λ i. get_or d i 0) e)

  sum-transposed : sum k term ≡ transposed_at standing d (n - k)
  unfolding transposed_at
  sum-transposed =
      sum-between (k - n) (k - (k - n)) k term (omega arith) term-before (λ j a b. absurd (omega arith))
      ∙ sum-equal (k - (k - n)) _ _ term-standing
      ∙ ap (λ c. sum c (λ j. get_or (part q (k - n) (k - (k - n))) j 0 * get_or d (n - k + j) 0)) (sym (part_length q (k - n) (k - (k - n))))
      ∙ ap (λ p. sum (length p) (λ j. get_or p j 0 * get_or d (n - k + j) 0)) (sym standing-part)

  pub coefficient-fits : (x top less : ℕ) → top ≡ get_or (reversed n g) k 0 → less ≡ negative m x → top + less < 4294967296
  unfolding reversed negative
  coefficient-fits x top less e r =
      let high : m ≤ 2147483647 = input.divides.modulus.greatest in
      let low : get_or (reversed n g) k 0 < m = by_cases (dec_lt k n)
      (λ h. rw (← reversed-inside n g k h) (input.divides.g_below (n - 1 - k)))
      (λ h. rw (← reversed-past n g k (omega arith)) positive) in
      omega arith

  pub coefficient-is : (first at s top less r : ℕ) → first ≡ k - n → at ≡ n - k
      → s ≡ transposed_at (take (k - first) (drop first q)) d at % m
      → top ≡ get_or (reversed n g) k 0 → less ≡ negative m s → r ≡ (top + less) * y % m
      → r ≡ next_quotient m (reversed n g) (reversed (suc n) d) k q
  unfolding next_quotient
  coefficient-is first at s top less r i j sum_is_lem e o h =
      let moved : transposed_at (take (k - first) (drop first q)) d at ≡ transposed_at standing d (n - k) = rw (i, j) in
      let same : negative m s ≡ negative m (sum k term) =
      ap (negative m) (sum_is_lem ∙ ap (λ x. x % m) (moved ∙ sym sum-transposed)) ∙ negative-mod m (sum k term) in
      let by : y ≡ inverse m (get_or (reversed (suc n) d) 0 0) =
      inverse-unique m (get_or d n 0) y input.divides.modulus.least input.divides.inverse_below input.divides.inverts
      ∙ ap (inverse m) (reversed-first n d) in
      h ∙ rw (e, o, same) (ap (λ z. (get_or (reversed n g) k 0 + negative m (sum k term)) * z % m) by)
