-- The steps of a sum over the p_j v_{i+j}, and over these and the q_j u_{i+j} side by side.
--   transposed_term p w i j    p_j w_{i+j}, zero past the end of either
--   pair_term p v q u i j      p_j v_{i+j} + q_j u_{i+j};  TwoPairs  the same for j and j + 1, which fits 64 bits
--   Reach p v i end            all p_j v_{i+j} with j below end lie within both lists, and fit
--   SinglesInput, PairsInput   what a part of the sum is taken of: of one of the two products, of both side by side
--   Pairs                      the sum of both in progress, two pairs a step from the first on where their count is odd
-- Proved: two pairs fit 64 bits, and their sum is TwoPairs; the first pair is added where the count is odd, and nothing where it is even.
-- How each part begins, goes on and ends stands in Steps of proofs/. Assumes nothing.
use Rattle.std.specs.Prelude.{◌≡◌, ℕ, ◌+◌, ◌-◌, ◌*◌, ◌%◌, ◌<◌, ◌≤◌, List, length, slice_index}
use Rattle.std.proofs.Math.Path.{sym, ap}
use Rattle.std.proofs.Common.{◌∙◌, ap₂, add_assoc, add-zero, zero-add, arith}
use Rattle.definitions.specs.Number.{sum}
use Rattle.reduction.specs.Reciprocal.{word}
use Rattle.convolution.specs.Totals.{SmallNumbers, PlusInput, Added, Totalling, amount, pair_fits, two-pairs-fit}

abbrev pub transposed_term : List ℕ → List ℕ → ℕ → ℕ → ℕ
transposed_term p w i j = slice_index p j * slice_index w (i + j)

abbrev pub pair_term : List ℕ → List ℕ → List ℕ → List ℕ → ℕ → ℕ → ℕ
pair_term p v q u i j = transposed_term p v i j + transposed_term q u i j

abbrev pub Small : List ℕ → Type 0
Small xs = (j : ℕ) → slice_index xs j ≤ 2147483647

pub record Reach (p v : List ℕ) (i end : ℕ) : Type 0 where
  pub multiplier : end ≤ length p
  pub list : end ≤ length v - i
  pub p_small : Small p
  pub v_small : Small v

pub record SinglesInput (low wraps : ℕ) (p v : List ℕ) (i first end : ℕ) : Type 0 where
  pub fits : low < word
  pub few : wraps ≤ 2305843009213693952
  pub within : first ≤ end
  pub reach : Reach p v i end

pub record PairsInput (low wraps : ℕ) (p v q u : List ℕ) (i end : ℕ) : Type 0 where
  pub fits : low < word
  pub few : wraps ≤ 4611686018427387904
  pub first : Reach p v i end
  pub second : Reach q u i end

pub record TwoPairs (p v q u : List ℕ) (i j r : ℕ) : Type 0 where
  pub is : r ≡ pair_term p v q u i j + pair_term p v q u i (j + 1)
  pub fits : r < word

-- ---- both products a step, and two such steps at once
pub pair_small : {p v q u : List ℕ} {i i' end end' : ℕ} → Reach p v i end → Reach q u i' end' → (j k : ℕ)
    → SmallNumbers (slice_index p j) (slice_index v k) (slice_index q j) (slice_index u k)
pair_small h g j k = record { x_small = h.p_small j; y_small = h.v_small k; u_small = g.p_small j; v_small = g.v_small k }

module _ (p v q u : List ℕ) (i j : ℕ) (h : Reach p v i (j + 2)) (g : Reach q u i (j + 2)) {x y : ℕ}
    (e : x ≡ pair_term p v q u i j) (d : y ≡ slice_index p (j + 1) * slice_index v (i + j + 1) + slice_index q (j + 1) * slice_index u (i + j + 1)) where
  pub two-pairs-small : x + y < word
  two-pairs-small = rw (e, d) (two-pairs-fit _ _ _ _ _ _ _ _ (pair_small h g j (i + j)) (pair_small h g (j + 1) (i + j + 1)))

  pub two-pairs-are : {r : ℕ} → r ≡ x + y → TwoPairs p v q u i j r
  two-pairs-are f = record {
    is = f ∙ ap₂ ◌+◌ e (d ∙ ap (λ k. slice_index p (j + 1) * slice_index v k + slice_index q (j + 1) * slice_index u k) (add_assoc i j 1));
    fits = rw f two-pairs-small;
  }

-- ---- the first pair, where the count is odd
module _ {low₀ wraps₀ : ℕ} {p v q u : List ℕ} {i odd : ℕ} (input : PairsInput low₀ wraps₀ p v q u i odd) where
  pub first-left : odd ≡ 0 → Added low₀ wraps₀ odd (sum odd (pair_term p v q u i)) low₀ wraps₀
  unfolding sum
  first-left none = rw none record { few = omega arith; fits = input.fits; whole = sym (add-zero _) }

  module _ {x : ℕ} (e : x ≡ slice_index p 0 * slice_index v i + slice_index q 0 * slice_index u i) where
    pub first-plus : PlusInput low₀ wraps₀ x
    first-plus = record {
      fits = input.fits;
      small = rw e (pair_fits _ _ _ _ (pair_small input.first input.second 0 i));
      few = omega (arith, input.few);
    }

    pub first-added : {low wraps : ℕ} → odd ≡ 1 → Added low₀ wraps₀ 1 x low wraps
        → Added low₀ wraps₀ odd (sum odd (pair_term p v q u i)) low wraps
    unfolding sum
    first-added one a = rw one record {
      few = a.few;
      fits = a.fits;
      whole = a.whole ∙ ap (λ k. amount low₀ wraps₀ + k) (e
          ∙ ap (λ k. slice_index p 0 * slice_index v k + slice_index q 0 * slice_index u k) (sym (add-zero i)) ∙ sym (zero-add (pair_term p v q u i 0)));
    }

-- ---- the others, two pairs at a time
pub record Pairs (low₁ wraps₁ : ℕ) (p v q u : List ℕ) (i odd end j low wraps : ℕ) : Type 0 where
  pub total : Totalling wraps₁ (amount low₁ wraps₁) odd end (pair_term p v q u i) j low wraps
  pub even : (end - j) % 2 ≡ 0
