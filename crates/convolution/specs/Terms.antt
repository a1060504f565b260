-- The sum of term i of two transposed products, of v with p and of u with q: the sums over j of p_j v_{i+j} and of q_j u_{i+j}.
--   SumInput          what one term is taken of where the list reaches: residues
--   TransposedInput   what a term of two products is taken of: residues, multipliers and lists of one length each
-- Proved: what is beside the pairs and the pairs make up the sum; the entries settle a term, so that zeros at the end of either list change
-- none; one product is the sum of two, of the halves of its multiplier. Assumes nothing.
use Rattle.std.specs.Prelude.{◌≡◌, ℕ, ◌+◌, ◌-◌, ◌*◌, ◌%◌, ◌<◌, ◌≤◌, List, length, take, drop, slice_index}
use Rattle.std.proofs.Math.Path.{sym, ap, ap₂}
use Rattle.std.proofs.Common.{◌∙◌, length-drop, length-take-le, get_or-take, get_or-drop}
use Rattle.std.proofs.Math.Decide.{dec_lt}
use Rattle.std.proofs.Math.Nat.{zero-add}
use native.Mathlib.Omega.{arith}
use Rattle.std.proofs.Math.ListN.{get_or-eq_default}
use Rattle.definitions.specs.Family.{greatest_modulus}
use Rattle.definitions.specs.Number.{sum}
use Rattle.numbers.specs.Products.{Below, transposed_at}
use Rattle.numbers.specs.Sums.{sum-equal, sum-split, sum-cut, sum_both}
use Rattle.reduction.specs.Reciprocal.{word}
use Rattle.convolution.specs.Coefficients.{past_first, past-second}
use Rattle.convolution.specs.Totals.{Lesser, Added, amount, amount-number}
use Rattle.convolution.specs.Steps.{transposed_term, Small, SinglesInput, PairsInput}

pub record SumInput (m : ℕ) (p v : List ℕ) (i : ℕ) : Type 0 where
  pub most : m ≤ greatest_modulus
  pub p_below : Below m p
  pub v_below : Below m v
  pub reached : i + length p ≤ length v

pub record TransposedInput (m : ℕ) (p v q u : List ℕ) : Type 0 where
  pub most : m ≤ greatest_modulus
  pub p_below : Below m p
  pub v_below : Below m v
  pub q_below : Below m q
  pub u_below : Below m u
  pub q_long : length q ≡ length p
  pub u_long : length u ≡ length v

-- residues are small
small : {m : ℕ} → m ≤ greatest_modulus → (xs : List ℕ) → Below m xs → Small xs
small h xs below j = omega (arith, below j)

-- ---- one product by halves
-- what a slice lends that begins h places on
abbrev onward : List ℕ → ℕ → List ℕ
onward xs h = take (length xs - h) (drop h xs)

module _ (xs : List ℕ) (h : ℕ) (within : h ≤ length xs) where
  onward-length : length (onward xs h) ≡ length xs - h
  onward-length = length-take-le (length xs - h) (drop h xs) (simp length-drop (omega arith))

  onward-entry : (j : ℕ) → slice_index (onward xs h) j ≡ slice_index xs (h + j)
  onward-entry j = by (dec_lt j (length xs - h))
    where
      by : Dec (j < length xs - h) → slice_index (onward xs h) j ≡ slice_index xs (h + j)
      by (yes l) = get_or-take (length xs - h) (drop h xs) j 0 l ∙ get_or-drop h xs j 0
      by (no l) = get_or-eq_default (onward xs h) 0 {n = j} (omega (arith, onward-length))
          ∙ sym (get_or-eq_default xs 0 {n = h + j} (omega arith))

module _ (m : ℕ) (p v : List ℕ) (i : ℕ) (input : SumInput m p v i) (half : ℕ) (twice : half + half ≤ length p) where
  abbrev each : ℕ → ℕ
  each = transposed_term p v i

  pub odd-input : SinglesInput 0 0 p v i (half + half) (length p)
  odd-input = record {
    fits = omega arith;
    few = omega arith;
    within = twice;
    reach = record {
      multiplier = omega arith;
      list = omega (arith, input.reached);
      p_small = small input.most p input.p_below;
      v_small = small input.most v input.v_below;
    };
  }

  reached-twice : half + half ≤ length v
  reached-twice = omega (arith, input.reached)

  -- what is beside the halves, on the slices that begin where the halves end
  pub beside-input : SinglesInput 0 0 (onward p (half + half)) (onward v (half + half)) i 0 (length (onward p (half + half)))
  beside-input = record {
    fits = odd-input.fits;
    few = odd-input.few;
    within = omega arith;
    reach = record {
      multiplier = omega arith;
      list = omega (arith, onward-length p (half + half) twice, onward-length v (half + half) reached-twice, input.reached);
      p_small = λ j. rw (onward-entry p (half + half) twice j) (odd-input.reach.p_small (half + half + j));
      v_small = λ j. rw (onward-entry v (half + half) reached-twice j) (odd-input.reach.v_small (half + half + j));
    };
  }

  pub beside-added : {low wraps : ℕ}
      → Added 0 0 (length (onward p (half + half)))
      (sum (length (onward p (half + half))) (transposed_term (onward p (half + half)) (onward v (half + half)) i)) low wraps
      → Added 0 0 (length p - (half + half)) (sum (length p - (half + half)) (λ t. each (half + half + t))) low wraps
  beside-added a =
      rw (← onward-length p (half + half) twice) record {
        few = a.few;
        fits = a.fits;
        whole = a.whole ∙ ap (λ s. amount 0 0 + s) (sum-equal (length (onward p (half + half))) _ _ (λ j _. beside-is j));
      }
    where
      beside-is : (j : ℕ) → transposed_term (onward p (half + half)) (onward v (half + half)) i j ≡ each (half + half + j)
      beside-is j =
          let there : half + half + (i + j) ≡ i + (half + half + j) = omega arith in
          ap₂ ◌*◌ (onward-entry p (half + half) twice j)
          (onward-entry v (half + half) reached-twice (i + j) ∙ ap (λ k. slice_index v k) there)

  halves-within : (half ≤ length p) × (half ≤ length v)
  halves-within = (omega arith, omega (arith, input.reached))

  abbrev second : ℕ → ℕ
  second = transposed_term (onward p half) (onward v half) i

  module _ (long : length p ≤ 2305843009213693952) {low₁ wraps₁ : ℕ}
      (d : Added 0 0 (length p - (half + half)) (sum (length p - (half + half)) (λ t. each (half + half + t))) low₁ wraps₁) where
    pub halves-input : PairsInput low₁ wraps₁ p v (onward p half) (onward v half) i half
    halves-input = record {
      fits = d.fits;
      few = omega (arith, d.few);
      first = record {
        multiplier = omega arith;
        list = omega (arith, input.reached);
        p_small = small input.most p input.p_below;
        v_small = small input.most v input.v_below;
      };
      second = record {
        multiplier = omega (arith, onward-length p half halves-within.0);
        list = omega (arith, onward-length v half halves-within.1, input.reached);
        p_small = λ j. rw (onward-entry p half halves-within.0 j) (small input.most p input.p_below (half + j));
        v_small = λ j. rw (onward-entry v half halves-within.1 j) (small input.most v input.v_below (half + j));
      };
    }

    -- the second half's products are those from half on
    second_is : (j : ℕ) → second j ≡ each (half + j)
    second_is j =
        let there : half + (i + j) ≡ i + (half + j) = omega arith in
        ap₂ ◌*◌ (onward-entry p half halves-within.0 j)
        (onward-entry v half halves-within.1 (i + j) ∙ ap (λ k. slice_index v k) there)

    pub sum-ends : {low wraps : ℕ} → Added low₁ wraps₁ half (sum half (λ j. each j + second j)) low wraps
        → (r : ℕ) → r ≡ (low + wraps * word) % m → r ≡ transposed_at p v i % m
    unfolding transposed_at amount
    sum-ends {low} {wraps} f r g =
        let none = amount-number 0 in
        let pairs : sum half (λ j. each j + second j) ≡ sum (half + half) each
        = sum_both half each second ∙ ap (λ s. sum half each + s) (sum-equal half _ _ (λ j _. second_is j)) ∙ sym (sum-split half half each) in
        let parts : half + half + (length p - (half + half)) ≡ length p = omega arith in
        let whole : sum (length p) each ≡ sum (half + half) each + sum (length p - (half + half)) (λ t. each (half + half + t))
        = ap (λ k. sum k each) (sym parts) ∙ sum-split (half + half) (length p - (half + half)) each in
        g ∙ ap (λ k. k % m) (f.whole ∙ ap₂ ◌+◌ d.whole pairs ∙ gathered none whole)
      where
        gathered : {s : ℕ} → amount 0 0 ≡ 0
            → s ≡ sum (half + half) each + sum (length p - (half + half)) (λ t. each (half + half + t))
            → amount 0 0 + sum (length p - (half + half)) (λ t. each (half + half + t)) + sum (half + half) each ≡ s
        gathered n w = omega arith

-- ---- two products
pub reaches : {room x y end : ℕ} → room ≡ x → Lesser room y end → Lesser x y end
reaches e h = rw e at h

-- a term is a sum as far as both lists reach
term-reach : (p v : List ℕ) (i end : ℕ) → Lesser (length v - i) (length p) end → transposed_at p v i ≡ sum end (transposed_term p v i)
unfolding transposed_at
term-reach p v i end h = sum-cut end (length p) (transposed_term p v i) h.second
    (λ j a b. past-second p v (i + j) j (past j a b (dec_lt end (length v - i))))
  where
    past : (j : ℕ) → end ≤ j → j < length p → Dec (end < length v - i) → length v ≤ i + j
    past j a b (yes g) = let all : end ≡ length p = h.one g in omega arith
    past j a b (no g) = omega arith

module _ (m : ℕ) (p v q u : List ℕ) (input : TransposedInput m p v q u) (i end : ℕ)
    (ends : Lesser (length v - i) (length p) end) where
  ends-too : Lesser (length u - i) (length q) end
  ends-too = rw (input.q_long, input.u_long) ends

  pub term-input : PairsInput 0 0 p v q u i end
  term-input = record {
    fits = omega arith;
    few = omega arith;
    first = record {
      multiplier = ends.second;
      list = ends.first;
      p_small = small input.most p input.p_below;
      v_small = small input.most v input.v_below;
    };
    second = record {
      multiplier = ends-too.second;
      list = ends-too.first;
      p_small = small input.most q input.q_below;
      v_small = small input.most u input.u_below;
    };
  }

  pub transposed-ends : {low wraps : ℕ}
      → Added 0 0 end (sum end (λ j. transposed_term p v i j + transposed_term q u i j)) low wraps
      → (r : ℕ) → r ≡ (low + wraps * word) % m → r ≡ (transposed_at p v i + transposed_at q u i) % m
  unfolding amount
  transposed-ends f r g =
      g ∙ ap (λ k. k % m) (f.whole ∙ ap (λ k. k + sum end (λ j. transposed_term p v i j + transposed_term q u i j)) (amount-number 0)
      ∙ zero-add _ ∙ sum_both end _ _ ∙ sym (ap₂ ◌+◌ (term-reach p v i end ends) (term-reach q u i end ends-too)))

-- ---- what settles a term
-- the sum may go on past the multiplier's end
term-sum : (p w : List ℕ) (i n : ℕ) → length p ≤ n → transposed_at p w i ≡ sum n (transposed_term p w i)
unfolding transposed_at
term-sum p w i n h = sym (sum-cut (length p) n (transposed_term p w i) h (λ j a b. past_first p w (i + j) j a))

pub transposed-entries : (p p' w w' : List ℕ) (i : ℕ) → ((j : ℕ) → slice_index p j ≡ slice_index p' j) → ((k : ℕ) → slice_index w k ≡ slice_index w' k)
    → transposed_at p w i ≡ transposed_at p' w' i
transposed-entries p p' w w' i e d =
    let n = length p + length p' in
    term-sum p w i n (omega arith) ∙ sum-equal n _ _ (λ j _. ap₂ ◌*◌ (e j) (d (i + j))) ∙ sym (term-sum p' w' i n (omega arith))

-- the multiplier in two halves of h entries, the second of which meets the list h places on
pub transposed-halves : (p w p₁ w₁ p₂ w₂ : List ℕ) (i h : ℕ) → length p ≤ h + h → length p₁ ≤ h → length p₂ ≤ h
    → ((j : ℕ) → j < h → transposed_term p₁ w₁ i j ≡ transposed_term p w i j)
    → ((j : ℕ) → j < h → transposed_term p₂ w₂ i j ≡ transposed_term p w i (h + j))
    → transposed_at p₁ w₁ i + transposed_at p₂ w₂ i ≡ transposed_at p w i
transposed-halves p w p₁ w₁ p₂ w₂ i h l l₁ l₂ e₁ e₂ =
    ap₂ ◌+◌ (term-sum p₁ w₁ i h l₁ ∙ sum-equal h _ _ e₁) (term-sum p₂ w₂ i h l₂ ∙ sum-equal h _ _ e₂)
    ∙ sym (sum-split h h (transposed_term p w i)) ∙ sym (term-sum p w i (h + h) l)
