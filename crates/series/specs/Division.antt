-- The quotient of two reversed polynomials, coefficient by coefficient, with no list turned round.
--   reversed k p       rev(p, k) of a list of coefficients, zero past its end
--   Divides            the polynomials and the inverse that the loop divides by
--   CoefficientInput   of coefficient k: the k coefficients before it
--   QuotientInput      of all of them, with room for the answer
--   Dividing           a quotient in progress: k coefficients stand
-- Proved: entries of a reversal; how the loop begins, goes on and ends. What one coefficient is taken of, and that it is the definition's,
-- stands in Division of proofs/. Assumes nothing.
use Rattle.std.specs.Prelude.{◌≡◌, refl, List, ◌++◌, ℕ, zero, suc, ◌+◌, ◌*◌, ◌-◌, ◌%◌, ◌≤◌, ◌<◌, length, set}
use Rattle.std.proofs.Math.Path.{sym, ap}
use Rattle.std.proofs.Common.{◌∙◌, le_of_suc-le-suc}
use native.Mathlib.Omega.{arith}
use Rattle.std.proofs.Math.ListN.{get_or, drop}
use Rattle.definitions.specs.Family.{Modulus}
use Rattle.definitions.specs.Number.{table, negative, inverse}
use Rattle.definitions.specs.Orthogonality.{reversal, next_quotient, quotient}
use Rattle.numbers.specs.Lists.{Filling, filled, table-entries, filling-start, filling-next, filling-stop, filling-below}
use Rattle.numbers.specs.Products.{Below}
use Rattle.numbers.specs.Sums.{sum-equal}
use Rattle.theory.specs.Quotient.{quotient-length, quotient-entry, quotient-next, quotient-below}

unfoldable pub reversed : ℕ → List ℕ → List ℕ
reversed k p = reversal k (λ i. get_or p i 0)

-- g has n coefficients and d has n + 1, of which the last has an inverse
pub record Divides (m : ℕ) (g d : List ℕ) (n inverse : ℕ) : Type 0 where
  pub modulus : Modulus m
  pub g_long : n ≤ length g
  pub g_below : Below m g
  pub d_below : Below m d
  pub inverse_below : inverse < m
  pub inverts : get_or d n 0 * inverse % m ≡ 1

pub record CoefficientInput (m : ℕ) (g d : List ℕ) (n inverse : ℕ) (q : List ℕ) (k : ℕ) : Type 0 where
  pub divides : Divides m g d n inverse
  pub long : k ≤ length q
  pub below : (i : ℕ) → i < k → get_or q i 0 < m

pub record QuotientInput (m : ℕ) (g d : List ℕ) (n inverse count : ℕ) (output : List ℕ) : Type 0 where
  pub divides : Divides m g d n inverse
  pub room : count ≤ length output

-- ---- entries of a reversal
reversal-entry : (k : ℕ) (p : ℕ → ℕ) (i : ℕ) → i < k → get_or (reversal k p) i 0 ≡ p (k - 1 - i)
unfolding reversal
reversal-entry zero p i h = absurd (omega arith)
reversal-entry (suc k) p zero h =
    let e : k ≡ suc k - 1 - 0 = omega arith in
    ap p e
reversal-entry (suc k) p (suc i) h =
    let e : k - 1 - i ≡ suc k - 1 - suc i = omega arith in
    reversal-entry k p i (le_of_suc-le-suc h) ∙ ap p e

reversal-past : (k : ℕ) (p : ℕ → ℕ) (i : ℕ) → k ≤ i → get_or (reversal k p) i 0 ≡ 0
unfolding reversal
reversal-past zero p i h = refl
reversal-past (suc k) p zero h = absurd (omega arith)
reversal-past (suc k) p (suc i) h = reversal-past k p i (le_of_suc-le-suc h)

module _ (n : ℕ) (p : List ℕ) (i : ℕ) where
  pub reversed-inside : i < n → get_or p (n - 1 - i) 0 ≡ get_or (reversed n p) i 0
  unfolding reversed
  reversed-inside h = sym (reversal-entry n (λ i. get_or p i 0) i h)

  pub reversed-past : n ≤ i → 0 ≡ get_or (reversed n p) i 0
  unfolding reversed
  reversed-past h = sym (reversal-past n (λ i. get_or p i 0) i h)

pub reversed-first : (n : ℕ) (p : List ℕ) → get_or p n 0 ≡ get_or (reversed (suc n) p) 0 0
unfolding reversed reversal
reversed-first n p = refl

-- ---- all of them
-- coefficient k depends on the k before it only
next_quotient-equal : (m : ℕ) (g d : List ℕ) (k : ℕ) (p q : List ℕ) → ((j : ℕ) → j < k → get_or p j 0 ≡ get_or q j 0)
    → next_quotient m g d k p ≡ next_quotient m g d k q
unfolding next_quotient
next_quotient-equal m g d k p q same = ap (λ s. (get_or g k 0 + negative m s) * inverse m (get_or d 0 0) % m)
    (sum-equal k _ _ (λ j h. ap (λ x. x * get_or d (k - j) 0) (same j h)))

-- coefficient k of the quotient
unfoldable pub quotient_entry : ℕ → List ℕ → List ℕ → ℕ → ℕ → ℕ → ℕ
quotient_entry m g d n count k = get_or (quotient m (reversed n g) (reversed (suc n) d) count) k 0

pub record Dividing (m : ℕ) (g d : List ℕ) (n count : ℕ) (output₀ output : List ℕ) (k : ℕ) : Type 0 where
  pub reached : k ≤ count
  pub written : Filling (quotient_entry m g d n count) k output₀ output

module _ (m : ℕ) (g d : List ℕ) (n y count : ℕ) (output₀ : List ℕ) (input : QuotientInput m g d n y count output₀) where
  pub dividing-starts : Dividing m g d n count output₀ output₀ 0
  dividing-starts = record { reached = omega arith; written = filling-start }

  module _ (output : List ℕ) (k : ℕ) (h : Dividing m g d n count output₀ output k) where
    pub dividing-input : k < count → CoefficientInput m g d n y output k
    unfolding quotient_entry
    dividing-input l = record {
      divides = input.divides;
      long = omega (arith, input.room, h.written.same_length);
      below = λ i p. rw (filling-below h.written i 0 p)
          (quotient-below m _ _ (omega (arith, input.divides.modulus.least)) count i (omega arith));
    }

    pub dividing-next : k < count → (r : ℕ) → r ≡ next_quotient m (reversed n g) (reversed (suc n) d) k output
        → Dividing m g d n count output₀ (set output k r) (k + 1)
    unfolding quotient_entry
    dividing-next l r e = record {
      reached = omega arith;
      written = filling-next h.written (omega (arith, input.room)) (e
          ∙ next_quotient-equal m (reversed n g) (reversed (suc n) d) k output (quotient m (reversed n g) (reversed (suc n) d) k)
          (λ j p. filling-below h.written j 0 p ∙ quotient-entry m (reversed n g) (reversed (suc n) d) k count j p (omega arith))
          ∙ sym (quotient-next m (reversed n g) (reversed (suc n) d) count k l));
    }

    pub dividing-ends : count ≤ k → output ≡ quotient m (reversed n g) (reversed (suc n) d) count ++ drop count output₀
    unfolding quotient_entry filled
    dividing-ends l =
        let q = quotient m (reversed n g) (reversed (suc n) d) count in
        filling-stop h.written count (omega (arith, h.reached))
        ∙ ap (λ t. t ++ drop count output₀)
        (ap (λ c. table c (λ i. get_or q i 0)) (sym (quotient-length m (reversed n g) (reversed (suc n) d) count))
        ∙ table-entries q 0)
