-- Where every b is zero: up to j = r, F_j has only even powers for an even j, and only odd ones for an odd j. So the expanded list of a curve
-- with only even entries has zeros at the odd indices, which come last when even powers come first; and the reverse of a curve with only odd
-- entries.
-- Proved: term-zero of a recurrence, F-zero of the family, expand-zero of the expanded list, odd-part-zero and even-part-zero of that list
-- put even powers first. Assumes nothing.
use Rattle.std.specs.Prelude.{Bool, true, false, List, ◌≡◌, eqb, replicate}
use Rattle.std.proofs.Math.Path.{refl, sym, ap}
use Rattle.std.proofs.Common.{◌∙◌, arith, eqb-true, get_or-take, get_or-drop}
use Prim.Native.Nat.{ℕ, zero, suc, ◌+◌, ◌*◌, ◌-◌, ◌%◌, ◌<◌, ◌≤◌}
use Rattle.std.proofs.Math.Nat.{zero-mod}
use Rattle.std.proofs.lemmas.Bool.{eqb-false}
use Rattle.std.proofs.Math.ListN.{length, get_or, take, drop, length-drop}
use Rattle.std.proofs.lemmas.List.{get_or-replicate, length-replicate}
use Rattle.std.proofs.Math.Seq.{length-take-le, ext_get_or}
use Rattle.definitions.specs.Conversion.{expand}
use Rattle.definitions.specs.Family.{Row, Family, rows, size, row_at, times_x, term, F}
use Rattle.definitions.specs.Number.{sum}
use Rattle.numbers.specs.Lists.{get_or-default, table-entry}
use Rattle.numbers.specs.Sums.{sum-zero}
use Rattle.storing.specs.Order.{half, even_first}
use Rattle.storing.specs.Parity.{NoB, even_part, odd_part}
use Rattle.parity.specs.Places.{half_is, index, index-front, index-rest, index_below}
use Rattle.parity.specs.Orders.{first-length, first_entry}

-- ---- a recurrence whose first rows have no b: P_{k-1} has no x^i where i + k is even
module _ (m : ℕ) (row : ℕ → Row) where
  no-terms : (a b c x y z : ℕ) → x ≡ 0 → b ≡ 0 → z ≡ 0 → (a * x + b * y + c * z) % m ≡ 0
  no-terms a b c x y z ex eb ez =
      let none : a * 0 + 0 * y + c * 0 ≡ 0 = omega arith in
      rw (ex, eb, ez) (ap (λ t. t % m) none ∙ zero-mod m)

  pub term-zero : (k i : ℕ) → ((j : ℕ) → suc j < k → (row j).b ≡ 0) → (i + k) % 2 ≡ 0 → term m row k i ≡ 0
  unfolding term times_x
  term-zero zero i no_b e = refl
  term-zero (suc zero) zero no_b e = absurd (omega arith)
  term-zero (suc zero) (suc i) no_b e = refl
  term-zero (suc (suc k)) zero no_b e =
      no-terms (row k).a (row k).b (row k).c 0 (term m row (suc k) zero) (term m row k zero)
      refl (no_b k (omega arith)) (term-zero k zero (λ j h. no_b j (omega arith)) (omega arith))
  term-zero (suc (suc k)) (suc i) no_b e =
      no-terms (row k).a (row k).b (row k).c (term m row (suc k) i) (term m row (suc k) (suc i)) (term m row k (suc i))
      (term-zero (suc k) i (λ j h. no_b j (omega arith)) (omega arith)) (no_b k (omega arith))
      (term-zero k (suc i) (λ j h. no_b j (omega arith)) (omega arith))

module _ (f : Family) (b_length : length f.b ≡ rows f) (no_b : NoB f) where
  row_zero : (i : ℕ) → i < rows f → (row_at f i).b ≡ 0
  unfolding row_at
  row_zero i h = get_or-default f.b i f.close.b 0 (omega arith) ∙ no_b i h

  pub F-zero : (j i : ℕ) → j ≤ rows f → (i + j) % 2 ≡ 1 → F f j i ≡ 0
  unfolding F
  F-zero j i h e = term-zero f.m (row_at f) (suc j) i (λ k l. row_zero k (omega arith)) (omega arith)

  -- ---- the expanded list of a curve
  module _ (u : List ℕ) (long : length u ≡ size f) where
    product-zero : (x y : ℕ) → x ≡ 0 → x * y ≡ 0
    product-zero x y e = rw e (omega arith)

    product-zero' : (x y : ℕ) → y ≡ 0 → x * y ≡ 0
    product-zero' x y e = rw e (omega arith)

    -- every term of entry i is zero
    entry_zero : (i : ℕ) → i < size f → ((j : ℕ) → j < size f → get_or u j 0 * F f j i ≡ 0) → get_or (expand f u) i 0 ≡ 0
    unfolding expand
    entry_zero i h each =
        table-entry (size f) (λ i. sum (size f) (λ j. get_or u j 0 * F f j i) % f.m) i 0 h
        ∙ ap (λ s. s % f.m) (sum-zero (size f) (λ j. get_or u j 0 * F f j i) each) ∙ zero-mod f.m

    -- where the entries at the indices of one parity are zero, so are the coefficients there
    pub expand-zero : (e : ℕ) → ((j : ℕ) → j < length u → j % 2 ≡ e → get_or u j 0 ≡ 0)
        → (i : ℕ) → i < size f → i % 2 ≡ e → get_or (expand f u) i 0 ≡ 0
    expand-zero e none i h is = entry_zero i h each
      where
        each : (j : ℕ) → j < size f → get_or u j 0 * F f j i ≡ 0
        each j l = split (eqb (j % 2) e) refl
          where
            split : (t : Bool) → eqb (j % 2) e ≡ t → get_or u j 0 * F f j i ≡ 0
            split true t = product-zero (get_or u j 0) (F f j i) (none j (omega arith) (eqb-true (j % 2) e t))
            split false t =
                let other = eqb-false (j % 2) e t in
                product-zero' (get_or u j 0) (F f j i) (F-zero j i (omega arith) (omega arith))

-- ---- the same, even powers first
module _ (xs : List ℕ) where
  abbrev n : ℕ
  n = length xs

  half-within : half n ≤ n
  half-within = omega (arith, half_is n)

  pub odd-part-zero : ((i : ℕ) → i < n → i % 2 ≡ 1 → get_or xs i 0 ≡ 0) → odd_part (even_first xs) ≡ replicate (n - half n) 0
  unfolding odd_part
  odd-part-zero none =
      ap (λ k. drop (half k) (even_first xs)) (first-length xs)
      ∙ ext_get_or 0 (drop (half n) (even_first xs)) (replicate (n - half n) 0) (long ∙ sym (length-replicate {A = ℕ} (n - half n) 0)) each
    where
      long : length (drop (half n) (even_first xs)) ≡ n - half n
      long = length-drop (half n) (even_first xs) ∙ ap (λ k. k - half n) (first-length xs)

      each : (i : ℕ) → i < length (drop (half n) (even_first xs)) → get_or (drop (half n) (even_first xs)) i 0 ≡ get_or (replicate (n - half n) 0) i 0
      each i h =
          let inside : i < n - half n = omega (arith, long) in
          let place : half n + i < n = omega arith in
          let is : index n (half n + i) ≡ 2 * i + 1 = index-rest n (half n + i) (omega arith) ∙ omega arith in
          get_or-drop (half n) (even_first xs) i 0 ∙ first_entry xs (half n + i) place
          ∙ none (index n (half n + i)) (index_below n (half n + i) place) (omega (arith, is))
          ∙ sym (get_or-replicate (n - half n) i 0 0 inside)

  pub even-part-zero : ((i : ℕ) → i < n → i % 2 ≡ 0 → get_or xs i 0 ≡ 0) → even_part (even_first xs) ≡ replicate (half n) 0
  unfolding even_part
  even-part-zero none =
      ap (λ k. take (half k) (even_first xs)) (first-length xs)
      ∙ ext_get_or 0 (take (half n) (even_first xs)) (replicate (half n) 0) (long ∙ sym (length-replicate {A = ℕ} (half n) 0)) each
    where
      long : length (take (half n) (even_first xs)) ≡ half n
      long = length-take-le (half n) (even_first xs) (omega (arith, first-length xs, half-within))

      each : (i : ℕ) → i < length (take (half n) (even_first xs)) → get_or (take (half n) (even_first xs)) i 0 ≡ get_or (replicate (half n) 0) i 0
      each i h =
          let inside : i < half n = omega (arith, long) in
          let place : i < n = omega (arith, half-within) in
          let is : index n i ≡ 2 * i = index-front n i inside in
          get_or-take (half n) (even_first xs) i 0 inside ∙ first_entry xs i place
          ∙ none (index n i) (index_below n i place) (omega (arith, is))
          ∙ sym (get_or-replicate (half n) i 0 0 inside)
