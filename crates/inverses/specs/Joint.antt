-- One product of two lists, each with a number more, for their inverses.
--   Invertible m xs x     x and each entry of xs have inverses modulo m
--   Joint m a x c y r     if r has an inverse modulo m, then a with x and c with y are invertible
--   Shared m xs x k p q   the same of x and the first k + k entries of xs, and two products p and q, which each take every second entry
-- Proved: how two products begin, go on by a pair of entries and end; a product of products settles both lists.
-- Assumes nothing.
use Rattle.std.specs.Prelude.{◌≡◌, List, ℕ, ◌+◌, ◌*◌, ◌-◌, ◌%◌, ◌<◌, ◌≤◌, length, get_or, take, drop}
use Rattle.std.proofs.Common.{◌∙◌, ap, subst, arith, length-drop, get_or-drop, take_all}
use Rattle.std.proofs.Math.Logic.{by_cases}
use Rattle.std.proofs.Math.Decide.{dec_lt, ℕ_discrete}
use Rattle.std.proofs.Math.Nat.{mod-mod}
use Rattle.definitions.specs.Number.{HasInverse}
use Rattle.numbers.specs.Inverse.{has-inverse-remainder, product-has-inverse}
use Rattle.numbers.specs.Lists.{Each}
use Rattle.numbers.specs.RunningProduct.{running_product, running-each}

pub record Invertible (m : ℕ) (xs : List ℕ) (x : ℕ) : Type 0 where
  pub entries : Each (HasInverse m) xs 0
  pub number : HasInverse m x

pub record Joint (m : ℕ) (a : List ℕ) (x : ℕ) (c : List ℕ) (y r : ℕ) : Type 0 where
  pub settles : HasInverse m r → Invertible m a x × Invertible m c y

pub record Shared (m : ℕ) (xs : List ℕ) (x k p q : ℕ) : Type 0 where
  pub number : HasInverse m p → HasInverse m x
  pub each : HasInverse m p → HasInverse m q → (i : ℕ) → i < k + k → HasInverse m (get_or xs i 0)

-- both factors of what is left of a product
factors : (m x y r : ℕ) → r ≡ x * y % m → HasInverse m r → HasInverse m x × HasInverse m y
factors m x y r e h = (product-has-inverse m x y).0 (has-inverse-remainder m r (x * y) (ap (λ t. t % m) e ∙ mod-mod (x * y) m) h)

module _ (m : ℕ) (xs : List ℕ) (x : ℕ) where
  pub shared-starts : Shared m xs x 0 x 1
  shared-starts = record { number = λ h. h; each = λ p q i l. absurd (omega arith) }

  pub shared-next : (k p q p' q' : ℕ) → Shared m xs x k p q → p' ≡ p * get_or xs (2 * k) 0 % m → q' ≡ q * get_or xs (2 * k + 1) 0 % m
      → Shared m xs x (k + 1) p' q'
  shared-next k p q p' q' h ep eq = record {
    number = λ hp. h.number (before hp).0;
    each = λ hp hq i l. at hp hq i l (dec_lt i (k + k)) (ℕ_discrete i (2 * k));
  }
    where
      before : HasInverse m p' → HasInverse m p × HasInverse m (get_or xs (2 * k) 0)
      before = factors m p (get_or xs (2 * k) 0) p' ep

      beside : HasInverse m q' → HasInverse m q × HasInverse m (get_or xs (2 * k + 1) 0)
      beside = factors m q (get_or xs (2 * k + 1) 0) q' eq

      at : HasInverse m p' → HasInverse m q' → (i : ℕ) → i < k + 1 + (k + 1) → Dec (i < k + k) → Dec (i ≡ 2 * k)
          → HasInverse m (get_or xs i 0)
      at hp hq i l (yes g) same = h.each (before hp).0 (beside hq).0 i g
      at hp hq i l (no g) (yes e) = rw e (before hp).1
      at hp hq i l (no g) (no n) = let last : i ≡ 2 * k + 1 = omega arith in rw last (beside hq).1

  -- what the slice behind k pairs lends
  abbrev behind : ℕ → List ℕ
  behind k = take (length xs - 2 * k) (drop (2 * k) xs)

  -- the two products, and that of the rest of the list
  pub shared-ends : (n k p q both rest whole : ℕ) → n ≡ k → Shared m xs x n p q → k + k ≤ length xs → both ≡ p * q % m
      → rest ≡ running_product m (λ i. get_or (behind k) i 0) (length (behind k)) → whole ≡ both * rest % m
      → HasInverse m whole → Invertible m xs x
  shared-ends n k p q both rest whole e shared fits eb er ew inverse =
      let h : Shared m xs x k p q = subst (λ j. Shared m xs x j p q) e shared in
      let outer = factors m both rest whole ew inverse in
      let inner = factors m p q both eb outer.0 in
      record {
        entries = λ i l. by_cases (dec_lt i (k + k)) (h.each inner.0 inner.1 i) (past outer.1 i l);
        number = h.number inner.0;
      }
    where
      past : HasInverse m rest → (i : ℕ) → i < length xs → (i < k + k → ⊥) → HasInverse m (get_or xs i 0)
      past left i l g =
          let place : 2 * k + (i - 2 * k) ≡ i = omega arith in
          let lent : behind k ≡ drop (2 * k) xs = take_all (length xs - 2 * k) (drop (2 * k) xs) (omega (arith, length-drop (2 * k) xs)) in
          let there = running-each m (λ j. get_or (behind k) j 0) (length (behind k)) (subst (HasInverse m) er left) (i - 2 * k)
          (omega (arith, ap length lent, length-drop (2 * k) xs)) in
          let moved : get_or (behind k) (i - 2 * k) 0 ≡ get_or xs i 0 =
          ap (λ ys. get_or ys (i - 2 * k) 0) lent ∙ get_or-drop (2 * k) xs (i - 2 * k) 0 ∙ ap (λ j. get_or xs j 0) place in
          subst (HasInverse m) moved there

pub joint-of : (m : ℕ) (a : List ℕ) (x : ℕ) (c : List ℕ) (y s t r : ℕ) → r ≡ s * t % m
    → (HasInverse m s → Invertible m a x) → (HasInverse m t → Invertible m c y) → Joint m a x c y r
joint-of m a x c y s t r e left right = record { settles = λ h. let both = factors m s t r e h in (left both.0, right both.1) }
