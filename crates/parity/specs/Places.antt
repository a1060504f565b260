-- Where the entries go when even powers come first.
--   index n k   the index whose entry goes to place k
-- Proved: what the places of even and of odd indices are; every index below n goes to a place below n, no two to the same (place-apart), and
-- to every place below n goes one (place-index). Assumes nothing.
use Rattle.std.specs.Prelude.{Bool, true, false, ◌≡◌, refl, ℕ, ◌+◌, ◌*◌, ◌-◌, ◌/◌, ◌%◌, ◌<◌, ◌≤◌, eqb, ltb}
use Rattle.std.proofs.Common.{◌∙◌, ap, arith, eq-eqb, ne_eqb, eqb-true, lt-ltb, le-ltb, ltb-true, ltb-false}
use Rattle.std.proofs.lemmas.Bool.{eqb-false}
use Rattle.definitions.specs.Reading.{pick}
use Rattle.storing.specs.Order.{half, place}

unfoldable pub index : ℕ → ℕ → ℕ
index n k = pick (ltb k (half n)) (2 * k) (2 * (k - half n) + 1)

pub half_is : (n : ℕ) → half n ≡ (n + 1) / 2
unfolding half
half_is n = refl

module _ (n i : ℕ) where
  pub place-even : i % 2 ≡ 0 → place n i ≡ i / 2
  unfolding place
  place-even e = rw (eq-eqb (i % 2) 0 e)

  pub place-odd : i % 2 ≡ 1 → place n i ≡ half n + i / 2
  unfolding place
  place-odd e = rw (ne_eqb (i % 2) 0 (λ z. omega arith))

  pub index-front : i < half n → index n i ≡ 2 * i
  unfolding index
  index-front h = rw (lt-ltb i (half n) h)

  pub index-rest : half n ≤ i → index n i ≡ 2 * (i - half n) + 1
  unfolding index
  index-rest h = rw (le-ltb i (half n) h)

-- an index is even or odd
pub data Parity (i : ℕ) : Type 0 where
  even : i % 2 ≡ 0 → Parity i
  odd : i % 2 ≡ 1 → Parity i

pub parity : (i : ℕ) → Parity i
parity i = split (eqb (i % 2) 0) refl
  where
    split : (e : Bool) → eqb (i % 2) 0 ≡ e → Parity i
    split true e = even (eqb-true (i % 2) 0 e)
    split false e = let h = eqb-false (i % 2) 0 e in odd (omega arith)

module _ (n : ℕ) where
  pub place-below : (i : ℕ) → i < n → place n i < n
  place-below i h = split (parity i)
    where
      split : Parity i → place n i < n
      split (even e) = omega (arith, place-even n i e)
      split (odd e) = omega (arith, place-odd n i e, half_is n)

  pub place-apart : (i j : ℕ) → i < n → j < n → place n i ≡ place n j → i ≡ j
  place-apart i j h k same = split (parity i) (parity j)
    where
      split : Parity i → Parity j → i ≡ j
      split (even e) (even f) = omega (arith, place-even n i e, place-even n j f)
      split (even e) (odd f) = omega (arith, place-even n i e, place-odd n j f, half_is n)
      split (odd e) (even f) = omega (arith, place-odd n i e, place-even n j f, half_is n)
      split (odd e) (odd f) = omega (arith, place-odd n i e, place-odd n j f)

  module _ (k : ℕ) where
    pub index_below : k < n → index n k < n
    index_below h = split (ltb k (half n)) refl
      where
        split : (e : Bool) → ltb k (half n) ≡ e → index n k < n
        split true e = omega (arith, ltb-true k (half n) e, index-front n k (ltb-true k (half n) e), half_is n)
        split false e = omega (arith, ltb-false k (half n) e, index-rest n k (ltb-false k (half n) e), half_is n)

    pub place-index : place n (index n k) ≡ k
    place-index = split (ltb k (half n)) refl
      where
        split : (e : Bool) → ltb k (half n) ≡ e → place n (index n k) ≡ k
        split true e =
            let is = index-front n k (ltb-true k (half n) e) in
            ap (place n) is ∙ place-even n (2 * k) (omega arith) ∙ omega arith
        split false e =
            let past : half n ≤ k = ltb-false k (half n) e in
            ap (place n) (index-rest n k past) ∙ place-odd n (2 * (k - half n) + 1) (omega arith) ∙ omega arith
