-- The lowest row without an inverse in a column of rows.
--   Lacking f first entry i   row i + 1 is the lowest, of those from place first on up to row n, whose entry has no inverse
--   Zero f first entry        the entry of that row is zero
--   Shared f first entry      it is not zero, and shares a factor with m that is above 1, and below m where the entry is
-- Proved, from m = 2 on: there is at most one such row (lacking-only); the conditions of 17 and 18 hold if and only if it has a zero
-- (zero_is); those of 10 and 11 hold and these do not if and only if it shares a factor (shared-is). Assumes nothing.
use Rattle.std.specs.Prelude.{◌≡◌, Bool, false, ◌↔◌, ℕ, zero, suc, ◌+◌, ◌-◌, ◌<◌, ◌≤◌, eqb}
use Rattle.std.proofs.Math.Path.{refl}
use Rattle.std.proofs.Common.{sym, ◌∙◌, subst, true≢false, arith}
use Rattle.std.proofs.Math.Bool.{true}
use Rattle.std.proofs.Math.Logic.{by_cases}
use Rattle.std.proofs.Math.Decide.{dec_lt}
use Rattle.std.proofs.Math.Nat.{one-dvd}
use borrow.Author.Tests.{eqb-true, eq-eqb}
use Rattle.definitions.specs.Family.{Family, Row, row_at, size}
use Rattle.definitions.specs.Number.{HasInverse, greatest_factor}
use Rattle.definitions.specs.Refusals.{some_from, lowest_from, some_row, lowest_row, no_inverse}
use Rattle.numbers.specs.Factor.{factor-greatest, factor-less, factor-one}
use Rattle.acceptance.specs.Verdicts.{some_from-false, lowest-none, lowest-is, zero-false, no_inverse-false, no_inverse-true}

-- ---- of numbers
record Lowest (passes : ℕ → Bool) (first count i : ℕ) : Type 0 where
  from : first ≤ i
  within : i < first + count
  here : passes i ≡ true
  below : (j : ℕ) → first ≤ j → j < i → passes j ≡ false

lowest-exists : (passes : ℕ → Bool) (first count : ℕ) → some_from passes first count ≡ true → (i : ℕ) × Lowest passes first count i
unfolding some_from
lowest-exists passes first zero e = absurd (true≢false (sym e))
lowest-exists passes first (suc count) e = split (passes first) refl (lowest-exists passes (suc first) count) e
  where
    split : (h : Bool) → passes first ≡ h → (some_from passes (suc first) count ≡ true → (i : ℕ) × Lowest passes (suc first) count i)
        → elim h as (λ b. Bool) [ true ↦ true | false ↦ some_from passes (suc first) count ] ≡ true
        → (i : ℕ) × Lowest passes first (suc count) i
    split true q further f = (first, record { from = omega arith; within = omega arith; here = q; below = λ j l h. absurd (omega arith) })
    split false q further f =
        let (i, low) = further f in
        let from : suc first ≤ i = low.from in
        let within : i < suc first + count = low.within in
        (i, record { from = omega arith; within = omega arith; here = low.here; below = below i low })
      where
        below : (i : ℕ) → Lowest passes (suc first) count i → (j : ℕ) → first ≤ j → j < i → passes j ≡ false
        below i low j l h = by_cases (dec_lt first j)
            (λ g. low.below j (omega arith) h)
            (λ g. let same : first ≡ j = omega arith in subst (λ k. passes k ≡ false) same q)

module _ (passes also : ℕ → Bool) (first count : ℕ) where
  lowest-also : (i : ℕ) → Lowest passes first count i → lowest_from passes also first count ≡ also i
  lowest-also i low = lowest-is passes also first count i low.from low.within (λ j l h. low.below j l (omega (arith, low.from))) low.here

  pub lowest-some : lowest_from passes also first count ≡ true → some_from passes first count ≡ true
  lowest-some e = split (some_from passes first count) refl
    where
      split : (h : Bool) → some_from passes first count ≡ h → some_from passes first count ≡ true
      split true q = q
      split false q =
          absurd (true≢false (sym e ∙ lowest-none passes also first count ((some_from-false passes first count).0 q)))

-- ---- of rows
pub record Lacking (f : Family) (first : ℕ) (entry : Row → ℕ) (i : ℕ) : Type 0 where
  pub from : first ≤ i
  pub within : i < size f
  pub lacks : HasInverse f.m (entry (row_at f i)) → ⊥
  pub below : (j : ℕ) → first ≤ j → j < i → HasInverse f.m (entry (row_at f j))

pub lacking-only : (f : Family) (first : ℕ) (entry : Row → ℕ) (i j : ℕ) → Lacking f first entry i → Lacking f first entry j → i ≡ j
lacking-only f first entry i j p q =
    let least : i < j → ⊥ = λ h. p.lacks (q.below i p.from h) in
    let most : j < i → ⊥ = λ h. q.lacks (p.below j q.from h) in
    omega arith

abbrev pub Zero : Family → ℕ → (Row → ℕ) → Type 0
Zero f first entry = (i : ℕ) × Lacking f first entry i × (entry (row_at f i) ≡ 0)

pub record SharedFactor (m x : ℕ) : Type 0 where
  pub not_zero : 0 < x
  pub above : 1 < greatest_factor m x
  pub below : x < m → greatest_factor m x < m

pub shared-factor-is : (m x : ℕ) → 2 ≤ m → ((0 < x) × (HasInverse m x → ⊥)) ↔ SharedFactor m x
shared-factor-is m x two = (
  λ p.
      let pos : 0 < m = omega arith in
      let other : greatest_factor m x ≡ 1 → ⊥ = λ e. p.1 ((factor-one m x two).1 e) in
      let least : 1 ≤ greatest_factor m x = (factor-greatest m x pos).greatest 1 (one-dvd x) (one-dvd m) in
      record { not_zero = p.0; above = omega arith; below = factor-less m x pos p.0 },
  λ s. (s.not_zero, λ has. let one : greatest_factor m x ≡ 1 = (factor-one m x two).0 has in omega (arith, s.above)),
)

abbrev pub Shared : Family → ℕ → (Row → ℕ) → Type 0
Shared f first entry = (i : ℕ) × Lacking f first entry i × SharedFactor f.m (entry (row_at f i))

module _ (f : Family) (two : 2 ≤ f.m) (first : ℕ) (entry : Row → ℕ) where
  abbrev lacks : Row → Bool
  lacks row = no_inverse f.m (entry row)

  abbrev is_zero : Row → Bool
  is_zero row = eqb (entry row) 0

  abbrev at : ℕ → Bool
  at i = lacks (row_at f i)

  pos : 0 < f.m
  pos = omega arith

  lacking : (i : ℕ) → Lowest at first (size f - first) i ↔ Lacking f first entry i
  lacking i = (
    λ low.
        record {
          from = low.from;
          within = omega (arith, low.from, low.within);
          lacks = (no_inverse-true f.m (entry (row_at f i)) pos).0 low.here;
          below = λ j l h. (no_inverse-false f.m (entry (row_at f j)) pos).0 (low.below j l h);
        },
    λ row.
        record {
          from = row.from;
          within = omega (arith, row.from, row.within);
          here = (no_inverse-true f.m (entry (row_at f i)) pos).1 row.lacks;
          below = λ j l h. (no_inverse-false f.m (entry (row_at f j)) pos).1 (row.below j l h);
        },
  )

  some-row : (i : ℕ) → Lacking f first entry i → some_row f first lacks ≡ true
  unfolding some_row
  some-row i row = split (some_from at first (size f - first)) refl
    where
      low : Lowest at first (size f - first) i
      low = (lacking i).1 row

      split : (h : Bool) → some_from at first (size f - first) ≡ h → some_from at first (size f - first) ≡ true
      split true q = q
      split false q =
          absurd (true≢false (sym low.here ∙ (some_from-false at first (size f - first)).0 q i low.from low.within))

  lowest-row : (i : ℕ) → Lacking f first entry i → lowest_row f first lacks is_zero ≡ is_zero (row_at f i)
  unfolding lowest_row
  lowest-row i row = lowest-also at (λ j. is_zero (row_at f j)) first (size f - first) i ((lacking i).1 row)

  row-exists : some_row f first lacks ≡ true → (i : ℕ) × Lacking f first entry i
  unfolding some_row
  row-exists e = let (i, low) = lowest-exists at first (size f - first) e in (i, (lacking i).0 low)

  pub zero_is : (lowest_row f first lacks is_zero ≡ true) ↔ Zero f first entry
  unfolding lowest_row some_row
  zero_is = (to, λ z. lowest-row z.0 z.1 ∙ eq-eqb (entry (row_at f z.0)) 0 z.2)
    where
      to : lowest_row f first lacks is_zero ≡ true → Zero f first entry
      to e =
          let (i, row) = row-exists (lowest-some at (λ j. is_zero (row_at f j)) first (size f - first) e) in
          (i, row, eqb-true (entry (row_at f i)) 0 (sym (lowest-row i row) ∙ e))

  pub shared-is : ((lowest_row f first lacks is_zero ≡ false) × (some_row f first lacks ≡ true)) ↔ Shared f first entry
  shared-is = (to, λ s. (lowest-row s.0 s.1 ∙ (zero-false (entry (row_at f s.0))).1 s.2.not_zero, some-row s.0 s.1))
    where
      to : (lowest_row f first lacks is_zero ≡ false) × (some_row f first lacks ≡ true) → Shared f first entry
      to (none, one) =
          let (i, row) = row-exists one in
          let x = entry (row_at f i) in
          let some : 0 < x = (zero-false x).0 (sym (lowest-row i row) ∙ none) in
          (i, row, (shared-factor-is f.m x two).0 (some, row.lacks))
