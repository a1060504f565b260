-- Each order by its entries.
-- Proved: each has as many entries as the list; entry i of a list stands at its place when even powers come first (first-place), so that at
-- place k stands the entry of index n k (first-table); either order after the other returns the list (back-first, first_back). By the
-- direction, source d n k being the index whose entry comes to place k: arranged-table, arranged-back.
-- Assumes nothing.
use mathlib.Core.List.{List, [], ◌∷◌}
use Rattle.std.specs.Prelude.{◌≡◌, length, set, replicate}
use Rattle.std.proofs.Math.Path.{refl, ap}
use Rattle.std.proofs.Common.{sym, ◌∙◌}
use Prim.Native.Nat.{ℕ, zero, suc, ◌+◌, ◌<◌, ◌≤◌}
use native.Mathlib.Omega.{arith}
use Rattle.std.proofs.Math.ListN.{get_or, length-set, length-replicate}
use Rattle.std.proofs.Math.Seq.{get_or-set_same, get_or-set_other}
use Rattle.definitions.specs.Number.{table}
use Rattle.numbers.specs.Lists.{table-length, table-entry, table-equal, table-entries, table-unique}
use Rattle.storing.specs.Order.{place, placed, even_first, even_back, arranged, opposite}
use Rattle.storing.specs.declared.Direction.{Direction}
use Rattle.parity.specs.Places.{index, index_below, place-below, place-apart, place-index}

module _ (n : ℕ) where
  placed-length : (i : ℕ) (xs ys : List ℕ) → length (placed n i xs ys) ≡ length ys
  unfolding placed
  placed-length i [] ys = refl
  placed-length i (x ∷ xs) ys = placed-length (suc i) xs (set ys (place n i) x) ∙ length-set ys (place n i) x

  -- what was put at the place of an earlier index stays
  placed-before : (i : ℕ) (xs ys : List ℕ) (j : ℕ) → j < i → i + length xs ≤ n → get_or (placed n i xs ys) (place n j) 0 ≡ get_or ys (place n j) 0
  unfolding placed
  placed-before i [] ys j h fits = refl
  placed-before i (x ∷ xs) ys j h fits =
      placed-before (suc i) xs (set ys (place n i) x) j (omega arith) (omega arith)
      ∙ get_or-set_other ys (place n i) (place n j) x 0 (λ e. omega (arith, place-apart n j i (omega arith) (omega arith) e))

  placed-entry : (i : ℕ) (xs ys : List ℕ) (k : ℕ) → length ys ≡ n → i + length xs ≤ n → k < length xs
      → get_or (placed n i xs ys) (place n (i + k)) 0 ≡ get_or xs k 0
  unfolding placed
  placed-entry i [] ys k long fits h = absurd (omega arith)
  placed-entry i (x ∷ xs) ys zero long fits h =
      ap (λ j. get_or (placed n (suc i) xs (set ys (place n i) x)) (place n j) 0) (omega arith)
      ∙ placed-before (suc i) xs (set ys (place n i) x) i (omega arith) (omega arith)
      ∙ get_or-set_same ys (place n i) x 0 (omega (arith, place-below n i (omega arith)))
  placed-entry i (x ∷ xs) ys (suc k) long fits h =
      ap (λ j. get_or (placed n (suc i) xs (set ys (place n i) x)) (place n j) 0) (omega arith)
      ∙ placed-entry (suc i) xs (set ys (place n i) x) k (length-set ys (place n i) x ∙ long) (omega arith) (omega arith)

module _ (xs : List ℕ) where
  abbrev n : ℕ
  n = length xs

  pub first-length : length (even_first xs) ≡ n
  unfolding even_first
  first-length = placed-length n 0 xs (replicate n 0) ∙ length-replicate {A = ℕ} n 0

  pub back-length : length (even_back xs) ≡ n
  unfolding even_back
  back-length = table-length n (λ i. get_or xs (place n i) 0)

  pub first-place : (i : ℕ) → i < n → get_or (even_first xs) (place n i) 0 ≡ get_or xs i 0
  unfolding even_first
  first-place i h =
      let same : i ≡ 0 + i = omega arith in
      ap (λ j. get_or (even_first xs) (place n j) 0) same ∙ placed-entry n 0 xs (replicate n 0) i (length-replicate {A = ℕ} n 0) (omega arith) h

  pub first_entry : (k : ℕ) → k < n → get_or (even_first xs) k 0 ≡ get_or xs (index n k) 0
  first_entry k h = ap (λ j. get_or (even_first xs) j 0) (sym (place-index n k)) ∙ first-place (index n k) (index_below n k h)

  pub back-entry : (i : ℕ) → i < n → get_or (even_back xs) i 0 ≡ get_or xs (place n i) 0
  unfolding even_back
  back-entry i h = table-entry n (λ i. get_or xs (place n i) 0) i 0 h

  pub first-table : even_first xs ≡ table n (λ k. get_or xs (index n k) 0)
  first-table = table-unique (even_first xs) n (λ k. get_or xs (index n k) 0) first-length first_entry

  pub back-table : even_back xs ≡ table n (λ i. get_or xs (place n i) 0)
  unfolding even_back
  back-table = refl

-- ---- either after the other
module _ (xs : List ℕ) where
  pub back-first : even_back (even_first xs) ≡ xs
  back-first =
      back-table (even_first xs)
      ∙ ap (λ k. table k (λ i. get_or (even_first xs) (place k i) 0)) (first-length xs)
      ∙ table-equal (length xs) (λ i. get_or (even_first xs) (place (length xs) i) 0) (λ i. get_or xs i 0) (first-place xs)
      ∙ table-entries xs 0

  pub first_back : even_first (even_back xs) ≡ xs
  first_back =
      first-table (even_back xs)
      ∙ ap (λ n. table n (λ k. get_or (even_back xs) (index n k) 0)) (back-length xs)
      ∙ table-equal (length xs) (λ k. get_or (even_back xs) (index (length xs) k) 0) (λ k. get_or xs k 0)
      (λ k h. back-entry xs (index (length xs) k) (index_below (length xs) k h) ∙ ap (λ j. get_or xs j 0) (place-index (length xs) k))
      ∙ table-entries xs 0

-- ---- by the direction
pub arranged-length : (d : Direction) (xs : List ℕ) → length (arranged d xs) ≡ length xs
unfolding arranged
arranged-length Direction.EvenFirst xs = first-length xs
arranged-length Direction.EvenBack xs = back-length xs

-- the index of the entry that comes to place k
abbrev pub source : Direction → ℕ → ℕ → ℕ
source Direction.EvenFirst n k = index n k
source Direction.EvenBack n k = place n k

pub source-below : (d : Direction) (n k : ℕ) → k < n → source d n k < n
source-below Direction.EvenFirst n k h = index_below n k h
source-below Direction.EvenBack n k h = place-below n k h

pub arranged-table : (d : Direction) (xs : List ℕ) → arranged d xs ≡ table (length xs) (λ k. get_or xs (source d (length xs) k) 0)
unfolding arranged
arranged-table Direction.EvenFirst xs = first-table xs
arranged-table Direction.EvenBack xs = back-table xs

pub arranged-back : (d : Direction) (xs : List ℕ) → arranged (opposite d) (arranged d xs) ≡ xs
unfolding arranged
arranged-back Direction.EvenFirst xs = back-first xs
arranged-back Direction.EvenBack xs = first_back xs
