-- Lists with zeros behind, up to a number of places.
-- Proved: length and entries of a padded list; its front is the list; a list is padded where its front and the zeros behind it are, and is
-- its own front padded where zeros stand behind that; what is written over the front of zeros is padded, the norms of lent rows too.
-- Assumes nothing.
use Rattle.std.specs.Prelude.{◌≡◌, refl, List, ◌++◌, ℕ, zero, suc, ◌+◌, ◌-◌, ◌<◌, ◌≤◌, take}
use Rattle.std.proofs.Common.{sym, ◌∙◌, length-append, ext_get_or, get_or-take}
use Rattle.std.proofs.Math.Path.{ap, ap₂}
use Rattle.std.proofs.Math.Logic.{by_cases}
use Rattle.std.proofs.Math.Decide.{dec_lt}
use Rattle.std.proofs.Math.Numerals.{unary_clauses}
use native.Mathlib.Omega.{arith}
use Rattle.std.proofs.Math.ListN.{length, get_or, drop, replicate, get_or-append, get_or-eq_default}
use Rattle.std.proofs.lemmas.List.{length-replicate, get_or-replicate}
use Rattle.std.proofs.Math.Seq.{get_or-append-add, length-take-le, take-append_seam}
use Rattle.definitions.specs.Family.{Row, size}
use Rattle.definitions.specs.Number.{table}
use Rattle.definitions.specs.Orthogonality.{norm, norms}
use Rattle.definitions.specs.Prepared.{padded}
use Rattle.numbers.specs.Lists.{table-length, filled}
use Rattle.lists.specs.Lent.{lent}

pub zeros-entry : (n i : ℕ) → ◌≡◌ {A = ℕ} (get_or (replicate n 0) i 0) 0
zeros-entry n i = by_cases (dec_lt i n)
    (λ h. get_or-replicate n i 0 0 h)
    (λ h. get_or-eq_default (replicate n 0) 0 (omega (arith, length-replicate {A = ℕ} n 0)))

zeros-behind : (i n : ℕ) → ◌≡◌ {A = List ℕ} (drop i (replicate n 0)) (replicate (n - i) 0)
zeros-behind zero n = simp unary_clauses refl
zeros-behind (suc i) zero = let none : 0 ≡ 0 - suc i = omega arith in ap (λ j. replicate {A = ℕ} j 0) none
zeros-behind (suc i) (suc n) = simp unary_clauses (zeros-behind i n)

module _ (k : ℕ) (xs : List ℕ) where
  pub padded-length : length xs ≤ k → length (padded k xs) ≡ k
  unfolding padded
  padded-length h = simp (length-append, length-replicate) (omega arith)

  pub padded-inside : (i : ℕ) → i < length xs → get_or (padded k xs) i 0 ≡ get_or xs i 0
  unfolding padded
  padded-inside i h = get_or-append xs (replicate (k - length xs) 0) 0 i h

  pub padded-past : (i : ℕ) → length xs ≤ i → get_or (padded k xs) i 0 ≡ 0
  unfolding padded
  padded-past i h =
      let e : i ≡ length xs + (i - length xs) = omega arith in
      ap (λ j. get_or (xs ++ replicate (k - length xs) 0) j 0) e
      ∙ get_or-append-add xs (replicate (k - length xs) 0) (i - length xs) 0 ∙ zeros-entry (k - length xs) (i - length xs)

  pub padded-front : take (length xs) (padded k xs) ≡ xs
  unfolding padded
  padded-front = take-append_seam xs (replicate (k - length xs) 0)

  -- over the front of zeros
  pub padded-over : (n : ℕ) → length xs ≡ n → xs ++ drop n (replicate k 0) ≡ padded k xs
  unfolding padded
  padded-over n e = ap (λ t. xs ++ t) (zeros-behind n k ∙ ap (λ j. replicate (k - j) 0) (sym e))

  pub padded-unique : (list : List ℕ) → length list ≡ k → length xs ≤ k
      → ((i : ℕ) → i < length xs → get_or list i 0 ≡ get_or xs i 0) → ((i : ℕ) → length xs ≤ i → get_or list i 0 ≡ 0)
      → list ≡ padded k xs
  padded-unique list long few front behind = ext_get_or 0 list (padded k xs) (long ∙ sym (padded-length few)) entry
    where
      entry : (i : ℕ) → i < length list → get_or list i 0 ≡ get_or (padded k xs) i 0
      entry i h = by_cases (dec_lt i (length xs))
          (λ l. front i l ∙ sym (padded-inside i l))
          (λ l. behind i (omega arith) ∙ sym (padded-past i (omega arith)))

-- a list with zeros behind its first r entries
pub own-padded : (k r : ℕ) (list : List ℕ) → length list ≡ k → r ≤ k → ((i : ℕ) → r ≤ i → get_or list i 0 ≡ 0)
    → list ≡ padded k (take r list)
own-padded k r list long few behind =
    let front : length (take r list) ≡ r = length-take-le r list (omega arith) in
    padded-unique k (take r list) list long (omega arith) (λ i h. sym (get_or-take r list i 0 (omega arith)))
    (λ i h. behind i (omega arith))

-- what a loop fills over zeros
module _ (k n : ℕ) {zeros list : List ℕ} (zeros_are : zeros ≡ replicate k 0) where
  pub filled-padded : (entry : ℕ → ℕ) → list ≡ filled entry n zeros → list ≡ padded k (table n entry)
  unfolding filled
  filled-padded entry e =
      e ∙ ap (λ zs. table n entry ++ drop n zs) zeros_are ∙ padded-over k (table n entry) n (table-length n entry)

  -- n is one more than the rows
  pub norms-padded : (m r : ℕ) (a b c : List ℕ) (close : Row) → n ≡ r + 1 → r ≤ length a
      → list ≡ norms (lent m (n - 1) a b c close) ++ drop n zeros → list ≡ padded k (norms (lent m r a b c close))
  unfolding norms
  norms-padded m r a b c close count long e =
      let f = lent m r a b c close in
      let rows_are : n - 1 ≡ r = omega arith in
      let size_is : length (norms f) ≡ n = table-length (size f) (norm f) ∙ omega (arith, length-take-le r a long) in
      e ∙ ap₂ (λ j zs. norms (lent m j a b c close) ++ drop n zs) rows_are zeros_are ∙ padded-over k (norms f) n size_is
