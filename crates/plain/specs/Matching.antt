-- Lists of different lengths that match at every place, zero past their ends: a local array and the list of the model that it holds.
--   Match xs ys       the entries are the same at every place
--   ZeroFrom k xs     all entries from k on are zero
-- Proved: a list whose first count entries are written matches a table where all past them is zero; the first n entries of a list that
-- matches one of n; a curve is below m at every place.
-- Assumes nothing.
use Rattle.std.specs.Prelude.{◌≡◌, List, ℕ, ◌≤◌, ◌<◌, length, get_or}
use Rattle.std.proofs.Common.{sym, ◌∙◌, arith}
use Rattle.std.proofs.Math.Logic.{by_cases}
use Rattle.std.proofs.Math.Decide.{dec_lt}
use Rattle.std.proofs.Math.ListN.{get_or-eq_default}
use Rattle.definitions.specs.Family.{Family, Curve, size}
use Rattle.definitions.specs.Number.{table}
use Rattle.numbers.specs.Lists.{table-entry, table-past, table-unique, filled, filled-below, filled-from}
use Rattle.numbers.specs.Products.{Below}

abbrev pub Match : List ℕ → List ℕ → Type 0
Match xs ys = (t : ℕ) → get_or xs t 0 ≡ get_or ys t 0

abbrev pub ZeroFrom : ℕ → List ℕ → Type 0
ZeroFrom count xs = (t : ℕ) → count ≤ t → get_or xs t 0 ≡ 0

module _ (count : ℕ) (old : List ℕ) (past : ZeroFrom count old) where
  pub filled_zero : (g : ℕ → ℕ) → ZeroFrom count (filled g count old)
  filled_zero g t h = filled-from g old count t 0 h ∙ past t h

  -- f is written below count, and has zeros from there to n
  pub filled-matches : (f g : ℕ → ℕ) (n : ℕ) → count ≤ n → ((t : ℕ) → t < count → f t ≡ g t)
      → ((t : ℕ) → count ≤ t → t < n → g t ≡ 0) → Match (filled f count old) (table n g)
  filled-matches f g n l same zero t = by_cases (dec_lt t count)
      (λ h. filled-below f old count t 0 h ∙ same t h ∙ sym (table-entry n g t 0 (omega arith)))
      (λ h. filled_zero f t (omega arith)
      ∙ sym (by_cases (dec_lt t n) (λ k. table-entry n g t 0 k ∙ zero t (omega arith) k) (λ k. table-past n g t 0 (omega arith))))

  -- another list is written over, and has zeros from count on as well
  pub filled-copies : (xs : List ℕ) → ZeroFrom count xs → Match (filled (λ t. get_or xs t 0) count old) xs
  filled-copies xs zero t = by_cases (dec_lt t count) (filled-below (λ t. get_or xs t 0) old count t 0)
      (λ h. filled_zero (λ t. get_or xs t 0) t (omega arith) ∙ sym (zero t (omega arith)))

-- the first n entries of a list that matches one of n entries
pub table-matches : (xs ys : List ℕ) (n : ℕ) → length ys ≡ n → Match xs ys → table n (λ t. get_or xs t 0) ≡ ys
table-matches xs ys n l e = sym (table-unique ys n (λ t. get_or xs t 0) l (λ t h. sym (e t)))

-- a curve's entries are below m at every place
pub curve-below : (f : Family) (s : List ℕ) → 0 < f.m → Curve f s → Below f.m s
curve-below f s pos cs i =
    let long : length s ≡ size f = cs.long in
    by_cases (dec_lt i (size f)) (cs.below i) (λ h. rw (get_or-eq_default s 0 {n = i} (omega arith)) pos)
