-- The inverses of a list from a place on.
--   inverse_from m first list i  0 below first, and from there on the inverse of entry i
-- Proved: zeros before a place and the inverses from there on, written behind them, are these. Assumes nothing.
use Rattle.std.specs.Prelude.{◌≡◌, true, false, ℕ, ◌+◌, ◌-◌, ◌<◌, ◌≤◌, ltb, get_or}
use Rattle.std.proofs.Common.{sym, ◌∙◌, length-append, length-drop, take_all, get_or-drop, get_or-append-add, lt-ltb, le-ltb}
use Rattle.std.proofs.Math.Path.{ap}
use Rattle.std.proofs.Math.Logic.{by_cases}
use mathlib.Core.List.{List, [], ◌++◌, append_assoc, append-nil}
use Rattle.std.proofs.Math.Decide.{dec_lt}
use native.Mathlib.Omega.{arith}
use Rattle.std.proofs.Math.ListN.{length, take, drop, get_or-append}
use Rattle.std.proofs.Math.Seq.{take_at, drop_at, drop-drop, drop-length}
use borrow.Rule.Slice.PartMut.{put_mid, mid_of}
use Rattle.definitions.specs.Number.{inverse, table}
use Rattle.numbers.specs.Lists.{table-length, table-entry, table-unique, filled, filled-length}

unfoldable pub inverse_from : ℕ → ℕ → List ℕ → ℕ → ℕ
inverse_from m first list i = elim (ltb i first) [ true ↦ 0 | false ↦ inverse m (get_or list i 0) ]

from-before : (m first : ℕ) (list : List ℕ) (i : ℕ) → i < first → 0 ≡ inverse_from m first list i
unfolding inverse_from
from-before m first list i h = rw (lt-ltb i first h, inverse_from)

from-there : (m first : ℕ) (list : List ℕ) (i : ℕ) → first ≤ i → inverse m (get_or list i 0) ≡ inverse_from m first list i
unfolding inverse_from
from-there m first list i h = rw (le-ltb i first h, inverse_from)

-- a table in two parts
table-parts : (s k n : ℕ) (before behind f : ℕ → ℕ) → s + k ≡ n
    → ((i : ℕ) → i < s → before i ≡ f i) → ((i : ℕ) → i < k → behind i ≡ f (s + i))
    → table s before ++ table k behind ≡ table n f
table-parts s k n before behind f end early late = table-unique parts n f (simp (length-append, table-length) end) entry
  where
    parts : List ℕ
    parts = table s before ++ table k behind

    entry : (i : ℕ) → i < n → get_or parts i 0 ≡ f i
    entry i h = by_cases (dec_lt i s)
        (λ l. get_or-append (table s before) (table k behind) 0 i (simp table-length l) ∙ table-entry s before i 0 l ∙ early i l)
        (λ l.
        let e : i ≡ length (table s before) + (i - s) = simp table-length (omega arith) in
        let g : s + (i - s) ≡ i = omega arith in
        ap (λ j. get_or parts j 0) e ∙ get_or-append-add (table s before) (table k behind) (i - s) 0
        ∙ table-entry k behind (i - s) 0 (omega arith) ∙ late (i - s) (omega arith) ∙ ap f g)

-- zeros before the place s, then the inverses of what is behind it
module _ (m first n count : ℕ) (counted : count ≡ n - first) (list old : List ℕ) (room : n ≤ length old) where
  abbrev s : ℕ
  s = n - count

  abbrev lent_behind : List ℕ → List ℕ
  lent_behind xs = mid_of s (length xs - s) xs

  whole-behind : (xs : List ℕ) → lent_behind xs ≡ drop s xs
  whole-behind xs = take_all (length xs - s) (drop s xs) (omega (arith, length-drop s xs))

  abbrev entry : ℕ → ℕ
  entry i = inverse m (get_or (lent_behind list) i 0)

  pub range-filled : (zeros part : List ℕ) → zeros ≡ filled (λ i. 0) s old
      → part ≡ filled entry count (lent_behind zeros)
      → put_mid s (length zeros - s) zeros part ≡ filled (inverse_from m first list) n old
  unfolding filled
  range-filled zeros part ez ep =
      let front : take s zeros ≡ table s (λ i. 0) = ap (take s) ez ∙ take_at (table s (λ i. 0)) (drop s old) s (table-length s (λ i. 0)) in
      let back : drop s zeros ≡ drop s old = ap (drop s) ez ∙ drop_at (table s (λ i. 0)) (drop s old) s (table-length s (λ i. 0)) in
      let long : length zeros ≡ length old = ap length ez ∙ filled-length (λ i. 0) old s (omega arith) in
      let last : s + (length zeros - s) ≡ length zeros = omega arith in
      let none : drop (length zeros - s) (drop s zeros) ≡ [] =
      drop-drop (length zeros - s) s zeros ∙ ap (λ k. drop k zeros) last ∙ drop-length zeros in
      let end : s + count ≡ n = omega arith in
      let rest : drop count (lent_behind zeros) ≡ drop n old =
      ap (drop count) (whole-behind zeros ∙ back) ∙ drop-drop count s old ∙ ap (λ k. drop k old) end in
      let parts = table-parts s count n (λ i. 0) entry (inverse_from m first list) end (λ i h. from-before m first list i (omega arith))
      (λ i h. ap (λ xs. inverse m (get_or xs i 0)) (whole-behind list) ∙ ap (inverse m) (get_or-drop s list i 0)
      ∙ from-there m first list (s + i) (omega arith)) in
      rw (front, none, append-nil, ep, rest)
      (sym (append_assoc (table s (λ i. 0)) (table count entry) (drop n old)) ∙ ap (λ t. t ++ drop n old) parts)
