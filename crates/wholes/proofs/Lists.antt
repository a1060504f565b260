-- The joined values of two lists of one length.
-- Proved: each joins, and nothing else does at its place (joined-list-joins, joined-list-only); each lies in the range of m m'
-- (joined-list-range), and their remainders are the two lists (joined-list-first, joined-list-second). These rest on Joined of proofs/.
-- Assumes nothing.
use Rattle.std.specs.Prelude.{true, List, map, ◌≡◌, refl, ℕ, ◌*◌, ◌<◌, ℤ, pos, length, get_or}
use Rattle.std.proofs.Common.{sym, ◌∙◌, ap, arith, ext_get_or}
use Rattle.std.proofs.lemmas.List.{length-map}
use Rattle.std.proofs.Math.ListN.{get_or-map}
use Rattle.definitions.specs.Number.{HasInverse}
use Rattle.numbers.specs.Lists.{Each, get_or-default}
use Rattle.joining.specs.Whole.{remainder, in_range, joins, joined, joined_list}
use Rattle.wholes.specs.Joined.{Joins, range-law}
use Rattle.wholes.proofs.Joined.{joined-has, joined-joins, joined-only}
use Rattle.wholes.specs.Lists.{joined-list-length, joined-list-entry}

module _ (m m' : ℕ) (p : 0 < m) (p' : 0 < m') (apart : HasInverse m' m) (xs ys : List ℕ) (same : length ys ≡ length xs)
    (below : Each (λ x. x < m) xs 0) (below' : Each (λ y. y < m') ys 0) where
  joins_at : (i : ℕ) → i < length xs → Joins m m' (get_or xs i 0) (get_or ys i 0) (joined m m' (get_or xs i 0) (get_or ys i 0))
  joins_at i h = joined-has m m' p p' apart (get_or xs i 0) (get_or ys i 0) (below i h) (below' i (omega arith))

  pub joined-list-range : (i : ℕ) → i < length xs → in_range (m * m') (get_or (joined_list m m' xs ys) i (pos 0)) ≡ true
  joined-list-range i h = rw (joined-list-entry m m' xs ys i (pos 0) same h) ((range-law (m * m') _).1 (joins_at i h).range)

  pub joined-list-joins : (i : ℕ) → i < length xs → joins m m' (get_or xs i 0) (get_or ys i 0) (get_or (joined_list m m' xs ys) i (pos 0)) ≡ true
  joined-list-joins i h =
      rw (joined-list-entry m m' xs ys i (pos 0) same h)
      (joined-joins m m' p p' apart (get_or xs i 0) (get_or ys i 0) (below i h) (below' i (omega arith)))

  pub joined-list-only : (i : ℕ) → i < length xs → (v : ℤ) → joins m m' (get_or xs i 0) (get_or ys i 0) v ≡ true
      → get_or (joined_list m m' xs ys) i (pos 0) ≡ v
  joined-list-only i h v e = joined-list-entry m m' xs ys i (pos 0) same h ∙ sym (joined-only m m' p p' apart _ _ v e)

  -- the remainders modulo a number, where each is the entry of a list
  remainders-are : (k : ℕ) (zs : List ℕ) → length zs ≡ length xs
      → ((i : ℕ) → i < length xs → remainder k (joined m m' (get_or xs i 0) (get_or ys i 0)) ≡ get_or zs i 0)
      → map (remainder k) (joined_list m m' xs ys) ≡ zs
  remainders-are k zs e each =
      ext_get_or (remainder k (pos 0)) (map (remainder k) (joined_list m m' xs ys)) zs
      (length-map (joined_list m m' xs ys) (remainder k) ∙ joined-list-length m m' xs ys same ∙ sym e)
      (λ i h.
      let l : i < length xs = omega (arith, length-map (joined_list m m' xs ys) (remainder k), joined-list-length m m' xs ys same) in
      get_or-map (remainder k) (joined_list m m' xs ys) i (pos 0) ∙ ap (remainder k) (joined-list-entry m m' xs ys i (pos 0) same l) ∙ each i l
      ∙ get_or-default zs i 0 (remainder k (pos 0)) (omega arith))

  pub joined-list-first : map (remainder m) (joined_list m m' xs ys) ≡ xs
  joined-list-first = remainders-are m xs refl (λ i h. (joins_at i h).first)

  pub joined-list-second : map (remainder m') (joined_list m m' xs ys) ≡ ys
  joined-list-second = remainders-are m' ys same (λ i h. (joins_at i h).second)
