-- The least level that covers n.
-- Proved for every n: the level of n covers it and is the least that does; a level whose span is n or more and less than 2 n is that one;
-- up to n = 256 the span is 256 at most. These rest on level_from, which an edit of specs/ changes.
-- Assumes nothing.
use Rattle.std.specs.Prelude.{◌≡◌, refl, Bool, true, false, ℕ, zero, suc, ◌+◌, ◌*◌, ◌<◌, ◌≤◌, leb}
use Rattle.std.proofs.Common.{add-zero, add-suc, suc-add, zero-add, le_of_suc-le-suc, leb-true}
use Rattle.std.proofs.Common.{leb-false}
use native.Mathlib.Omega.{arith, by_contra}
use Rattle.tree_model.specs.Level.{span, level_from, level_for, span-doubles, span-mono}

-- every number is covered by some level
span-past : (n : ℕ) → n < span n
unfolding span
span-past zero = omega arith
span-past (suc n) = let h : n < span n = span-past n in omega arith

-- ---- the search
level-step : (P : ℕ → Type 0) (n k l : ℕ) → (n ≤ span l → P l) → (span l < n → P (level_from n k (suc l))) → P (level_from n (suc k) l)
unfolding level_from
level-step P n k l here next = at (leb n (span l)) refl
  where
    at : (b : Bool) → leb n (span l) ≡ b → P (elim b as (λ _. ℕ) [ true ↦ l | false ↦ level_from n k (suc l) ])
    at true e = here (leb-true n (span l) e)
    at false e = next (leb-false n (span l) e)

from-covers : (n k l : ℕ) → n ≤ span (l + k) → n ≤ span (level_from n k l)
unfolding level_from
from-covers n zero l h = rw (← add-zero l) h
from-covers n (suc k) l h = level-step (λ t. n ≤ span t) n k l (λ c. c) (λ _. from-covers n k (suc l) (rw (suc-add, ← add-suc) h))

from-least : (n k l g : ℕ) → n ≤ span g → l ≤ g → level_from n k l ≤ g
unfolding level_from
from-least n zero l g c h = h
from-least n (suc k) l g c h = level-step (λ t. t ≤ g) n k l (λ _. h) (λ p. from-least n k (suc l) g c (next p))
  where
    next : span l < n → l < g
    next p = by_contra (suc l) g (λ q. let s : span g ≤ span l = span-mono g l (le_of_suc-le-suc q) in omega arith)

-- ---- the level
pub level-covers : (n : ℕ) → n ≤ span (level_for n)
unfolding level_for
level-covers n = from-covers n n 0 (rw zero-add (omega (arith, span-past n)))

pub level-least : (n l : ℕ) → n ≤ span l → level_for n ≤ l
unfolding level_for
level-least n l c = from-least n n 0 l c (omega arith)

pub level-unique : (n l : ℕ) → n ≤ span l → span l < 2 * n → l ≡ level_for n
level-unique n l c b =
    let below : level_for n ≤ l = level-least n l c in
    let above : l ≤ level_for n = by_contra l (level_for n) (λ p. omega (arith, span-doubles (level_for n) l p, level-covers n)) in
    omega arith

-- the greatest span that the working list has room for
pub level-most : (n : ℕ) → n ≤ 256 → span (level_for n) ≤ 256
unfolding span
level-most n h = span-mono (level_for n) 7 (level-least n 7 h)
