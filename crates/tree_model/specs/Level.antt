-- How many rows a tree covers: the least power of two, from 2 on, that is not below n.
--   span l       the rows under a node of level l, 2 times 2^l: 2, 4, 8, ..
--   level_for n  the least level whose span is n or more
-- Proved: a span is a power of two, a higher level has at least twice the span. In Level of proofs/, for every n: the level covers n and is the
-- least that does; a level whose span is n or more and less than 2 n is that one, which is what code shows of the leading zeros of n - 1. Up
-- to n = 256 the span is 256 at most, and it covers the n + 1 = 129 coefficients of F_n at 127 rows. The report, section 2; the scope paper,
-- 'The tree covers the least power of two'. Assumes nothing.
use Rattle.std.specs.Prelude.{◌≡◌, refl, true, false, ◌⊎◌, ℕ, zero, suc, ◌+◌, ◌*◌, ◌^◌, ◌<◌, ◌≤◌, leb}
use Rattle.std.proofs.Common.{ap, inl, inr, eq-or-lt_of_le, le_refl, le_of_suc-le-suc}
use native.Mathlib.Omega.{arith}

unfoldable pub span : ℕ → ℕ
span zero = 2
span (suc l) = span l + span l

-- the first of the levels l, l + 1, .., l + k - 1 that covers n, and l + k if none does
unfoldable pub level_from : ℕ → ℕ → ℕ → ℕ
level_from n zero l = l
level_from n (suc k) l = elim (leb n (span l)) [ true ↦ l | false ↦ level_from n k (suc l) ]

unfoldable pub level_for : ℕ → ℕ
level_for n = level_from n n 0

-- ---- spans
pub span-zero : span 0 ≡ 2
unfolding span
span-zero = refl

pub span-suc : (l : ℕ) → span (suc l) ≡ span l + span l
unfolding span
span-suc l = refl

pub span-power : (l : ℕ) → span l ≡ 2 * 2 ^ l
unfolding span
span-power zero = refl
span-power (suc l) = let e : span l ≡ 2 * 2 ^ l = span-power l in omega arith

pub span-two : (l : ℕ) → 2 ≤ span l
unfolding span
span-two zero = omega arith
span-two (suc l) = let h : 2 ≤ span l = span-two l in omega arith

-- a higher level has at least twice the span
pub span-doubles : (l k : ℕ) → l < k → span l + span l ≤ span k
unfolding span
span-doubles l zero h = absurd (omega arith)
span-doubles l (suc k) h = at (eq-or-lt_of_le (le_of_suc-le-suc h)) (span-doubles l k)
  where
    at : (l ≡ k) ⊎ (l < k) → (l < k → span l + span l ≤ span k) → span l + span l ≤ span k + span k
    at (inl e) ih = let s : span l ≡ span k = ap span e in omega arith
    at (inr p) ih = let s : span l + span l ≤ span k = ih p in omega arith

pub span-mono : (l k : ℕ) → l ≤ k → span l ≤ span k
span-mono l k h = at (eq-or-lt_of_le h)
  where
    at : (l ≡ k) ⊎ (l < k) → span l ≤ span k
    at (inl e) = rw e (le_refl (span k))
    at (inr p) = omega (arith, span-doubles l k p)
