-- The definitions, read as residues modulo m, are those of the ring of residues.
--   entries m pos u      a list as a sequence of residues, zero past its end
--   ring_rows m pos row  rows of numbers as rows of residues
--   rows_of f pos        the rows of a family, the closing row from row n on
-- Proves that the residues of F_j and G_j are the terms of the recurrence over the ring (term-further is the one over numbers), that
-- the entries of Expand and Adjoint are sums in it, and that these lists are curves, which their residues settle.
-- pos, that m is not zero, is all that is needed: no inverse, and nothing of the rows or of the curve. Assumes nothing.
use Rattle.std.specs.Prelude.{◌≡◌, List, length}
use Rattle.std.proofs.Math.Path.{refl, ap}
use Rattle.std.proofs.Common.{◌∙◌}
use Prim.Native.Nat.{ℕ, zero, suc, ◌+◌, ◌*◌, ◌%◌, ◌<◌, ◌≤◌}
use Rattle.std.proofs.Math.Nat.{mod-lt}
use Rattle.std.proofs.Math.ListN.{get_or, get_or-eq_default}
use Rattle.algebra.specs.Residues.{Zmod, res, res-zero, res_one, res-add, res-mul, res-mod}
use Rattle.algebra.specs.Ring.{CommRing}
use Rattle.algebra.specs.Sum as Sum
use Rattle.algebra.specs.Variable.{shift}
use Rattle.definitions.specs.Conversion.{expand, adjoint}
use Rattle.definitions.specs.Family as Family
use Rattle.definitions.specs.Family.{Family, Row, Curve, size, row_at, times_x, F, G}
use Rattle.definitions.specs.Number.{sum}
use Rattle.numbers.specs.Lists.{table-entry}
use Rattle.numbers.specs.Residue.{residue-sum}
use Rattle.theory.specs.Curves.{table-curve}
use Rattle.theory.specs.Recurrence.{Rows, later, term, term-step}

-- a further term of the recurrence over the numbers
pub term-further : (m : ℕ) (row : ℕ → Row) (k i : ℕ) → Family.term m row (suc (suc k)) i
    ≡ ((row k).a * times_x (Family.term m row (suc k)) i + (row k).b * Family.term m row (suc k) i + (row k).c * Family.term m row k i) % m
unfolding Family.term
term-further m row k i = refl

module _ (m : ℕ) (pos : 0 < m) where
  abbrev R : CommRing
  R = Zmod m pos

  open R use {Car, add as ◌⊕◌, mul as ◌⊗◌}

  infixl 65 ◌⊕◌
  infixl 70 ◌⊗◌
  abbrev pub entries : List ℕ → ℕ → Car
  entries u i = res m pos (get_or u i 0)

  pub entries-past : (u : List ℕ) (i : ℕ) → length u ≤ i → entries u i ≡ R.zero
  entries-past u i h = ap (res m pos) (get_or-eq_default u 0 h) ∙ res-zero m pos

  abbrev pub ring_rows : (ℕ → Row) → Rows R
  ring_rows row = record { a = λ i. res m pos (row i).a; b = λ i. res m pos (row i).b; c = λ i. res m pos (row i).c }

  res-times_x : (p : ℕ → ℕ) (i : ℕ) → res m pos (times_x p i) ≡ shift R (λ j. res m pos (p j)) i
  unfolding times_x
  res-times_x p zero = res-zero m pos
  res-times_x p (suc i) = refl

  -- ---- the recurrence
  res-term-first : (row : ℕ → Row) (i : ℕ) → res m pos (Family.term m row 1 i) ≡ term R (ring_rows row) 1 i
  unfolding Family.term term
  res-term-first row zero = res_one m pos
  res-term-first row (suc i) = res-zero m pos

  res-term-none : (row : ℕ → Row) (i : ℕ) → res m pos (Family.term m row 0 i) ≡ term R (ring_rows row) 0 i
  unfolding Family.term term
  res-term-none row i = res-zero m pos

  pub res-term : (row : ℕ → Row) (k i : ℕ) → res m pos (Family.term m row k i) ≡ term R (ring_rows row) k i
  res-term row zero i = res-term-none row i
  res-term row (suc zero) i = res-term-first row i
  res-term row (suc (suc k)) i =
      simp (term-further m, res-mod m pos, res-add m pos, res-mul m pos, res-times_x, term-step R, res-term row (suc k), res-term row k)

-- ---- a family
module _ (f : Family) (pos : 0 < f.m) where
  abbrev Q : CommRing
  Q = Zmod f.m pos

  open Q use {Car, mul as ◌⊗◌}

  infixl 70 ◌⊗◌
  abbrev pub rows_of : Rows Q
  rows_of = ring_rows f.m pos (row_at f)

  pub res-F : (j i : ℕ) → res f.m pos (F f j i) ≡ term Q rows_of (suc j) i
  unfolding F
  res-F j i = res-term f.m pos (row_at f) (suc j) i

  pub res-G : (j i : ℕ) → res f.m pos (G f j i) ≡ term Q (later Q rows_of) (suc j) i
  unfolding G
  res-G j i = res-term f.m pos (λ i. row_at f (suc i)) (suc j) i

  pub entries-expand : (u : List ℕ) (i : ℕ) → i < size f
      → entries f.m pos (expand f u) i ≡ Sum.sum Q (size f) (λ j. entries f.m pos u j ⊗ term Q rows_of (suc j) i)
  unfolding expand
  entries-expand u i h = ap (res f.m pos) (table-entry (size f) (λ i. sum (size f) (λ j. get_or u j 0 * F f j i) % f.m) i 0 h)
      ∙ simp (res-mod f.m pos, residue-sum f.m pos, res-mul f.m pos, res-F)

  pub entries-adjoint : (u : List ℕ) (j : ℕ) → j < size f
      → entries f.m pos (adjoint f u) j ≡ Sum.sum Q (size f) (λ i. entries f.m pos u i ⊗ term Q rows_of (suc j) i)
  unfolding adjoint
  entries-adjoint u j h = ap (res f.m pos) (table-entry (size f) (λ j. sum (size f) (λ i. get_or u i 0 * F f j i) % f.m) j 0 h)
      ∙ simp (res-mod f.m pos, residue-sum f.m pos, res-mul f.m pos, res-F)

  -- ---- curves
  pub expand-curve : (u : List ℕ) → Curve f (expand f u)
  unfolding expand
  expand-curve u = table-curve f _ (λ i h. mod-lt _ pos)

  pub adjoint-curve : (u : List ℕ) → Curve f (adjoint f u)
  unfolding adjoint
  adjoint-curve u = table-curve f _ (λ i h. mod-lt _ pos)
