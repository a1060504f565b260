-- The closing row shows in no conversion.
--   closed_by row f  the family f with another closing row
--   EqualLengths f   b and c are as long as a
-- Proves that Expand, Adjoint and Decompose are the same for every closing row: code that has no closing row at hand may read any numbers
-- in its place, such as the zeros that its lists are read with past their ends. Assumes nothing.
use Rattle.std.specs.Prelude.{◌≡◌, List, ℕ, ◌<◌}
use Rattle.std.proofs.Common.{ap, arith}
use Rattle.std.proofs.Math.ListN.{length}
use Rattle.definitions.specs.Conversion.{expand, adjoint, decompose}
use Rattle.definitions.specs.Family.{Family, Row, Accepted, rows, row_at}
use Rattle.numbers.specs.Lists.{get_or-default}
use Rattle.theory.specs.SameRows.{Agree, expand-same, adjoint-same, decompose-same}

abbrev pub closed_by : Row → Family → Family
closed_by row f = record { m = f.m; a = f.a; b = f.b; c = f.c; close = row }

pub record EqualLengths (f : Family) : Type 0 where
  pub b_length : length f.b ≡ rows f
  pub c_length : length f.c ≡ rows f

pub accepted-lengths : (f : Family) → Accepted f → EqualLengths f
accepted-lengths f acc = record { b_length = acc.b_length; c_length = acc.c_length }

module _ (f : Family) (equal : EqualLengths f) (row : Row) where
  row_at-close : (i : ℕ) → i < rows f → row_at (closed_by row f) i ≡ row_at f i
  unfolding row_at
  row_at-close i h =
      let lb : length f.b ≡ rows f = equal.b_length in
      let lc : length f.c ≡ rows f = equal.c_length in
      rw (
        get_or-default f.a i row.a f.close.a h,
        get_or-default f.b i row.b f.close.b (omega arith),
        get_or-default f.c i row.c f.close.c (omega arith),
      )

  agree : Agree (rows f) (row_at (closed_by row f)) (row_at f)
  agree = record {
    same_a = λ i h. ap (λ r. r.a) (row_at-close i h);
    same_b = λ i h. ap (λ r. r.b) (row_at-close i h);
    same_c = λ i l h. ap (λ r. r.c) (row_at-close i h);
  }

  pub expand-close : (u : List ℕ) → expand (closed_by row f) u ≡ expand f u
  expand-close = expand-same f f.b f.c row agree

  pub adjoint-close : (u : List ℕ) → adjoint (closed_by row f) u ≡ adjoint f u
  adjoint-close = adjoint-same f f.b f.c row agree

  pub decompose-close : (p : List ℕ) → decompose (closed_by row f) p ≡ decompose f p
  decompose-close = decompose-same f f.b f.c row agree
