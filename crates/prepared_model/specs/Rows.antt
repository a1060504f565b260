-- The family of the first rows of three lists, closed by 1 1 1, accepted row by row.
--   listed a b c i       row i + 1 of the lists
--   NewRow m place row   a row that may stand at that place: its numbers are below m, and its a has an inverse, and its c from row 2 on
-- Proved: it is accepted where its modulus is one, its rows are few, and each row passes by itself. Assumes nothing.
use Rattle.std.specs.Prelude.{◌≡◌, List, ℕ, ◌<◌, ◌≤◌, get_or}
use Rattle.std.proofs.Common.{sym, ◌∙◌, arith, length-take-le}
use Rattle.std.proofs.Math.Logic.{by_cases}
use Rattle.std.proofs.Math.Decide.{dec_lt}
use Rattle.definitions.specs.Family.{Family, Row, Modulus, RowBelow, Accepted, most_rows, first_c, row_of, ones, rows, row_at}
use Rattle.definitions.specs.Number.{HasInverse}
use Rattle.numbers.specs.Inverse.{one-has-inverse}
use Rattle.lists.specs.Lent.{Long, lent, lent_rows, lent-inside, lent-past}

abbrev pub listed : List ℕ → List ℕ → List ℕ → ℕ → Row
listed a b c i = row_of (get_or a i 0) (get_or b i 0) (get_or c i 0)

pub record NewRow (m place : ℕ) (row : Row) : Type 0 where
  pub below : RowBelow m row
  pub a_inverse : HasInverse m row.a
  pub c_inverse : first_c ≤ place → HasInverse m row.c

module _ {m r : ℕ} {a b c : List ℕ} (modulus : Modulus m) (few : r ≤ most_rows) (long : Long r a b c)
    (each : (i : ℕ) → i < r → NewRow m i (listed a b c i)) where
  abbrev f : Family
  f = lent m r a b c ones

  least : 1 < m
  least = omega (arith, modulus.least)

  rows_are : rows f ≡ r
  rows_are = lent_rows m r a b c ones long

  -- 1 1 1 may stand anywhere
  closing : (i : ℕ) → NewRow m i ones
  closing i = record {
    below = record { a_below = least; b_below = least; c_below = least };
    a_inverse = one-has-inverse m least;
    c_inverse = λ _. one-has-inverse m least;
  }

  at : (i : ℕ) → NewRow m i (row_at f i)
  at i = by_cases (dec_lt i r)
      (λ l. rw (lent-inside m r a b c ones long i l) (each i l))
      (λ l. rw (lent-past m r a b c ones long i (omega arith)) (closing i))

  pub rows-accepted : Accepted f
  rows-accepted = record {
    modulus = modulus;
    b_length = length-take-le r b long.b_long ∙ sym rows_are;
    c_length = length-take-le r c long.c_long ∙ sym rows_are;
    row_count = omega (arith, rows_are, few);
    below = λ i h. (at i).below;
    a_inverse = λ i h. (at i).a_inverse;
    c_inverse = λ i l h. (at i).c_inverse l;
  }
