-- The family and the curve that a conversion's lists stand for, as the loops know them.
--   Fitting f u n   the family has n - 1 rows, the list is a curve of it, and both fit the local arrays
--   RowsBelow f    every row is below m, those past the end too, which read as the closing row
-- Proved: the lists that a conversion is lent stand for such a family and curve.
-- Assumes nothing.
use Rattle.std.specs.Prelude.{◌≡◌, List, ℕ, ◌-◌, ◌≤◌, ◌<◌, length, take}
use Rattle.std.proofs.Common.{sym, ◌∙◌, arith, length-take-le, get_or-take}
use Rattle.std.proofs.Math.Logic.{by_cases}
use Rattle.std.proofs.Math.Decide.{dec_lt}
use Rattle.definitions.specs.Family.{Family, Row, RowBelow, Curve, greatest_modulus, ones, size, row_at}
use Rattle.lists.specs.Lent.{Long, LentRows, lent, lent-size, lent-inside, lent-past}
use Rattle.plain.specs.Input.{ConvertInput}

pub record Fitting (f : Family) (u : List ℕ) (n : ℕ) : Type 0 where
  pub positive : 0 < f.m
  pub greatest : f.m ≤ greatest_modulus
  pub sized : size f ≡ n
  pub fits : n ≤ 128
  pub curve : Curve f u

abbrev pub RowsBelow : Family → Type 0
RowsBelow f = (i : ℕ) → RowBelow f.m (row_at f i)

lent_below : (m r : ℕ) (a b c : List ℕ) (close : Row) → LentRows m r a b c → RowBelow m close → RowsBelow (lent m r a b c close)
lent_below m r a b c close h closing i =
    let long : Long r a b c = record { a_long = h.a_holds.long; b_long = h.b_holds.long; c_long = h.c_holds.long } in
    by_cases (dec_lt i r)
    (λ l. rw (lent-inside m r a b c close long i l)
    (record { a_below = h.a_holds.below i l; b_below = h.b_holds.below i l; c_below = h.c_holds.below i l }))
    (λ l. rw (lent-past m r a b c close long i (omega arith)) closing)

module _ {m n : ℕ} {a b c u output : List ℕ} (input : ConvertInput m a b c u n output) where
  two : 2 ≤ m
  two = input.rows.modulus.least

  -- whatever the list of the a, if it is long enough
  pub input-fitting : (xs : List ℕ) → n - 1 ≤ length xs → Fitting (lent m (n - 1) xs b c ones) (take n u) n
  input-fitting xs h =
      let long : Long (n - 1) xs b c = record { a_long = h; b_long = input.rows.b_holds.long; c_long = input.rows.c_holds.long } in
      let some : 1 ≤ n = input.least in
      let sized : size (lent m (n - 1) xs b c ones) ≡ n = lent-size m (n - 1) xs b c ones long ∙ omega arith in
      record {
        positive = omega (arith, two);
        greatest = input.rows.modulus.greatest;
        sized = sized;
        fits = input.most;
        curve = record {
          long = length-take-le n u input.curve_holds.long ∙ sym sized;
          below = λ i l.
              let g : i < n = rw sized at l in
              rw (get_or-take n u i 0 g) (input.curve_holds.below i g);
        };
      }

  pub input-below : RowsBelow (lent m (n - 1) a b c ones)
  input-below = lent_below m (n - 1) a b c ones input.rows
      (record { a_below = omega (arith, two); b_below = omega (arith, two); c_below = omega (arith, two) })
