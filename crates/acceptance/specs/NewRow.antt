-- The tests 9, 17, 10, 18 and 11 of a new row, each by the name of its number: row_tests of `definitions` has them in this order. Assumes nothing.
use Rattle.std.specs.Prelude.{◌||◌, ◌&&◌, ℕ, eqb, leb}
use Rattle.definitions.specs.Family.{Row, first_c}
use Rattle.definitions.specs.Refusals.{Test, test, not_below, no_inverse}

module _ (m place : ℕ) (row : Row) where
  abbrev pub nine : Test
  nine = test 9 (not_below m row.a || not_below m row.b || not_below m row.c)

  abbrev pub seventeen : Test
  seventeen = test 17 (eqb row.a 0)

  abbrev pub ten : Test
  ten = test 10 (no_inverse m row.a)

  abbrev pub eighteen : Test
  eighteen = test 18 (leb first_c place && eqb row.c 0)

  abbrev pub eleven : Test
  eleven = test 11 (leb first_c place && no_inverse m row.c)
