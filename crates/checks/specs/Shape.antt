-- The shape of a family.
--   Shaped m a b c   what the tests 3, 4 and 5 ask for, of the modulus and the lengths of the three lists
-- Proved: where they pass the family is so. Assumes nothing.
use Rattle.std.specs.Prelude.{◌≡◌, [], ℕ, ◌≤◌, Ok}
use Rattle.definitions.specs.Answers.{Answer, answered}
use Rattle.definitions.specs.Family.{Modulus, most_rows}
use Rattle.definitions.specs.Refusals.{verdict, shape_tests}
use Rattle.acceptance.specs.Stages.{stage-none}
use Rattle.acceptance.specs.Verdicts.{None, modulus-passes, equal-lengths-pass, row-count-passes}

pub record Shaped (m a b c : ℕ) : Type 0 where
  pub modulus : Modulus m
  pub b_length : b ≡ a
  pub c_length : c ≡ a
  pub few : a ≤ most_rows

pub shape-passes : (m a b c : ℕ) → None (shape_tests m a b c) → Shaped m a b c
unfolding shape_tests
shape-passes m a b c (e3, (e4, (e5, done))) =
    let equal = (equal-lengths-pass a b c).0 e4 in
    record { modulus = (modulus-passes m).0 e3; b_length = equal.0; c_length = equal.1; few = (row-count-passes a).0 e5 }

pub shaped : (m a b c : ℕ) (r : Answer) → answered r ≡ verdict (shape_tests m a b c) [] → r ≡ Ok tt → Shaped m a b c
shaped m a b c r is q = shape-passes m a b c (stage-none (shape_tests m a b c) r is q)
